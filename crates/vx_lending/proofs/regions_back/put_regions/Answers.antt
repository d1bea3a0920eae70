-- The regions are turned round before they are put back.
use Rattle.std.proofs.Common.{arith, ◌++◌, List, map}
use Rattle.vx_carve.specs.Together.{SameSectors}
use Rattle.vx_carve.proofs.Same.{same_refl, same_trans}
use Rattle.vx_cell.specs.Plexes.{PlexSeen, plexes_seen}
use Rattle.vx_volume.specs.Opening.{regions_seen}
use Rattle.vx_lending.specs.RegionPieces.{all_pieces, pieces_of}
use Rattle.vx_lending.proofs.RegionLists.{same_turned, long_turned, map_turned, on_ok, if_err}
use Rattle.vx_lending.proofs.regions_back.put_regions.Goals as goal

pub returns-clause-put : goal.returns-clause-put
returns-clause-put g c =
    let rows : List (List PlexSeen) = regions_seen g.P.Piece.seen c.args.regions.items in
    let turned : List (List PlexSeen) = regions_seen g.P.Piece.seen c.reverse.new.self.items in
    let same = same_turned pieces_of (all_pieces rows ++ map g.P.Piece.seen c.args.pool.now.items.items) (map g.P.Piece.seen c.args.pool.now.items.items) rows turned (same_refl _) (map_turned (λ x. plexes_seen g.P.Piece.seen x.items) c.args.regions.items c.reverse.new.self.items c.reverse.ensures.items) in
    on_ok c.put_last.result (λ put. same_trans _ _ _ same put) c.put_last.ensures.put

pub returns-clause-left : goal.returns-clause-left
returns-clause-left g c =
    let rows : List (List PlexSeen) = regions_seen g.P.Piece.seen c.args.regions.items in
    let turned : List (List PlexSeen) = regions_seen g.P.Piece.seen c.reverse.new.self.items in
    let pool = map g.P.Piece.seen c.args.pool.now.items.items in
    let same = same_turned pieces_of (all_pieces rows ++ pool) pool rows turned (same_refl _) (map_turned (λ x. plexes_seen g.P.Piece.seen x.items) c.args.regions.items c.reverse.new.self.items c.reverse.ensures.items) in
    if_err (λ v. SameSectors (all_pieces turned ++ pool) (all_pieces (regions_seen g.P.Piece.seen v.items) ++ map g.P.Piece.seen c.put_last.new.pool.items.items)) (λ v. SameSectors (all_pieces rows ++ pool) (all_pieces (regions_seen g.P.Piece.seen v.items) ++ map g.P.Piece.seen c.put_last.new.pool.items.items))
    c.put_last.result (λ v put. same_trans _ _ _ same put) c.put_last.ensures.left

pub returns-clause-room : goal.returns-clause-room
returns-clause-room g c room =
    let long = long_turned pieces_of (regions_seen g.P.Piece.seen c.args.regions.items) (regions_seen g.P.Piece.seen c.reverse.new.self.items) (map_turned (λ x. plexes_seen g.P.Piece.seen x.items) c.args.regions.items c.reverse.new.self.items c.reverse.ensures.items) in
    c.put_last.ensures.room (omega (arith, room, long))

pub returns-clause-longer : goal.returns-clause-longer
returns-clause-longer g c =
    let long = long_turned pieces_of (regions_seen g.P.Piece.seen c.args.regions.items) (regions_seen g.P.Piece.seen c.reverse.new.self.items) (map_turned (λ x. plexes_seen g.P.Piece.seen x.items) c.args.regions.items c.reverse.new.self.items c.reverse.ensures.items) in
    on_ok c.put_last.result (λ longer. omega (arith, longer, long)) c.put_last.ensures.longer
