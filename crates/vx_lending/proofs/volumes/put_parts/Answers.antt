-- The regions are put back, and then the copies.
use Rattle.std.proofs.Common.{◌++◌, List, map, subst, sym}
use Rattle.vx_piece.specs.Seen.{Seen}
use Rattle.vx_carve.specs.Together.{SameSectors}
use Rattle.vx_maps.specs.Spares.{copies_seen}
use Rattle.vx_lending.specs.RegionPieces.{all_pieces, cell_plexes}
use Rattle.vx_lending.specs.Pieces.{copy_pieces}
use Rattle.vx_lending.proofs.Sums.{both_put, first_left}
use Rattle.vx_lending.proofs.volumes.put_parts.Goals as goal

pub returns-in-Ok-put_copies-clause-put : goal.returns-in-Ok-put_copies-clause-put
returns-in-Ok-put_copies-clause-put g c =
    both_put (all_pieces (cell_plexes g.P.Piece.seen c.args.cells.items)) (copy_pieces (copies_seen g.P.Piece.seen c.args.copies.items)) (map g.P.Piece.seen c.args.pool.now.items.items) (map g.P.Piece.seen c.put_cells.new.pool.items.items) (map g.P.Piece.seen c.put_copies.new.pool.items.items)
    c.in-Ok.ensures.put c.in-Ok-put_copies.ensures.put

pub returns-in-Err-put_copies-clause-left : goal.returns-in-Err-put_copies-clause-left
returns-in-Err-put_copies-clause-left g c =
    let back : List Seen = copy_pieces (copies_seen g.P.Piece.seen c.in-Err-put_copies.copies.items) in
    let now : List Seen = map g.P.Piece.seen c.put_copies.new.pool.items.items in
    subst (λ rs. SameSectors ((all_pieces (cell_plexes g.P.Piece.seen c.args.cells.items) ++ copy_pieces (copies_seen g.P.Piece.seen c.args.copies.items)) ++ map g.P.Piece.seen c.args.pool.now.items.items) ((all_pieces (cell_plexes g.P.Piece.seen rs) ++ back) ++ now)) (sym c.new.ensures.items)
    (both_put (all_pieces (cell_plexes g.P.Piece.seen c.args.cells.items)) (copy_pieces (copies_seen g.P.Piece.seen c.args.copies.items)) (map g.P.Piece.seen c.args.pool.now.items.items) (map g.P.Piece.seen c.put_cells.new.pool.items.items) (back ++ now)
    c.in-Ok.ensures.put c.in-Err-put_copies.ensures.left)

pub returns-in-Err-clause-left : goal.returns-in-Err-clause-left
returns-in-Err-clause-left g c =
    first_left (all_pieces (cell_plexes g.P.Piece.seen c.args.cells.items)) (copy_pieces (copies_seen g.P.Piece.seen c.args.copies.items)) (all_pieces (cell_plexes g.P.Piece.seen c.in-Err.cells.items)) (map g.P.Piece.seen c.args.pool.now.items.items) (map g.P.Piece.seen c.put_cells.new.pool.items.items)
    c.in-Err.ensures.left
