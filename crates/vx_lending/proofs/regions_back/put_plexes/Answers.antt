-- The plexes are put back one after the other.
use Rattle.std.proofs.Common.{rules, arith, ◌≡◌, ◌++◌, [], ◌∷◌, List, map, ◌∙◌, subst, sym, refl}
use Rattle.std.proofs.lemmas.List.{length-map}
use Rattle.vx_carve.specs.Together.{SameSectors}
use Rattle.vx_carve.proofs.Same.{same_refl}
use Rattle.vx_cell.specs.Plexes.{PlexSeen, plex_seen, plexes_seen}
use Rattle.vx_lending.specs.RegionPieces.{own_pieces, pieces_of}
use Rattle.vx_lending.proofs.RegionLists.{same_turned, same_less, same_done, long_last, long_turned}
use Rattle.vx_lending.proofs.Regions.{seen_last, seen_turned}
use Rattle.vx_lending.proofs.regions_back.put_plexes.Goals as goal

pub left-init : goal.left-init
left-init g c =
    let turned = seen_turned g.P.Piece.seen c.args.plexes.items c.reverse.new.self.items c.reverse.ensures.items in
    record {
      same = same_turned own_pieces _ (map g.P.Piece.seen c.args.pool.now.items.items) (plexes_seen g.P.Piece.seen c.args.plexes.items) (plexes_seen g.P.Piece.seen c.reverse.new.self.items) (same_refl _) turned;
      capacity = refl;
      room = (let long = long_turned own_pieces (plexes_seen g.P.Piece.seen c.args.plexes.items) (plexes_seen g.P.Piece.seen c.reverse.new.self.items) turned in omega (arith, long));
    }

pub left-preserved : goal.left-preserved
left-preserved g c =
    let items : c.left.left.items ≡ c.pop.new.self.items ++ c.in-Some.plex ∷ [] = search rules in
    let rest : List PlexSeen = plexes_seen g.P.Piece.seen c.pop.new.self.items in
    let last = seen_last g.P.Piece.seen c.left.left.items c.pop.new.self.items c.in-Some.plex items in
    record {
      same = same_done own_pieces _ (map g.P.Piece.seen c.left.pool.items.items) _ (plexes_seen g.P.Piece.seen c.left.left.items) rest (plex_seen g.P.Piece.seen c.in-Some.plex) c.left.invariant.same last c.in-Ok.ensures.put;
      capacity = c.uncarve.ensures.capacity ∙ c.left.invariant.capacity;
      room = (
          let r = c.left.invariant.room in
          let l = c.in-Ok.ensures.longer in
          let n = long_last own_pieces (plexes_seen g.P.Piece.seen c.left.left.items) rest (plex_seen g.P.Piece.seen c.in-Some.plex) last in
          let m = length-map c.in-Some.plex.pieces.items g.P.Piece.seen in
          let k = c.in-Some.plex.pieces.ok.0 in
          omega (arith, r, l, n, m, k)
          );
    }

pub returns-in-Err-clause-left : goal.returns-in-Err-clause-left
returns-in-Err-clause-left g c =
    let items : c.left.left.items ≡ c.pop.new.self.items ++ c.in-Some.plex ∷ [] = search rules in
    let rest : List PlexSeen = plexes_seen g.P.Piece.seen c.pop.new.self.items in
    let last = seen_last g.P.Piece.seen c.left.left.items c.pop.new.self.items c.in-Some.plex items in
    let back : PlexSeen = record { map = c.in-Some.plex.map; pieces = map g.P.Piece.seen c.in-Err.pieces.items } in
    let now : plexes_seen g.P.Piece.seen c.push_reserved.new.self.items ≡ rest ++ back ∷ [] = seen_last g.P.Piece.seen c.push_reserved.new.self.items c.pop.new.self.items _ c.push_reserved.ensures.items in
    let olds = pieces_of (plexes_seen g.P.Piece.seen c.args.plexes.items) ++ map g.P.Piece.seen c.args.pool.now.items.items in
    subst (λ rs. SameSectors olds (pieces_of rs ++ map g.P.Piece.seen c.uncarve.new.pool.items.items)) (sym now)
    (same_less own_pieces _ (map g.P.Piece.seen c.left.pool.items.items) _ (plexes_seen g.P.Piece.seen c.left.left.items) rest (plex_seen g.P.Piece.seen c.in-Some.plex) back c.left.invariant.same last c.in-Err.ensures.left)

pub returns-in-Err-clause-room : goal.returns-in-Err-clause-room
returns-in-Err-clause-room g c room =
    let items : c.left.left.items ≡ c.pop.new.self.items ++ c.in-Some.plex ∷ [] = search rules in
    let r = c.left.invariant.room in
    let e = c.left.invariant.capacity in
    let n = long_last own_pieces (plexes_seen g.P.Piece.seen c.left.left.items) (plexes_seen g.P.Piece.seen c.pop.new.self.items) (plex_seen g.P.Piece.seen c.in-Some.plex) (seen_last g.P.Piece.seen c.left.left.items c.pop.new.self.items c.in-Some.plex items) in
    let m = length-map c.in-Some.plex.pieces.items g.P.Piece.seen in
    let k = c.in-Some.plex.pieces.ok.0 in
    c.in-Err.ensures.room (omega (arith, room, r, e, n, m, k))
