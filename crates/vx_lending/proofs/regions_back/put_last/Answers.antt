-- The regions are put back one after the other.
use Rattle.std.proofs.Common.{rules, arith, ◌≡◌, ◌++◌, [], ◌∷◌, List, map, ◌∙◌, subst, sym, refl}
use Rattle.vx_carve.specs.Together.{SameSectors}
use Rattle.vx_carve.proofs.Same.{same_refl}
use Rattle.vx_cell.specs.Plexes.{PlexSeen, plexes_seen}
use Rattle.vx_volume.specs.Opening.{regions_seen}
use Rattle.vx_lending.specs.RegionPieces.{all_pieces, pieces_of}
use Rattle.vx_lending.proofs.RegionLists.{same_less, same_done, long_last, map_last}
use Rattle.vx_lending.proofs.regions_back.put_last.Goals as goal

pub left-init : goal.left-init
left-init g c = record { same = same_refl _; capacity = refl; room = omega arith }

pub left-preserved : goal.left-preserved
left-preserved g c =
    let items : c.left.left.items ≡ c.pop.new.self.items ++ c.in-Some.plexes ∷ [] = search rules in
    let rows : List (List PlexSeen) = regions_seen g.P.Piece.seen c.left.left.items in
    let rest : List (List PlexSeen) = regions_seen g.P.Piece.seen c.pop.new.self.items in
    let last : rows ≡ rest ++ plexes_seen g.P.Piece.seen c.in-Some.plexes.items ∷ [] = map_last (λ x. plexes_seen g.P.Piece.seen x.items) c.left.left.items c.pop.new.self.items c.in-Some.plexes items in
    record {
      same = same_done pieces_of _ (map g.P.Piece.seen c.left.pool.items.items) _ rows rest (plexes_seen g.P.Piece.seen c.in-Some.plexes.items) c.left.invariant.same last c.in-Ok.ensures.put;
      capacity = c.put_plexes.ensures.capacity ∙ c.left.invariant.capacity;
      room = (
          let r = c.left.invariant.room in
          let l = c.in-Ok.ensures.longer in
          let n = long_last pieces_of rows rest (plexes_seen g.P.Piece.seen c.in-Some.plexes.items) last in
          omega (arith, r, l, n)
          );
    }

pub returns-in-Err-clause-left : goal.returns-in-Err-clause-left
returns-in-Err-clause-left g c =
    let items : c.left.left.items ≡ c.pop.new.self.items ++ c.in-Some.plexes ∷ [] = search rules in
    let rows : List (List PlexSeen) = regions_seen g.P.Piece.seen c.left.left.items in
    let rest : List (List PlexSeen) = regions_seen g.P.Piece.seen c.pop.new.self.items in
    let last : rows ≡ rest ++ plexes_seen g.P.Piece.seen c.in-Some.plexes.items ∷ [] = map_last (λ x. plexes_seen g.P.Piece.seen x.items) c.left.left.items c.pop.new.self.items c.in-Some.plexes items in
    let back : List PlexSeen = plexes_seen g.P.Piece.seen c.in-Err.plexes.items in
    let now : regions_seen g.P.Piece.seen c.push_reserved.new.self.items ≡ rest ++ back ∷ [] = map_last (λ x. plexes_seen g.P.Piece.seen x.items) c.push_reserved.new.self.items c.pop.new.self.items c.in-Err.plexes c.push_reserved.ensures.items in
    let olds = all_pieces (regions_seen g.P.Piece.seen c.args.regions.items) ++ map g.P.Piece.seen c.args.pool.now.items.items in
    subst (λ rs. SameSectors olds (all_pieces rs ++ map g.P.Piece.seen c.put_plexes.new.pool.items.items)) (sym now)
    (same_less pieces_of _ (map g.P.Piece.seen c.left.pool.items.items) _ rows rest (plexes_seen g.P.Piece.seen c.in-Some.plexes.items) back c.left.invariant.same last c.in-Err.ensures.left)

pub returns-in-Err-clause-room : goal.returns-in-Err-clause-room
returns-in-Err-clause-room g c room =
    let items : c.left.left.items ≡ c.pop.new.self.items ++ c.in-Some.plexes ∷ [] = search rules in
    let rows : List (List PlexSeen) = regions_seen g.P.Piece.seen c.left.left.items in
    let rest : List (List PlexSeen) = regions_seen g.P.Piece.seen c.pop.new.self.items in
    let last : rows ≡ rest ++ plexes_seen g.P.Piece.seen c.in-Some.plexes.items ∷ [] = map_last (λ x. plexes_seen g.P.Piece.seen x.items) c.left.left.items c.pop.new.self.items c.in-Some.plexes items in
    let r = c.left.invariant.room in
    let e = c.left.invariant.capacity in
    let n = long_last pieces_of rows rest (plexes_seen g.P.Piece.seen c.in-Some.plexes.items) last in
    c.in-Err.ensures.room (omega (arith, room, r, e, n))
