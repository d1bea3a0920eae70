-- The copies are put back one after the other.
use Rattle.std.proofs.Common.{rules, arith, ◌≡◌, ◌++◌, [], ◌∷◌, List, map, ◌∙◌, subst, sym, refl}
use Rattle.std.proofs.lemmas.List.{length-map}
use Rattle.vx_piece.specs.Seen.{Seen}
use Rattle.vx_carve.specs.Together.{SameSectors}
use Rattle.vx_carve.proofs.Same.{same_refl}
use Rattle.vx_maps.specs.Spares.{copies_seen}
use Rattle.vx_lending.proofs.RegionLists.{same_less, same_done, long_last, map_last}
use Rattle.vx_lending.specs.Pieces.{copy_pieces, own_pieces}
use Rattle.vx_lending.proofs.back.put_copies.Goals as goal

pub left-init : goal.left-init
left-init g c = record { same = same_refl _; capacity = refl; room = omega arith }

pub left-preserved : goal.left-preserved
left-preserved g c =
    let items : c.left.left.items ≡ c.pop.new.self.items ++ c.in-Some.pieces ∷ [] = search rules in
    let rows : List (List Seen) = copies_seen g.P.Piece.seen c.left.left.items in
    let rest : List (List Seen) = copies_seen g.P.Piece.seen c.pop.new.self.items in
    let own : List Seen = map g.P.Piece.seen c.in-Some.pieces.items in
    let last : rows ≡ rest ++ own ∷ [] = map_last (λ x. map g.P.Piece.seen x.items) c.left.left.items c.pop.new.self.items c.in-Some.pieces items in
    record {
      same = same_done own_pieces _ (map g.P.Piece.seen c.left.pool.items.items) _ rows rest own c.left.invariant.same last c.in-Ok.ensures.put;
      capacity = c.uncarve.ensures.capacity ∙ c.left.invariant.capacity;
      room = (
          let r = c.left.invariant.room in
          let l = c.in-Ok.ensures.longer in
          let n = long_last own_pieces rows rest own last in
          let m = length-map c.in-Some.pieces.items g.P.Piece.seen in
          omega (arith, r, l, n, m)
          );
    }

pub returns-in-Err-clause-left : goal.returns-in-Err-clause-left
returns-in-Err-clause-left g c =
    let items : c.left.left.items ≡ c.pop.new.self.items ++ c.in-Some.pieces ∷ [] = search rules in
    let rows : List (List Seen) = copies_seen g.P.Piece.seen c.left.left.items in
    let rest : List (List Seen) = copies_seen g.P.Piece.seen c.pop.new.self.items in
    let own : List Seen = map g.P.Piece.seen c.in-Some.pieces.items in
    let last : rows ≡ rest ++ own ∷ [] = map_last (λ x. map g.P.Piece.seen x.items) c.left.left.items c.pop.new.self.items c.in-Some.pieces items in
    let back : List Seen = map g.P.Piece.seen c.in-Err.pieces.items in
    let now : copies_seen g.P.Piece.seen c.push_reserved.new.self.items ≡ rest ++ back ∷ [] = map_last (λ x. map g.P.Piece.seen x.items) c.push_reserved.new.self.items c.pop.new.self.items c.in-Err.pieces c.push_reserved.ensures.items in
    let olds = copy_pieces (copies_seen g.P.Piece.seen c.args.copies.items) ++ map g.P.Piece.seen c.args.pool.now.items.items in
    subst (λ rs. SameSectors olds (copy_pieces rs ++ map g.P.Piece.seen c.uncarve.new.pool.items.items)) (sym now)
    (same_less own_pieces _ (map g.P.Piece.seen c.left.pool.items.items) _ rows rest own back c.left.invariant.same last c.in-Err.ensures.left)

pub returns-in-Err-clause-room : goal.returns-in-Err-clause-room
returns-in-Err-clause-room g c room =
    let items : c.left.left.items ≡ c.pop.new.self.items ++ c.in-Some.pieces ∷ [] = search rules in
    let rows : List (List Seen) = copies_seen g.P.Piece.seen c.left.left.items in
    let rest : List (List Seen) = copies_seen g.P.Piece.seen c.pop.new.self.items in
    let own : List Seen = map g.P.Piece.seen c.in-Some.pieces.items in
    let last : rows ≡ rest ++ own ∷ [] = map_last (λ x. map g.P.Piece.seen x.items) c.left.left.items c.pop.new.self.items c.in-Some.pieces items in
    let r = c.left.invariant.room in
    let e = c.left.invariant.capacity in
    let n = long_last own_pieces rows rest own last in
    let m = length-map c.in-Some.pieces.items g.P.Piece.seen in
    c.in-Err.ensures.room (omega (arith, room, r, e, n, m))
