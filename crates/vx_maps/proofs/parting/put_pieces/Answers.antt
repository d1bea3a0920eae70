use Rattle.std.proofs.Common.{rules, arith, sym, ap, subst, ◌∙◌, ◌≡◌, ◌∷◌, ◌++◌, [], ℕ, length, map}
use Rattle.std.specs.Option.{option_map}
use Rattle.std.proofs.lemmas.List.{length-map, length-append, map_push}
use Rattle.vx_maps.specs.Slots.{HasHolesOn, place_of, slot_at, slots_seen}
use Rattle.vx_maps.proofs.Partings.{all_back, holes_left, one_back}
use Rattle.vx_maps.proofs.parting.put_pieces.Goals as goal

pub put-requires-clause-inside : goal.put-requires-clause-inside
put-requires-clause-inside g c =
    let items : c.putting.pieces.items ≡ c.pop.new.self.items ++ c.in-Some.piece ∷ [] = search rules in
    let m : c.len.result ≡ length c.pop.new.self.items = search rules in
    let count = ap (λ xs. length xs) items ∙ length-append c.pop.new.self.items (c.in-Some.piece ∷ []) in
    let here = c.putting.invariant.holes (length c.pop.new.self.items) (omega (arith, count)) in
    let l = here.0 in
    let n = length-map c.putting.slots.items (option_map g.P.LocalPiece.seen) in
    let at : c.place_of.result ≡ place_of c.args.size (length c.pop.new.self.items) c.args.page = c.place_of.ensures ∙ ap (λ n. place_of c.args.size n c.args.page) m in
    omega (arith, l, n, at)

pub put-requires-clause-hole : goal.put-requires-clause-hole
put-requires-clause-hole g c =
    let items : c.putting.pieces.items ≡ c.pop.new.self.items ++ c.in-Some.piece ∷ [] = search rules in
    let m : c.len.result ≡ length c.pop.new.self.items = search rules in
    let count = ap (λ xs. length xs) items ∙ length-append c.pop.new.self.items (c.in-Some.piece ∷ []) in
    let here = c.putting.invariant.holes (length c.pop.new.self.items) (omega (arith, count)) in
    ap (slot_at (slots_seen g.P.LocalPiece.seen c.putting.slots.items)) (c.place_of.ensures ∙ ap (λ n. place_of c.args.size n c.args.page) m) ∙ here.1

pub putting-preserved : goal.putting-preserved
putting-preserved g c =
    let items : c.putting.pieces.items ≡ c.pop.new.self.items ++ c.in-Some.piece ∷ [] = search rules in
    let m : c.len.result ≡ length c.pop.new.self.items = search rules in
    let count = ap (λ xs. length xs) items ∙ length-append c.pop.new.self.items (c.in-Some.piece ∷ []) in
    let at : c.place_of.result ≡ place_of c.args.size (length c.pop.new.self.items) c.args.page = c.place_of.ensures ∙ ap (λ n. place_of c.args.size n c.args.page) m in
    let few = c.putting.invariant.few in
    record {
      few = omega (arith, count, few);
      holes =
          holes_left c.args.size c.args.page (length c.pop.new.self.items) c.place_of.result (g.P.LocalPiece.seen c.in-Some.piece) _ _ at c.requires.page c.put.ensures
          (subst (λ (n : ℕ). HasHolesOn c.args.size c.args.page n (slots_seen g.P.LocalPiece.seen c.putting.slots.items)) count c.putting.invariant.holes);
      capacity = search rules;
      cut = λ copy pages row whole long some pair are h.
          one_back c.args.size copy c.place_of.result pages whole _ (map g.P.LocalPiece.seen c.pop.new.self.items) (g.P.LocalPiece.seen c.in-Some.piece) _ _
          (ap (map g.P.LocalPiece.seen) items ∙ map_push g.P.LocalPiece.seen c.pop.new.self.items c.in-Some.piece)
          (at ∙ ap (λ (n : ℕ). place_of c.args.size n c.args.page) (sym (length-map c.pop.new.self.items g.P.LocalPiece.seen))
          ∙ ap (λ (n : ℕ). place_of c.args.size (length (map g.P.LocalPiece.seen c.pop.new.self.items)) n) (sym long))
          (let f = c.requires.page in omega (arith, f, long)) some c.put.ensures (c.putting.invariant.cut copy pages row whole long some pair are h);
    }

pub returns-clause-cut : goal.returns-clause-cut
returns-clause-cut g c copy pages row whole long some pair are h =
    let empty : c.putting.pieces.items ≡ [] = search rules in
    all_back c.args.size copy pages whole (map g.P.LocalPiece.seen c.putting.pieces.items) _ (ap (map g.P.LocalPiece.seen) empty) (c.putting.invariant.cut copy pages row whole long some pair are h)
