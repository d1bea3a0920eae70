-- Pieces in slots are the pieces.
use Rattle.std.proofs.Common.{◌≡◌, ℕ, zero, suc, ◌+◌, ◌*◌, ◌<◌, ◌≤◌, refl, sym, ◌∙◌, ap, subst, arith, List, [], ◌∷◌, ◌++◌, length, map, reverse, get_or, Option, Some, None, append_assoc}
use Rattle.std.specs.Prelude.{is_some}
use Rattle.std.specs.Option.{option_map}
use Rattle.std.proofs.lemmas.List.{length-map, map_push, reverse-append}
use Rattle.vx_piece.specs.Seen.{Seen}
use Rattle.vx_cut.specs.Same.{AreSingle, SameRun}
use Rattle.vx_maps.proofs.Fills.{grid_none}
use Rattle.vx_maps.specs.Slots.{AreFull, IsWholeOn, cell_piece, filled, part_at, pieces_in, slot_at, slots_seen}

some_in : (xs : List Seen) → pieces_in (map (λ (x : Seen). Some x) xs) ≡ xs
some_in [] = refl
some_in (x ∷ xs) = ap (λ (ys : List Seen). x ∷ ys) (some_in xs)

at_some : (xs : List Seen) (k : ℕ) → k < length xs → (d : Seen) → slot_at (map (λ (x : Seen). Some x) xs) k ≡ Some (get_or xs k d)
at_some [] k lt d = absurd (omega (arith, lt))
at_some (x ∷ xs) zero lt d = refl
at_some (x ∷ xs) (suc k) lt d = at_some xs k (omega (arith, lt)) d

pub whole_slots : (size : ℕ) (xs : List Seen) (slots : List (Option Seen)) → slots ≡ map (λ (x : Seen). Some x) xs → 35 * size ≤ length xs → AreSingle (35 * size) xs → IsWholeOn size slots
whole_slots size xs slots e long single = subst (IsWholeOn size) (sym e) (record {
  long = (let n = length-map xs (λ (x : Seen). Some x) in omega (arith, n, long));
  some = λ k lt. let n = length-map xs (λ (x : Seen). Some x) in ap (λ (x : Option Seen). is_some x) (at_some xs k (omega (arith, n, lt)) (cell_piece 0 None));
  single = λ k p lt is. one (get_or xs k p) p (sym (at_some xs k (omega (arith, long, lt)) p) ∙ is) (single k p lt);
})
  where
    one : (a b : Seen) → Some a ≡ Some b → a.sectors ≡ 1 → b.sectors ≡ 1
    one a b f g = ap (λ (x : Option Seen). (part_at 0 x None).sectors) (sym f) ∙ g

pub same_slots : (old xs : List Seen) (slots : List (Option Seen)) → SameRun old xs → slots ≡ map (λ (x : Seen). Some x) xs → SameRun old (pieces_in slots)
same_slots old xs slots same e = subst (SameRun old) (sym (ap pieces_in e ∙ some_in xs)) same

module _ {P : Type 0} (see : P → Seen) where
  turned : (left xs : List (Option P)) (x : Option P) → left ≡ xs ++ x ∷ [] → reverse left ≡ x ∷ reverse xs
  turned left xs x e = ap reverse e ∙ reverse-append xs (x ∷ [])

  pub one_out : (left xs : List (Option P)) (slot : Option P) (p : P) (pieces more : List P) (all : List Seen) → left ≡ xs ++ slot ∷ [] → slot ≡ Some p → more ≡ pieces ++ p ∷ [] → map see pieces ++ pieces_in (slots_seen see (reverse left)) ≡ all →
      map see more ++ pieces_in (slots_seen see (reverse xs)) ≡ all
  one_out left xs slot p pieces more all e f g h =
      ap (λ (ys : List P). map see ys ++ pieces_in (slots_seen see (reverse xs))) g ∙ ap (λ (ys : List Seen). ys ++ pieces_in (slots_seen see (reverse xs))) (map_push see pieces p) ∙ append_assoc (map see pieces) (see p ∷ []) (pieces_in (slots_seen see (reverse xs)))
      ∙ sym (ap (λ (ys : List (Option P)). map see pieces ++ pieces_in (slots_seen see ys)) (turned left xs slot e) ∙ ap (λ (x : Option P). map see pieces ++ part_at 0 (option_map see x) None ∷ pieces_in (slots_seen see (reverse xs))) f) ∙ h

  pub full_rest : (left xs : List (Option P)) (slot : Option P) → left ≡ xs ++ slot ∷ [] → AreFull (slots_seen see (reverse left)) → AreFull (slots_seen see (reverse xs))
  full_rest left xs slot e h k lt =
      subst (λ (ys : List (Option P)). AreFull (slots_seen see ys)) (turned left xs slot e) h (suc k) (omega (arith, lt))

same_part : (copy : ℕ) (x : Option Seen) → part_at copy x None ≡ part_at 0 x None
same_part copy None = refl
same_part copy (Some p) = refl

-- without pages there are only the pieces in the slots
pub filled_in : (size copy : ℕ) (k : ℕ) (slots : List (Option Seen)) → filled size copy [] k slots ≡ pieces_in slots
filled_in size copy k [] = refl
filled_in size copy k (x ∷ xs) =
    ap (λ (p : Seen). p ∷ filled size copy [] (k + 1) xs) (ap (part_at copy x) (grid_none size k) ∙ same_part copy x) ∙ ap (λ (ys : List Seen). part_at 0 x None ∷ ys) (filled_in size copy (k + 1) xs)
