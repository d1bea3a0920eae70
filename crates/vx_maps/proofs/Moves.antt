-- A piece is taken out of its place, or put into it.
use Rattle.std.proofs.Common.{◌≡◌, ℕ, zero, suc, ◌+◌, ◌<◌, true, refl, sym, ◌∙◌, ap, arith, List, [], ◌∷◌, length, get_or, set, Option, Some, None}
use Rattle.std.specs.Prelude.{is_some}
use Rattle.std.specs.Option.{option_map, IsSome}
use Rattle.vx_piece.specs.Seen.{Seen}
use Rattle.vx_pages.specs.Sector.{faults_on}
use Rattle.vx_maps.specs.Slots.{slots_seen, slot_at, slot_faults, slots_faults, Moved}
use Rattle.vx_pages.proofs.Items.{at_is, at_set, at_other, set_size}

module _ {P : Type 0} (see : P → Seen) where
  see_slot : Option P → Option Seen
  see_slot x = option_map see x

  faults_set : (xs : List (Option P)) (i : ℕ) (d q : Option P) (device : ℕ) → i < length xs →
      slots_faults device (slots_seen see (set xs i q)) + slot_faults (option_map see (get_or xs i d)) device ≡ slots_faults device (slots_seen see xs) + slot_faults (option_map see q) device
  faults_set [] i d q device lt = absurd (omega arith)
  faults_set (x ∷ xs) zero d q device lt = omega arith
  faults_set (x ∷ xs) (suc i) d q device lt = let e = faults_set xs i d q device (omega arith) in omega (arith, e)

  sum_out : (a b c d s s' : ℕ) → s' + a ≡ s + b → a ≡ c → b ≡ 0 → s' + c ≡ s
  sum_out a b c d s s' e f g = omega (arith, e, f, g)

  pub moved_out : (xs : List (Option P)) (i : ℕ) (p q : Option P) (x : P) → i < length xs → p ≡ get_or xs i p → p ≡ Some x → q ≡ None → Moved i (see x) (slots_seen see xs) (slots_seen see (set xs i q))
  moved_out xs i p q x lt is has none =
      let here : option_map see (get_or xs i p) ≡ Some (see x) = ap (option_map see) (sym is ∙ has) in
      record {
        size = set_size None (option_map see) xs i q;
        was = at_is None (option_map see) xs i p lt ∙ here;
        gone = at_set None (option_map see) xs i q lt ∙ ap (option_map see) none;
        others = λ k apart. at_other None (option_map see) xs i k q apart;
        faults = λ device. sum_out _ _ _ 0 _ _ (faults_set xs i p q device lt) (ap (λ (o : Option Seen). slot_faults o device) here) (ap (λ (o : Option P). slot_faults (option_map see o) device) none);
      }

  sum_in : (a b s s' : ℕ) → s' + a ≡ s + b → a ≡ 0 → s + b ≡ s'
  sum_in a b s s' e f = omega (arith, e, f)

  pub moved_in : (xs : List (Option P)) (i : ℕ) (p q : Option P) (x : P) → i < length xs → p ≡ get_or xs i p → slot_at (slots_seen see xs) i ≡ None → q ≡ Some x → Moved i (see x) (slots_seen see (set xs i q)) (slots_seen see xs)
  moved_in xs i p q x lt is none has =
      let here : option_map see (get_or xs i p) ≡ None = sym (at_is None (option_map see) xs i p lt) ∙ none in
      record {
        size = sym (set_size None (option_map see) xs i q);
        was = at_set None (option_map see) xs i q lt ∙ ap (option_map see) has;
        gone = none;
        others = λ k apart. sym (at_other None (option_map see) xs i k q apart);
        faults = λ device. let plus : slot_faults (option_map see q) device ≡ faults_on (see x) device = ap (λ (o : Option P). slot_faults (option_map see o) device) has in
            let e = sum_in _ _ _ _ (faults_set xs i p q device lt) (ap (λ (o : Option Seen). slot_faults o device) here) in omega (arith, e, plus);
      }

  -- a place that shows a piece has one
  pub has_piece : (xs : List (Option P)) (i : ℕ) (p : Option P) → i < length xs → p ≡ get_or xs i p → is_some (slot_at (slots_seen see xs) i) ≡ true → IsSome p
  has_piece xs i p lt is there = by p (ap (λ (o : Option Seen). is_some o) (ap (option_map see) is ∙ sym (at_is None (option_map see) xs i p lt)) ∙ there)
    where
      by : (o : Option P) → is_some (option_map see o) ≡ true → IsSome o
      by None h = cc
      by (Some y) h = refl
