-- Unions and differences of masks, as sets.
use Rattle.std.proofs.Common.{◌≡◌, ◌≢◌, ℕ, ◌⊎◌, inl, inr, true, false, sym, ◌∙◌, arith}
use Rattle.std.proofs.lemmas.Bool.{cases_order}
use Rattle.vx_mask.specs.Mask.{has, only, union, without}
use Rattle.vx_mask.proofs.MaskLemmas.{has-union, has-without, same_as_only}
use Rattle.vx_mask.proofs.Tests.{not_both, true_or_false, or_from_left, or_from_right, or_cases, or_neither, or_none, and_not, and_not_parts, and_not_out}

pub in_union : (a b k : ℕ) → (has a k ≡ true) ⊎ (has b k ≡ true) → has (union a b) k ≡ true
in_union a b k h =
    rw (has-union a b k) (elim h [ inl l ↦ or_from_left _ _ l | inr r ↦ or_from_right _ _ r ])

pub union_parts : (a b k : ℕ) → has (union a b) k ≡ false → (has a k ≡ false) × (has b k ≡ false)
union_parts a b k h = or_neither _ _ (sym (has-union a b k) ∙ h)

pub union_cases : (a b k : ℕ) → has (union a b) k ≡ true → (has a k ≡ true) ⊎ (has b k ≡ true)
union_cases a b k h = or_cases _ _ (sym (has-union a b k) ∙ h)

pub out_union : (a b k : ℕ) → has a k ≡ false → has b k ≡ false → has (union a b) k ≡ false
out_union a b k p q = rw (has-union a b k) (or_none _ _ p q)

pub in_without : (a b k : ℕ) → has a k ≡ true → has b k ≡ false → has (without a b) k ≡ true
in_without a b k p q = rw (has-without a b k) (and_not _ _ p q)

pub without_parts : (a b k : ℕ) → has (without a b) k ≡ true → (has a k ≡ true) × (has b k ≡ false)
without_parts a b k h = and_not_parts _ _ (sym (has-without a b k) ∙ h)

pub out_without : (a b k : ℕ) → has (without a b) k ≡ false → has a k ≡ true → has b k ≡ true
out_without a b k h = and_not_out _ _ (sym (has-without a b k) ∙ h)

pub out_without_left : (a b k : ℕ) → has a k ≡ false → has (without a b) k ≡ false
out_without_left a b k none =
    elim (true_or_false (has (without a b) k)) [ inr out ↦ out | inl there ↦ not_both (without_parts _ _ _ there).0 none ]

pub out_of : (bits b k : ℕ) → has b k ≡ true → has (without bits b) k ≡ false
out_of bits b k there =
    elim (true_or_false (has (without bits b) k)) [ inr out ↦ out | inl bit ↦ not_both there (without_parts _ _ _ bit).1 ]

-- what is outside a mask without one map is outside the mask, or is that map
pub left_out : (bits j k : ℕ) → has (without bits (only j)) k ≡ false → (has bits k ≡ false) ⊎ (k ≡ j)
left_out bits j k out =
    elim (true_or_false (has bits k)) [
      | inr none ↦ inl none
      | inl bit ↦ inr (same_as_only j k (out_without _ _ _ out bit))
    ]

pub same_or_not : (j k : ℕ) → (k ≡ j) ⊎ (k ≢ j)
same_or_not j k =
    elim (cases_order k j) [
      | inl same ↦ inl same
      | inr rest ↦ inr (λ e. elim rest [ inl less ↦ omega arith | inr more ↦ omega arith ])
    ]
