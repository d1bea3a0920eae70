-- The bits of a byte, and of a page.
use Rattle.std.proofs.Common.{◌≡◌, inl, inr, ℕ, ◌+◌, ◌-◌, ◌*◌, zero, suc, ◌%◌, ◌/◌, ◌<◌, ◌^◌, Bool, true, false, refl, sym, ◌∙◌, ap, arith, min}
use Rattle.std.specs.Prelude.{◌==◌, ◌&&◌, ◌||◌, not, bit_and, bit_or, bit_xor, slice_index_or, replicate, [], if◌then◌else◌}
use Rattle.std.specs.Int.{bit_at, w8}
use Rattle.std.proofs.lemmas.Bool.{cases_lt, cond-true, cond-false}
use Rattle.std.proofs.lemmas.Bool.Decides.{eqb_tells, nat_tests}
use Rattle.std.proofs.lemmas.Nat.{pow_below}
use Rattle.std.proofs.lemmas.Nat.Bits.{bit_at_and, bit_at_xor, bit_at-lt, bit_at_above, bit_at_not, same_from_bits}
use Rattle.vx_sector.specs.Fields.{zeros}
use Rattle.vx_mapfmt.specs.Bits.{bit_in}
use Rattle.vx_mask.specs.Mask.{has, only, union, without}
use Rattle.vx_mask.proofs.MaskLemmas.{has-zero, has-union, has-without, has-only_same, has-only_other}

min_zero : (x y : ℕ) → min 0 x ≡ min 0 y
min_zero x y = grind arith

below_8 : (a b : ℕ) → a < 2 → b < 2 → min a (1 - b) ≡ min a ((a + b) % 2)
below_8 a b low high = grind arith

without_from_not : (a b : ℕ) → a < 256 → b < 256 → bit_and a (255 - b) ≡ without a b
unfolding without
without_from_not a b fits small =
    same_from_bits _ _ (λ i.
    rw (bit_at_and a (255 - b) i, bit_at_and a (bit_xor a b) i, bit_at_xor a b i)
    (elim (cases_lt i 8) [
      | inl low ↦ rw (bit_at_not w8 b i small low) (below_8 (bit_at a i) (bit_at b i) (bit_at-lt a i) (bit_at-lt b i))
      | inr high ↦ rw (bit_at_above a 8 i fits high) (min_zero _ _)
    ]))

small_pow : (bit : ℕ) → bit < 8 → 2 ^ bit < 256
small_pow bit low = pow_below bit 8 low

shifted : (m : ℕ) → m < 256 → 1 * m % 256 ≡ m
shifted m low = omega arith

only_bit : (bit : ℕ) → bit < 8 → only bit ≡ 2 ^ bit
unfolding only
only_bit bit low = grind (arith, nat_tests)

bit_is : (bit : ℕ) → bit < 8 → 1 * 2 ^ bit % 256 ≡ only bit
bit_is bit low = shifted (2 ^ bit) (small_pow bit low) ∙ sym (only_bit bit low)

or_true : (x : Bool) → (x || true) ≡ true
or_true true = refl
or_true false = refl

or_false : (x : Bool) → (x || false) ≡ x
or_false true = refl
or_false false = refl

and_not_true : (x : Bool) → (x && not true) ≡ false
and_not_true true = refl
and_not_true false = refl

and_not_false : (x : Bool) → (x && not false) ≡ x
and_not_false true = refl
and_not_false false = refl

pub set_bit : (byte bit k : ℕ) → bit < 8 → has (bit_or byte (1 * 2 ^ bit % 256)) k ≡ (if bit == k then true else has byte k)
unfolding union
set_bit byte bit k low =
    ap (λ (m : ℕ). has (bit_or byte m) k) (bit_is bit low) ∙ has-union byte (only bit) k
    ∙ elim (eqb_tells bit k) [
      | inl same ↦ rw (sym same.1, has-only_same bit (omega arith)) (or_true _) ∙ sym (cond-true _ _ _ same.0)
      | inr other ↦ rw (has-only_other bit k (λ e. other.1 (sym e))) (or_false _) ∙ sym (cond-false _ _ _ other.0)
    ]

pub clear_bit : (byte bit k : ℕ) → byte < 256 → bit < 8 → has (bit_and byte (255 - 1 * 2 ^ bit % 256)) k ≡ (if bit == k then false else has byte k)
clear_bit byte bit k fits low =
    ap (λ (m : ℕ). has (bit_and byte (255 - m)) k) (shifted (2 ^ bit) (small_pow bit low))
    ∙ ap (λ (m : ℕ). has m k) (without_from_not byte (2 ^ bit) fits (small_pow bit low)) ∙ ap (λ (m : ℕ). has (without byte m) k) (sym (only_bit bit low))
    ∙ has-without byte (only bit) k
    ∙ elim (eqb_tells bit k) [
      | inl same ↦ rw (sym same.1, has-only_same bit (omega arith)) (and_not_true _) ∙ sym (cond-true _ _ _ same.0)
      | inr other ↦ rw (has-only_other bit k (λ e. other.1 (sym e))) (and_not_false _) ∙ sym (cond-false _ _ _ other.0)
    ]

-- a page of zeros has no bit
nothing_at : (n k : ℕ) → let none : ℕ = 0 in slice_index_or (replicate n none) k none ≡ none
nothing_at zero k = refl
nothing_at (suc n) zero = refl
nothing_at (suc n) (suc k) = nothing_at n k

pub no_bit : (region : ℕ) → bit_in (zeros 512) region ≡ false
unfolding zeros
no_bit region = ap (λ (m : ℕ). has m (region % 8)) (nothing_at 512 (region % 4096 / 8)) ∙ has-zero (region % 8)

pub empty_bit : (region : ℕ) → bit_in [] region ≡ false
empty_bit region = has-zero (region % 8)
