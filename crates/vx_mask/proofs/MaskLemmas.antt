-- What stands in the masks that the words of specs/Mask make.
use Rattle.std.proofs.Common.{◌≡◌, ◌≢◌, ℕ, ◌+◌, ◌<◌, ◌≤◌, ◌^◌, ◌-◌, ◌*◌, ◌%◌, ◌/◌, ◌⊎◌, inl, inr, true, false, refl, sym, ap, ◌∙◌, arith, min, max}
use Rattle.std.specs.Prelude.{◌&&◌, ◌||◌, not, ◌==◌, nat_lt, bit_and, bit_xor}
use Rattle.std.specs.Int.{bit_at, w64}
use Rattle.std.proofs.lemmas.Bool.{cases_lt, cases_order}
use Rattle.std.proofs.lemmas.Nat.{or_lt, and_le_l, pow_below, pow_pos, and_comm, and-not}
use Rattle.std.proofs.lemmas.Nat.Bits.{bit_at_and, bit_at_or, bit_at_xor, bit_at-lt, bit_at-pow_same, bit_at-pow_other, bit_at-trailing_zeros, bit_at_above, bit_at-zero, bit_at_not, shr_and_one, same_from_bits, and_pow}
use Rattle.std.proofs.lemmas.Bool.Decides.{nat_tests}
use Rattle.vx_mask.proofs.Tests.{not_both, true_or_false, and_not_parts}
use Rattle.vx_mask.specs.Mask.{has, only, union, without, lowest, above_lowest}

tests_or : (a b : ℕ) → a < 2 → b < 2 → (max a b == 1) ≡ ((a == 1) || (b == 1))
tests_or a b low high = grind (arith, nat_tests)

tests_without : (a b : ℕ) → a < 2 → b < 2 → (min a ((a + b) % 2) == 1) ≡ ((a == 1) && not (b == 1))
tests_without a b low high = grind (arith, nat_tests)

pub has-union : (a b k : ℕ) → has (union a b) k ≡ (has a k || has b k)
unfolding has union
has-union a b k = rw (bit_at_or a b k) (tests_or (bit_at a k) (bit_at b k) (bit_at-lt a k) (bit_at-lt b k))

pub has-without : (a b k : ℕ) → has (without a b) k ≡ (has a k && not (has b k))
unfolding has without
has-without a b k = rw (bit_at_and a (bit_xor a b) k, bit_at_xor a b k) (tests_without (bit_at a k) (bit_at b k) (bit_at-lt a k) (bit_at-lt b k))

only_below : (k : ℕ) → k < 64 → only k ≡ 2 ^ k
unfolding only
only_below k low = grind (arith, nat_tests)

only_above : (k : ℕ) → 64 ≤ k → only k ≡ 0
unfolding only
only_above k high = grind (arith, nat_tests)

pub has-only_same : (k : ℕ) → k < 64 → has (only k) k ≡ true
unfolding has
has-only_same k low = rw (only_below k low, bit_at-pow_same k) refl

pub has-zero : (k : ℕ) → has 0 k ≡ false
unfolding has
has-zero k = rw (bit_at-zero k) refl

pub has-only_other : (j k : ℕ) → k ≢ j → has (only j) k ≡ false
unfolding has
has-only_other j k apart =
    elim (cases_lt j 64) [
      | inl low ↦ rw (only_below j low, bit_at-pow_other j k apart) refl
      | inr high ↦ rw (only_above j high) (has-zero k)
    ]

-- a mask of 64 bits has no map from 64 on
pub has-above : (mask k : ℕ) → mask < 2 ^ 64 → 64 ≤ k → has mask k ≡ false
unfolding has
has-above mask k fits high = rw (bit_at_above mask 64 k fits high) refl

pub has-lowest : (mask : ℕ) → mask ≢ 0 → mask < 2 ^ 64 → has mask (lowest mask) ≡ true
unfolding has lowest
has-lowest mask some fits = let e = (bit_at-trailing_zeros w64 mask (omega arith) fits).1 in rw e refl

pub lowest-lt : (mask : ℕ) → mask ≢ 0 → mask < 2 ^ 64 → lowest mask < 64
unfolding lowest
lowest-lt mask some fits = (bit_at-trailing_zeros w64 mask (omega arith) fits).0

-- what code computes
pub has_from_shift : (mask k : ℕ) → (bit_and (mask / 2 ^ k) 1 == 1) ≡ has mask k
unfolding has
has_from_shift mask k = rw (shr_and_one mask k) refl

pub has_above_64 : (mask k : ℕ) → mask < 2 ^ 64 → 64 ≤ k → nat_lt k 64 ≡ has mask k
has_above_64 mask k fits high = rw (has-above mask k fits high) (grind (arith, nat_tests))

min_zero : (x y : ℕ) → min 0 x ≡ min 0 y
min_zero x y = grind arith

below_64 : (a b i : ℕ) → a < 2 → b < 2 → min a (1 - b) ≡ min a ((a + b) % 2)
below_64 a b i low high = grind arith

pub without_from_not : (a b : ℕ) → a < 2 ^ 64 → b < 2 ^ 64 → bit_and a (2 ^ 64 - 1 - b) ≡ without a b
unfolding without
without_from_not a b fits small =
    same_from_bits _ _ (λ i.
    rw (bit_at_and a (2 ^ 64 - 1 - b) i, bit_at_and a (bit_xor a b) i, bit_at_xor a b i)
    (elim (cases_lt i 64) [
      | inl low ↦ rw (bit_at_not w64 b i small low) (below_64 (bit_at a i) (bit_at b i) i (bit_at-lt a i) (bit_at-lt b i))
      | inr high ↦ rw (bit_at_above a 64 i fits high) (min_zero _ _)
    ]))

-- ---- sizes

pub union-lt : (a b : ℕ) → a < 2 ^ 64 → b < 2 ^ 64 → union a b < 2 ^ 64
unfolding union
union-lt a b fits small = or_lt 64 a b fits small

pub without-lt : (a b : ℕ) → a < 2 ^ 64 → without a b < 2 ^ 64
unfolding without
without-lt a b fits = let le = and_le_l a (bit_xor a b) in omega arith

-- a mask that loses maps is no greater, and an empty one stays so
pub without-le : (a b : ℕ) → without a b ≤ a
unfolding without
without-le a b = and_le_l a (bit_xor a b)

pow_below_64 : (k : ℕ) → k < 64 → 2 ^ k < 2 ^ 64
pow_below_64 k low = pow_below k 64 low

pub only-lt : (k : ℕ) → only k < 2 ^ 64
only-lt k =
    elim (cases_lt k 64) [
      | inl low ↦ rw (only_below k low) (pow_below_64 k low)
      | inr high ↦ rw (only_above k high) (omega arith)
    ]

-- ---- members

pub has-lt : (mask k : ℕ) → mask < 2 ^ 64 → has mask k ≡ true → k < 64
has-lt mask k fits there =
    elim (cases_lt k 64) [ inl low ↦ low | inr high ↦ not_both there (has-above mask k fits high) ]

pub not_empty : (mask k : ℕ) → has mask k ≡ true → mask ≢ 0
not_empty mask k there empty = let e : has mask k ≡ false = rw empty (has-zero k) in not_both there e

apart_by_order : (k j : ℕ) → (k < j) ⊎ (j < k) → k ≢ j
apart_by_order k j h e = elim h [ inl l ↦ omega arith | inr g ↦ omega arith ]

pub same_as_only : (j k : ℕ) → has (only j) k ≡ true → k ≡ j
same_as_only j k there =
    elim (cases_order k j) [ inl same ↦ same | inr rest ↦ not_both there (has-only_other j k (apart_by_order k j rest)) ]

pub apart_from_only : (j k : ℕ) → j < 64 → has (only j) k ≡ false → k ≢ j
apart_from_only j k low none e = let there : has (only j) k ≡ true = rw e (has-only_same j low) in not_both there none

-- the tests that code makes of a mask
pub empty_from_test : (n : ℕ) → (n == 0) ≡ true → n ≡ 0
empty_from_test n test = grind (arith, nat_tests)

pub some_from_test : (n : ℕ) → (n == 0) ≡ false → n ≢ 0
some_from_test n test = grind (arith, nat_tests)

pub lowest_there : (mask : ℕ) → mask ≢ 0 → mask < 2 ^ 64 → (has mask (lowest mask) ≡ true) × (lowest mask < 64)
lowest_there mask some fits = (has-lowest mask some fits, lowest-lt mask some fits)

-- a mask that has nothing above its lowest map has one map, and else two
pub one : (mask j : ℕ) → mask < 2 ^ 64 → above_lowest mask ≡ 0 → has mask j ≡ true → j ≡ lowest mask
one mask j fits nothing there =
    elim (true_or_false (has (only (lowest mask)) j)) [
      | inl same ↦ same_as_only (lowest mask) j same
      | inr other ↦
          let e : has (above_lowest mask) j ≡ true = rw (has-without mask (only (lowest mask)) j, there, other) refl in
          absurd (not_empty (above_lowest mask) j e nothing)
    ]

pub two : (mask : ℕ) → mask < 2 ^ 64 → mask ≢ 0 → above_lowest mask ≢ 0 → (j : ℕ) × (k : ℕ) × (j ≢ k) × (has mask j ≡ true) × (has mask k ≡ true)
two mask fits some more =
    let fits_above : above_lowest mask < 2 ^ 64 = without-lt mask (only (lowest mask)) fits in
    let e : has (above_lowest mask) (lowest (above_lowest mask)) ≡ true = has-lowest (above_lowest mask) more fits_above in
    let parts : (has mask (lowest (above_lowest mask)) ≡ true) × (has (only (lowest mask)) (lowest (above_lowest mask)) ≡ false) =
    and_not_parts _ _ (sym (has-without mask (only (lowest mask)) (lowest (above_lowest mask))) ∙ e) in (
      lowest (above_lowest mask),
      lowest mask,
      apart_from_only (lowest mask) (lowest (above_lowest mask)) (lowest-lt mask some fits) parts.1,
      parts.0,
      has-lowest mask some fits,
    )

one_from_test : (n : ℕ) → (n == 1) ≡ true → n ≡ 1
one_from_test n test = grind (arith, nat_tests)

one_times : (n : ℕ) → 1 * n ≡ n
one_times n = omega arith

-- ---- a mask that loses one of its maps is smaller

pub without-less : (mask k : ℕ) → mask < 2 ^ 64 → has mask k ≡ true → without mask (only k) < mask
unfolding has
without-less mask k fits there =
    let low : k < 64 = has-lt mask k fits there in
    let sum : bit_and (2 ^ 64 - 1 - only k) mask + bit_and (only k) mask ≡ mask = and-not 64 (only k) mask (only-lt k) fits in
    let same : bit_and (2 ^ 64 - 1 - only k) mask ≡ without mask (only k) = and_comm (2 ^ 64 - 1 - only k) mask ∙ without_from_not mask (only k) fits (only-lt k) in
    let one_bit : bit_at mask k ≡ 1 = one_from_test (bit_at mask k) there in
    let lost : bit_and (only k) mask ≡ 2 ^ k = and_comm (only k) mask ∙ ap (λ (b : ℕ). bit_and mask b) (only_below k low) ∙ and_pow mask k ∙ ap (λ (b : ℕ). b * 2 ^ k) one_bit ∙ one_times (2 ^ k) in
    let some : 0 < 2 ^ k = pow_pos k in
    omega (arith, sum, same, lost, some)
