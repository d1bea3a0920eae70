-- The highest member of a mask.
use Rattle.std.proofs.Common.{◌≡◌, ◌≢◌, inl, inr, ℕ, suc, ◌-◌, ◌*◌, ◌/◌, ◌<◌, ◌≤◌, ◌^◌, true, refl, subst, arith}
use Rattle.std.specs.Int.{bit_at, leading_zeros, w64}
use Rattle.std.proofs.Math.Nat.{pow-suc}
use Rattle.std.proofs.lemmas.Nat.{div-mul-add, leading_top}
use Rattle.std.proofs.lemmas.Nat.Bits.{bit_at_above}
use Rattle.std.proofs.lemmas.Bool.{cases_lt}
use Rattle.vx_mask.specs.Mask.{has}
use Rattle.vx_mask.proofs.MaskLemmas.{not_empty}
use Rattle.vx_mask.proofs.Tests.{not_both}

-- n / p for p to 2 p - 1
one_times : (n p : ℕ) → p ≤ n → n < p * 2 → n / p ≡ 1
one_times n p low high =
    subst (λ (m : ℕ). m / p ≡ 1) (omega (arith, low)) (div-mul-add 1 p (n - p) (omega (arith, low, high)))

top_bit : (n j : ℕ) → 2 ^ j ≤ n → n < 2 ^ suc j → bit_at n j ≡ 1
top_bit n j low high = rw (one_times n (2 ^ j) low (rw (← pow-suc 2 j) high)) refl

-- the place that the zeros before a number leave
pub top_member : (mask top : ℕ) → top ≡ 63 - leading_zeros w64 mask → mask < 2 ^ 64 → mask ≢ 0 → has mask top ≡ true
unfolding has
top_member mask top is fits some =
    let (j, sum, low, high) = leading_top 64 mask (omega (arith, some)) fits in
    let same : top ≡ j = omega (arith, is, sum) in
    rw (same, top_bit mask j low high) refl

-- no member is above it
pub none_above : (mask top : ℕ) → top ≡ 63 - leading_zeros w64 mask → mask < 2 ^ 64 → (map : ℕ) → has mask map ≡ true → map ≤ top
unfolding has
none_above mask top is fits map there =
    let some = not_empty mask map there in
    let (j, sum, low, high) = leading_top 64 mask (omega (arith, some)) fits in
    elim (cases_lt top map) [
      | inl past ↦ not_both there (rw (bit_at_above mask (suc j) map high (omega (arith, is, sum, past))) refl)
      | inr within ↦ within
    ]
