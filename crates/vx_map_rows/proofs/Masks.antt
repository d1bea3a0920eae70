-- A small mask has small maps.
use Rattle.std.proofs.Common.{◌≡◌, ℕ, ◌<◌, ◌≤◌, ◌^◌, true, false, refl, inl, inr}
use Rattle.std.proofs.lemmas.Bool.{cases_lt}
use Rattle.std.proofs.lemmas.Nat.Bits.{bit_at_above}
use Rattle.vx_mask.specs.Mask.{has}
use Rattle.vx_mask.proofs.Tests.{not_both}

above : (mask n k : ℕ) → mask < 2 ^ n → n ≤ k → has mask k ≡ false
unfolding has
above mask n k fits high = rw (bit_at_above mask n k fits high) refl

pub map_below : (mask n k : ℕ) → mask < 2 ^ n → has mask k ≡ true → k < n
map_below mask n k fits there = elim (cases_lt k n) [ inl lt ↦ lt | inr high ↦ not_both there (above mask n k fits high) ]
