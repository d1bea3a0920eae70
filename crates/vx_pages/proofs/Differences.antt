-- The bits of two bytes together.
use Rattle.std.proofs.Common.{◌≡◌, ℕ, zero, suc, ◌+◌, ◌%◌, ◌<◌, refl, arith, min}
use Rattle.std.specs.Prelude.{◌==◌, ◌&&◌, bit_and, bit_xor}
use Rattle.std.specs.Int.{bit_at}
use Rattle.std.proofs.lemmas.Bool.Decides.{nat_tests}
use Rattle.std.proofs.lemmas.Nat.Bits.{bit_at_and, bit_at_xor, bit_at-lt}
use Rattle.vx_mask.specs.Mask.{has}
use Rattle.vx_pages.specs.Setting.{differ}

tests_both : (a b : ℕ) → a < 2 → b < 2 → (min a b == 1) ≡ ((a == 1) && (b == 1))
tests_both a b low high = grind (arith, nat_tests)

pub has-and : (a b k : ℕ) → has (bit_and a b) k ≡ (has a k && has b k)
unfolding has
has-and a b k = rw (bit_at_and a b k) (tests_both (bit_at a k) (bit_at b k) (bit_at-lt a k) (bit_at-lt b k))

tests_differ : (a b : ℕ) → a < 2 → b < 2 → ((a + b) % 2 == 1) ≡ differ (a == 1) (b == 1)
tests_differ zero zero low high = refl
tests_differ zero (suc zero) low high = refl
tests_differ (suc zero) zero low high = refl
tests_differ (suc zero) (suc zero) low high = refl
tests_differ (suc (suc a)) b low high = absurd (omega (arith, low))
tests_differ zero (suc (suc b)) low high = absurd (omega (arith, high))
tests_differ (suc zero) (suc (suc b)) low high = absurd (omega (arith, high))

pub has-xor : (a b k : ℕ) → has (bit_xor a b) k ≡ differ (has a k) (has b k)
unfolding has
has-xor a b k = rw (bit_at_xor a b k) (tests_differ (bit_at a k) (bit_at b k) (bit_at-lt a k) (bit_at-lt b k))
