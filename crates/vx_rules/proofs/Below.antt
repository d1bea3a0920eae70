-- A test of each number below another.
use Rattle.std.proofs.Common.{◌≡◌, ℕ, ◌+◌, ◌<◌, Bool, true, false, zero, suc, arith, subst, inl, inr, add-one}
use Rattle.std.proofs.lemmas.Bool.{and_left, and_right, and_from, cases_lt}
use Rattle.vx_rules.specs.Below.{all_below}

-- one number that fails is enough
pub all_below_fails : (test : ℕ → Bool) (k n : ℕ) → k < n → test k ≡ false → all_below n test ≡ false
all_below_fails test k zero lt fails = absurd (omega arith)
all_below_fails test k (suc n) lt fails =
    elim (cases_lt k n) [
      | inl below ↦ and_left _ _ (all_below_fails test k n below fails)
      | inr le ↦ let e : k ≡ n = omega arith in and_right _ _ (subst (λ i. test i ≡ false) e fails)
    ]

-- one more that passes
pub all_below_more : (test : ℕ → Bool) (n : ℕ) → all_below n test ≡ true → test n ≡ true → all_below (n + 1) test ≡ true
all_below_more test n below here = rw add-one (and_from _ _ below here)
