-- Lists: what holds of each element, and of each number below another.
use Rattle.std.proofs.Common.{◌≡◌, ℕ, zero, suc, ◌<◌, ◌≤◌, Bool, true, false, List, [], ◌∷◌, length, refl, inl, inr, arith}
use Rattle.std.specs.List.{list_all, list_any}
use Rattle.std.proofs.lemmas.Bool.{and_from, or_from}
use Rattle.vx_rules.specs.Below.{all_below}
use Rattle.vx_image.proofs.PlexMembers.{IsIn}

pub none_any : {A : Type 0} (test : A → Bool) (xs : List A) → ((x : A) → IsIn xs x → test x ≡ false) → list_any test xs ≡ false
none_any test [] each = refl
none_any test (x ∷ xs) each = or_from (test x) (list_any test xs) (each x (inl refl)) (none_any test xs (λ y there. each y (inr there)))

pub all_each : {A : Type 0} (test : A → Bool) (xs : List A) → ((x : A) → IsIn xs x → test x ≡ true) → list_all test xs ≡ true
all_each test [] each = refl
all_each test (x ∷ xs) each = and_from (test x) (list_all test xs) (each x (inl refl)) (all_each test xs (λ y there. each y (inr there)))

pub below_each : (test : ℕ → Bool) (n : ℕ) → ((k : ℕ) → k < n → test k ≡ true) → all_below n test ≡ true
below_each test zero h = refl
below_each test (suc n) h = and_from (all_below n test) (test n) (below_each test n (λ k lt. h k (omega (arith, lt)))) (h n (omega arith))

pub first_there : {A : Type 0} (xs : List A) → 1 ≤ length xs → (x : A) × IsIn xs x
first_there [] some = absurd (omega (arith, some))
first_there (x ∷ xs) some = (x, inl refl)
