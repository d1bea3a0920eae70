-- Elements of lists, and tests that they pass.
use Rattle.std.proofs.Common.{◌≡◌, ◌⊎◌, inl, inr, ℕ, zero, suc, Bool, true, false, refl, sym, ◌∙◌, subst, cond, List, [], ◌∷◌, length, arith}
use Rattle.std.specs.Prelude.{◌==◌, Contains}
use Rattle.std.specs.List.{list_all, list_any, filter}
use Rattle.std.proofs.lemmas.Bool.Decides.{nat_tests}
use Rattle.vx_image.proofs.PlexMembers.{IsIn, any_in, in_any, all_in}

pub is_in : {X : Type 0} (xs : List X) (x : X) → Contains xs x → IsIn xs x
is_in [] x (k, lt, at) = absurd (omega (arith, lt))
is_in (y ∷ ys) x (zero, lt, at) = inl (sym at)
is_in (y ∷ ys) x (suc k, lt, at) = inr (is_in ys x (k, omega (arith, lt), at))

pub contains : {X : Type 0} (xs : List X) (x : X) → IsIn xs x → Contains xs x
contains [] x h = absurd h
contains (y ∷ ys) x (inl same) = (0, omega arith, sym same)
contains (y ∷ ys) x (inr h) = let r = contains ys x h in let lt = r.1 in (suc r.0, omega (arith, lt), r.2)

-- ---- tests

pub all_from_each : {X : Type 0} (test : X → Bool) (xs : List X) → ((x : X) → Contains xs x → test x ≡ true) → list_all test xs ≡ true
all_from_each test [] each = refl
all_from_each test (x ∷ xs) each = rw (each x (0, omega arith, refl)) (all_from_each test xs (λ y one. let lt = one.1 in each y (suc one.0, omega (arith, lt), one.2)))

pub each_from_all : {X : Type 0} (test : X → Bool) (xs : List X) (x : X) → list_all test xs ≡ true → Contains xs x → test x ≡ true
each_from_all test xs x all one = all_in test xs x all (is_in xs x one)

pub one_from_any : {X : Type 0} (test : X → Bool) (xs : List X) → list_any test xs ≡ true → (x : X) × Contains xs x × (test x ≡ true)
one_from_any test xs any = let r = any_in test xs any in (r.0, contains xs r.0 r.1, r.2)

pub any_from_one : {X : Type 0} (test : X → Bool) (xs : List X) (x : X) → Contains xs x → test x ≡ true → list_any test xs ≡ true
any_from_one test xs x one h = in_any test xs x (is_in xs x one) h

-- ---- those that pass

kept : {X : Type 0} (b : Bool) (y x : X) (xs : List X) → IsIn (cond b (y ∷ xs) xs) x → ((x ≡ y) × (b ≡ true)) ⊎ IsIn xs x
kept true y x xs (inl same) = inl (same, refl)
kept true y x xs (inr one) = inr one
kept false y x xs one = inr one

pub in_filtered : {X : Type 0} (test : X → Bool) (xs : List X) (x : X) → IsIn (filter test xs) x → IsIn xs x × (test x ≡ true)
in_filtered test [] x one = absurd one
in_filtered test (y ∷ ys) x one =
    elim (kept (test y) y x (filter test ys) one) [
      | inl here ↦ (inl here.0, subst (λ z. test z ≡ true) (sym here.0) here.1)
      | inr there ↦ let r = in_filtered test ys x there in (inr r.0, r.1)
    ]

keeps_first : {X : Type 0} (b : Bool) (y x : X) (xs : List X) → x ≡ y → b ≡ true → IsIn (cond b (y ∷ xs) xs) x
keeps_first true y x xs same h = inl same
keeps_first false y x xs same h = cc

keeps_rest : {X : Type 0} (b : Bool) (y x : X) (xs : List X) → IsIn xs x → IsIn (cond b (y ∷ xs) xs) x
keeps_rest true y x xs one = inr one
keeps_rest false y x xs one = one

filtered_in : {X : Type 0} (test : X → Bool) (xs : List X) (x : X) → IsIn xs x → test x ≡ true → IsIn (filter test xs) x
filtered_in test [] x one h = absurd one
filtered_in test (y ∷ ys) x (inl same) h = keeps_first (test y) y x (filter test ys) same (subst (λ z. test z ≡ true) same h)
filtered_in test (y ∷ ys) x (inr one) h = keeps_rest (test y) y x (filter test ys) (filtered_in test ys x one h)

pub from_filter : {X : Type 0} (test : X → Bool) (xs : List X) (x : X) → Contains (filter test xs) x → Contains xs x × (test x ≡ true)
from_filter test xs x one = let r = in_filtered test xs x (is_in (filter test xs) x one) in (contains xs x r.0, r.1)

pub into_filter : {X : Type 0} (test : X → Bool) (xs : List X) (x : X) → Contains xs x → test x ≡ true → Contains (filter test xs) x
into_filter test xs x one h = contains (filter test xs) x (filtered_in test xs x (is_in xs x one) h)

-- ---- a single element

of_one : {X : Type 0} (xs : List X) (x y : X) → (length xs == 1) ≡ true → IsIn xs x → IsIn xs y → x ≡ y
of_one [] x y one here there = absurd here
of_one (z ∷ []) x y one (inl here) (inl there) = here ∙ sym there
of_one (z ∷ []) x y one (inl here) (inr there) = absurd there
of_one (z ∷ []) x y one (inr here) there = absurd here
of_one (z ∷ w ∷ zs) x y one here there = absurd (two (length zs) one)
  where
    two : (n : ℕ) → (suc (suc n) == 1) ≡ true → ⊥
    two n h = grind (arith, nat_tests, h)

pub only_one : {X : Type 0} (xs : List X) (x y : X) → (length xs == 1) ≡ true → Contains xs x → Contains xs y → x ≡ y
only_one xs x y one here there = of_one xs x y one (is_in xs x here) (is_in xs y there)
