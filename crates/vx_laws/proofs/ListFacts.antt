-- Tests, and what holds of the members of a list.
use Rattle.std.proofs.Common.{◌≡◌, ◌⊎◌, ℕ, ◌≤◌, Bool, true, false, not, cond, ◌&&◌, ◌||◌, ◌==◌, List, [], ◌∷◌, ◌++◌, map, Option, Some, None, refl, sym, ◌∙◌, ap, subst, inl, inr, arith, nat_lt}
use Rattle.std.specs.Prelude.{MatchBool, MatchOption}
use Rattle.std.specs.List.{list_any, filter}
use Rattle.std.proofs.lemmas.Bool.Decides.{nat_tests}
use Rattle.vx_copies.specs.Lists.{AllOf, AnyOf}
use Rattle.vx_stages.specs.Finding.{first_that}

-- ---- tests

-- the two ends of a match, each with what was found
pub at_found : {X N Q : Type 0} {S : X → Type 0} (o : Option X) → (o ≡ None → N → Q) → ((x : X) → o ≡ Some x → S x → Q) → MatchOption o N S → Q
at_found None n s h = n refl h
at_found (Some x) n s h = s x refl h

pub at_test : {T F Q : Type 0} (b : Bool) → (b ≡ true → T → Q) → (b ≡ false → F → Q) → MatchBool b T F → Q
at_test true t f h = t refl h
at_test false t f h = f refl h

pub clash : {X Q : Type 0} (o : Option X) (x : X) → o ≡ None → o ≡ Some x → Q
clash o x e f = cc

pub either : {A B Q : Type 0} → (A → Q) → (B → Q) → A ⊎ B → Q
either a b (inl h) = a h
either a b (inr h) = b h

pub both_ways : {Q : Type 0} (b : Bool) → b ≡ true → b ≡ false → Q
both_ways true p q = cc
both_ways false p q = cc

pub is_equal : (a b : ℕ) → a ≡ b → (a == b) ≡ true
is_equal a b h = grind (arith, nat_tests)

pub equal_is : (a b : ℕ) → (a == b) ≡ true → a ≡ b
equal_is a b h = grind (arith, nat_tests)

pub not_past : (a b : ℕ) → b ≤ a → nat_lt a b ≡ false
not_past a b h = grind (arith, nat_tests)

pub or_first : (a b : Bool) → a ≡ true → (a || b) ≡ true
or_first true b e = refl
or_first false b e = cc

pub or_second : (a b : Bool) → b ≡ true → (a || b) ≡ true
or_second true b e = refl
or_second false b e = e

pub or_neither : (a b : Bool) → a ≡ false → b ≡ false → (a || b) ≡ false
or_neither true b e f = cc
or_neither false b e f = f

pub and_second : (a b : Bool) → b ≡ false → (a && b) ≡ false
and_second true b e = e
and_second false b e = refl

pub and_unless : (a b : Bool) → (b ≡ true → a ≡ false) → (a && b) ≡ false
and_unless true true h = h refl
and_unless true false h = refl
and_unless false b h = refl

pub guarded : (a b : Bool) → (a ≡ true → b ≡ true) → (a && not b) ≡ false
guarded true b h = ap not (h refl)
guarded false b h = refl

-- two tests that pass each where the other does
pub alike : (a b : Bool) → (a ≡ true → b ≡ true) → (b ≡ true → a ≡ true) → a ≡ b
alike true b h k = sym (h refl)
alike false true h k = k refl
alike false false h k = refl

-- ---- lists

module _ {X : Type 0} where
  pub any_with : {R : Type 0} (P Q : X → Type 0) (xs : List X) → ((x : X) → P x → Q x → R) → AllOf P xs → AnyOf Q xs → R
  any_with P Q [] on all any = absurd any
  any_with P Q (x ∷ xs) on all (inl here) = on x all.0 here
  any_with P Q (x ∷ xs) on all (inr any) = any_with P Q xs on all.1 any

  pub any_gives : {R : Type 0} (P : X → Type 0) (xs : List X) → ((x : X) → P x → R) → AnyOf P xs → R
  any_gives P [] on any = absurd any
  any_gives P (x ∷ xs) on (inl here) = on x here
  any_gives P (x ∷ xs) on (inr any) = any_gives P xs on any

  pub any_map : (P Q : X → Type 0) (xs : List X) → ((x : X) → P x → Q x) → AnyOf P xs → AnyOf Q xs
  any_map P Q [] on any = absurd any
  any_map P Q (x ∷ xs) on (inl here) = inl (on x here)
  any_map P Q (x ∷ xs) on (inr any) = inr (any_map P Q xs on any)

  pub any_all : (P Q R : X → Type 0) (xs : List X) → ((x : X) → P x → Q x → R x) → AllOf P xs → AnyOf Q xs → AnyOf R xs
  any_all P Q R [] on all any = absurd any
  any_all P Q R (x ∷ xs) on all (inl here) = inl (on x all.0 here)
  any_all P Q R (x ∷ xs) on all (inr any) = inr (any_all P Q R xs on all.1 any)

  pub all_map : (P Q : X → Type 0) (xs : List X) → ((x : X) → P x → Q x) → AllOf P xs → AllOf Q xs
  all_map P Q [] on all = tt
  all_map P Q (x ∷ xs) on all = (on x all.0, all_map P Q xs on all.1)

  pub all_all : (P Q R : X → Type 0) (xs : List X) → ((x : X) → P x → Q x → R x) → AllOf P xs → AllOf Q xs → AllOf R xs
  all_all P Q R [] on all more = tt
  all_all P Q R (x ∷ xs) on all more = (on x all.0 more.0, all_all P Q R xs on all.1 more.1)

  pub all_from : (P : X → Type 0) (xs : List X) → ((x : X) → P x) → AllOf P xs
  all_from P [] on = tt
  all_from P (x ∷ xs) on = (on x, all_from P xs on)

  -- where all of some are so, one is
  pub all_any : (P : X → Type 0) (xs : List X) → (xs ≡ [] → ⊥) → AllOf P xs → AnyOf P xs
  all_any P [] some all = absurd (some refl)
  all_any P (x ∷ xs) some all = inl all.0

  pub all_filter : (test : X → Bool) (P : X → Type 0) (xs : List X) → AllOf (λ x. test x ≡ true → P x) xs → AllOf P (filter test xs)
  all_filter test P [] all = tt
  all_filter test P (x ∷ xs) all = put (test x) all.0 (all_filter test P xs all.1)
    where
      put : (b : Bool) → (b ≡ true → P x) → AllOf P (filter test xs) → AllOf P (cond b (x ∷ filter test xs) (filter test xs))
      put true here rest = (here refl, rest)
      put false here rest = rest

  -- where all pass, a filter keeps all
  pub all_pass : (test : X → Bool) (xs : List X) → AllOf (λ x. test x ≡ true) xs → filter test xs ≡ xs
  all_pass test [] all = refl
  all_pass test (x ∷ xs) all = ap (λ (b : Bool). cond b (x ∷ filter test xs) (filter test xs)) all.0 ∙ ap (λ (ys : List X). x ∷ ys) (all_pass test xs all.1)

  pub all_filtered : (test : X → Bool) (xs : List X) → AllOf (λ x. test x ≡ true) (filter test xs)
  all_filtered test xs = all_filter test (λ x. test x ≡ true) xs (all_from (λ x. test x ≡ true → test x ≡ true) xs (λ x on. on))

  pub list_any_from : (test : X → Bool) (P : X → Type 0) (xs : List X) → ((x : X) → P x → test x ≡ true) → AnyOf P xs → list_any test xs ≡ true
  list_any_from test P [] on any = absurd any
  list_any_from test P (x ∷ xs) on (inl here) = or_first (test x) (list_any test xs) (on x here)
  list_any_from test P (x ∷ xs) on (inr any) = or_second (test x) (list_any test xs) (list_any_from test P xs on any)

  pub list_any_none : (test : X → Bool) (xs : List X) → AllOf (λ x. test x ≡ false) xs → list_any test xs ≡ false
  list_any_none test [] all = refl
  list_any_none test (x ∷ xs) all = or_neither (test x) (list_any test xs) all.0 (list_any_none test xs all.1)

  pub first_none : (test : X → Bool) (xs : List X) → AllOf (λ x. test x ≡ false) xs → first_that test xs ≡ None
  first_none test [] all = refl
  first_none test (x ∷ xs) all = ap (λ (b : Bool). cond b (Some x) (first_that test xs)) all.0 ∙ first_none test xs all.1

  pub all_append : (P : X → Type 0) (xs ys : List X) → AllOf P xs → AllOf P ys → AllOf P (xs ++ ys)
  all_append P [] ys all more = more
  all_append P (x ∷ xs) ys all more = (all.0, all_append P xs ys all.1 more)

  pub all_front : (P : X → Type 0) (xs ys : List X) → AllOf P (xs ++ ys) → AllOf P xs
  all_front P [] ys all = tt
  all_front P (x ∷ xs) ys all = (all.0, all_front P xs ys all.1)

  pub all_behind : (P : X → Type 0) (xs ys : List X) → AllOf P (xs ++ ys) → AllOf P ys
  all_behind P [] ys all = all
  all_behind P (x ∷ xs) ys all = all_behind P xs ys all.1

  pub any_front : (P : X → Type 0) (xs ys : List X) → AnyOf P xs → AnyOf P (xs ++ ys)
  any_front P [] ys any = absurd any
  any_front P (x ∷ xs) ys (inl here) = inl here
  any_front P (x ∷ xs) ys (inr any) = inr (any_front P xs ys any)

  pub any_behind : (P : X → Type 0) (xs ys : List X) → AnyOf P ys → AnyOf P (xs ++ ys)
  any_behind P [] ys any = any
  any_behind P (x ∷ xs) ys any = inr (any_behind P xs ys any)

  pub any_filter : (test : X → Bool) (P : X → Type 0) (xs : List X) → ((x : X) → P x → test x ≡ true) → AnyOf P xs → AnyOf P (filter test xs)
  any_filter test P [] on any = absurd any
  any_filter test P (x ∷ xs) on (inl here) = subst (λ (b : Bool). AnyOf P (cond b (x ∷ filter test xs) (filter test xs))) (sym (on x here)) (inl here)
  any_filter test P (x ∷ xs) on (inr any) = behind (test x) (any_filter test P xs on any)
    where
      behind : (b : Bool) → AnyOf P (filter test xs) → AnyOf P (cond b (x ∷ filter test xs) (filter test xs))
      behind true h = inr h
      behind false h = h

  pub any_from_list : (test : X → Bool) (xs : List X) → list_any test xs ≡ true → AnyOf (λ x. test x ≡ true) xs
  any_from_list test [] e = cc
  any_from_list test (x ∷ xs) e = by (test x) refl (any_from_list test xs) e
    where
      by : (b : Bool) → test x ≡ b → (list_any test xs ≡ true → AnyOf (λ x. test x ≡ true) xs) → (b || list_any test xs) ≡ true → AnyOf (λ x. test x ≡ true) (x ∷ xs)
      by true is more e = inl is
      by false is more e = inr (more e)

pub all_mapped : {X Y : Type 0} (made : X → Y) (P : Y → Type 0) (xs : List X) → AllOf (λ x. P (made x)) xs → AllOf P (map made xs)
all_mapped made P [] all = tt
all_mapped made P (x ∷ xs) all = (all.0, all_mapped made P xs all.1)

pub any_mapped : {X Y : Type 0} (made : X → Y) (P : Y → Type 0) (xs : List X) → AnyOf (λ x. P (made x)) xs → AnyOf P (map made xs)
any_mapped made P [] any = absurd any
any_mapped made P (x ∷ xs) (inl here) = inl here
any_mapped made P (x ∷ xs) (inr any) = inr (any_mapped made P xs any)
