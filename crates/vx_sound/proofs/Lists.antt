-- What holds of the members of a list.
use Rattle.std.proofs.Common.{◌≡◌, ◌⊎◌, Bool, true, false, cond, List, [], ◌∷◌, ◌++◌, map, refl, inl, inr, sym, subst}
use Rattle.std.specs.List.{list_any, filter}
use Rattle.vx_mask.proofs.Tests.{or_cases, or_from_left, or_from_right}
use Rattle.vx_copies.specs.Lists.{AllOf, AnyOf}

pub all_imp : {X : Type 0} (P Q : X → Type 0) (xs : List X) → ((x : X) → P x → Q x) → AllOf P xs → AllOf Q xs
all_imp P Q [] f all = all
all_imp P Q (x ∷ xs) f all = (f x all.0, all_imp P Q xs f all.1)

-- what holds of everything holds of all
pub all_from : {X : Type 0} (P : X → Type 0) (xs : List X) → ((x : X) → P x) → AllOf P xs
all_from P [] f = tt
all_from P (x ∷ xs) f = (f x, all_from P xs f)

pub all_two : {X : Type 0} (P Q R : X → Type 0) (xs : List X) → ((x : X) → P x → Q x → R x) → AllOf P xs → AllOf Q xs → AllOf R xs
all_two P Q R [] f ps qs = ps
all_two P Q R (x ∷ xs) f ps qs = (f x ps.0 qs.0, all_two P Q R xs f ps.1 qs.1)

pub all_join : {X : Type 0} (P : X → Type 0) (xs ys : List X) → AllOf P xs → AllOf P ys → AllOf P (xs ++ ys)
all_join P [] ys one two = two
all_join P (x ∷ xs) ys one two = (one.0, all_join P xs ys one.1 two)

pub all_left : {X : Type 0} (P : X → Type 0) (xs ys : List X) → AllOf P (xs ++ ys) → AllOf P xs
all_left P [] ys all = tt
all_left P (x ∷ xs) ys all = (all.0, all_left P xs ys all.1)

pub all_right : {X : Type 0} (P : X → Type 0) (xs ys : List X) → AllOf P (xs ++ ys) → AllOf P ys
all_right P [] ys all = all
all_right P (x ∷ xs) ys all = all_right P xs ys all.1

-- one of all has what all have
pub one_of : {X : Type 0} (P Q : X → Type 0) (xs : List X) → AllOf P xs → AnyOf Q xs → (x : X) × P x × Q x
one_of P Q [] all any = absurd any
one_of P Q (x ∷ xs) all (inl here) = (x, all.0, here)
one_of P Q (x ∷ xs) all (inr there) = one_of P Q xs all.1 there

pub any_imp : {X : Type 0} (P Q : X → Type 0) (xs : List X) → ((x : X) → P x → Q x) → AnyOf P xs → AnyOf Q xs
any_imp P Q [] f any = any
any_imp P Q (x ∷ xs) f (inl here) = inl (f x here)
any_imp P Q (x ∷ xs) f (inr there) = inr (any_imp P Q xs f there)

pub any_left : {X : Type 0} (P : X → Type 0) (xs ys : List X) → AnyOf P xs → AnyOf P (xs ++ ys)
any_left P [] ys any = absurd any
any_left P (x ∷ xs) ys (inl here) = inl here
any_left P (x ∷ xs) ys (inr there) = inr (any_left P xs ys there)

pub any_right : {X : Type 0} (P : X → Type 0) (xs ys : List X) → AnyOf P ys → AnyOf P (xs ++ ys)
any_right P [] ys any = any
any_right P (x ∷ xs) ys any = inr (any_right P xs ys any)

pub any_split : {X : Type 0} (P : X → Type 0) (xs ys : List X) → AnyOf P (xs ++ ys) → AnyOf P xs ⊎ AnyOf P ys
any_split P [] ys any = inr any
any_split P (x ∷ xs) ys (inl here) = inl (inl here)
any_split P (x ∷ xs) ys (inr there) = by (any_split P xs ys there)
  where
    by : AnyOf P xs ⊎ AnyOf P ys → AnyOf P (x ∷ xs) ⊎ AnyOf P ys
    by (inl one) = inl (inr one)
    by (inr two) = inr two

-- one passes the test, or none does
pub any_or_none : {X : Type 0} (P : X → Type 0) (xs : List X) → ((x : X) → P x ⊎ (P x → ⊥)) → AnyOf P xs ⊎ (AnyOf P xs → ⊥)
any_or_none P [] test = inr (λ any. any)
any_or_none P (x ∷ xs) test = by (test x) (any_or_none P xs test)
  where
    neither : (P x → ⊥) → (AnyOf P xs → ⊥) → AnyOf P (x ∷ xs) → ⊥
    neither off never (inl here) = off here
    neither off never (inr there) = never there

    by : P x ⊎ (P x → ⊥) → AnyOf P xs ⊎ (AnyOf P xs → ⊥) → AnyOf P (x ∷ xs) ⊎ (AnyOf P (x ∷ xs) → ⊥)
    by (inl on) rest = inl (inl on)
    by (inr off) (inl some) = inl (inr some)
    by (inr off) (inr never) = inr (neither off never)

-- one that passes a test
pub any_test : {X : Type 0} (test : X → Bool) (xs : List X) → list_any test xs ≡ true → AnyOf (λ x. test x ≡ true) xs
any_test test [] e = cc
any_test test (x ∷ xs) e = elim (or_cases (test x) (list_any test xs) e) [ inl here ↦ inl here | inr there ↦ inr (any_test test xs there) ]

pub test_any : {X : Type 0} (test : X → Bool) (xs : List X) → AnyOf (λ x. test x ≡ true) xs → list_any test xs ≡ true
test_any test [] any = absurd any
test_any test (x ∷ xs) (inl here) = or_from_left (test x) (list_any test xs) here
test_any test (x ∷ xs) (inr there) = or_from_right (test x) (list_any test xs) (test_any test xs there)

-- a member of the list has what all have
pub all_at : {X : Type 0} (P : X → Type 0) (xs : List X) (m : X) → AllOf P xs → AnyOf (λ x. x ≡ m) xs → P m
all_at P [] m all any = absurd any
all_at P (x ∷ xs) m all (inl here) = subst P here all.0
all_at P (x ∷ xs) m all (inr there) = all_at P xs m all.1 there

pub listed_one : {X : Type 0} (P Q : X → Type 0) (xs : List X) → AllOf P xs → AnyOf Q xs → (x : X) × AnyOf (λ y. y ≡ x) xs × P x × Q x
listed_one P Q [] all any = absurd any
listed_one P Q (x ∷ xs) all (inl here) = (x, inl refl, all.0, here)
listed_one P Q (x ∷ xs) all (inr there) = let more = listed_one P Q xs all.1 there in (more.0, inr more.1, more.2, more.3)

pub any_at : {X : Type 0} (P : X → Type 0) (xs : List X) (m : X) → P m → AnyOf (λ x. x ≡ m) xs → AnyOf P xs
any_at P [] m is any = any
any_at P (x ∷ xs) m is (inl here) = inl (subst P (sym here) is)
any_at P (x ∷ xs) m is (inr there) = inr (any_at P xs m is there)

pub all_mapped : {X Y : Type 0} (P : Y → Type 0) (f : X → Y) (xs : List X) → AllOf (λ x. P (f x)) xs → AllOf P (map f xs)
all_mapped P f [] all = tt
all_mapped P f (x ∷ xs) all = (all.0, all_mapped P f xs all.1)

pub all_filter : {X : Type 0} (P : X → Type 0) (test : X → Bool) (xs : List X) → AllOf P xs → AllOf P (filter test xs)
all_filter P test [] all = tt
all_filter P test (x ∷ xs) all = by (test x) (all_filter P test xs all.1)
  where
    by : (b : Bool) → AllOf P (filter test xs) → AllOf P (cond b (x ∷ filter test xs) (filter test xs))
    by true rest = (all.0, rest)
    by false rest = rest

-- where none is such, each is not
pub all_without : {X : Type 0} (P : X → Type 0) (xs : List X) → (AnyOf P xs → ⊥) → AllOf (λ x. P x → ⊥) xs
all_without P [] none = tt
all_without P (x ∷ xs) none = ((λ is. none (inl is)), all_without P xs (λ any. none (inr any)))
