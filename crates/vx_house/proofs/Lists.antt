-- What holds of the members of lists, in twos and in parts.
use Rattle.std.proofs.Common.{◌≡◌, ◌∙◌, inl, inr, List, [], ◌∷◌, ◌++◌, map, length, suc, Some, None, Bool, true, false, cond, refl, sym, ap, arith}
use Rattle.std.specs.Str.{bytes_eq}
use Rattle.vx_base.specs.Named.{Word}
use Rattle.vx_copies.specs.Lists.{AllOf, AnyOf, Each}
use Rattle.vx_house.specs.Holders.{Holder, held_as, AreApart}
use Rattle.vx_house.proofs.Holders.{IsApart}
use Rattle.vx_house.proofs.AllLaws.{all_front}

pub each_two : {X : Type 0} (R S T : X → X → Type 0) → ((a b : X) → R a b → S a b → T a b) → (xs ys : List X) → Each R xs ys → Each S xs ys → Each T xs ys
each_two R S T f [] [] e d = tt
each_two R S T f [] (y ∷ ys) e d = absurd e
each_two R S T f (x ∷ xs) [] e d = absurd e
each_two R S T f (x ∷ xs) (y ∷ ys) e d = (f x y e.0 d.0, each_two R S T f xs ys e.1 d.1)

-- what holds of the first ones, and of each two
pub each_first : {X : Type 0} (P : X → Type 0) (S T : X → X → Type 0) → ((a b : X) → P a → S a b → T a b) → (xs ys : List X) → AllOf P xs → Each S xs ys → Each T xs ys
each_first P S T f [] [] e d = tt
each_first P S T f [] (y ∷ ys) e d = absurd d
each_first P S T f (x ∷ xs) [] e d = absurd d
each_first P S T f (x ∷ xs) (y ∷ ys) e d = (f x y e.0 d.0, each_first P S T f xs ys e.1 d.1)

pub each_second : {X : Type 0} (P : X → Type 0) (S T : X → X → Type 0) → ((a b : X) → P b → S a b → T a b) → (xs ys : List X) → AllOf P ys → Each S xs ys → Each T xs ys
each_second P S T f [] [] e d = tt
each_second P S T f [] (y ∷ ys) e d = absurd d
each_second P S T f (x ∷ xs) [] e d = absurd d
each_second P S T f (x ∷ xs) (y ∷ ys) e d = (f x y e.0 d.0, each_second P S T f xs ys e.1 d.1)

pub each_append : {X : Type 0} (R : X → X → Type 0) (xs ys us vs : List X) → Each R xs ys → Each R us vs → Each R (xs ++ us) (ys ++ vs)
each_append R [] [] us vs e d = d
each_append R [] (y ∷ ys) us vs e d = absurd e
each_append R (x ∷ xs) [] us vs e d = absurd e
each_append R (x ∷ xs) (y ∷ ys) us vs e d = (e.0, each_append R xs ys us vs e.1 d)

-- of what becomes of the members of two lists
pub each_mapped : {X Y : Type 0} (R : X → X → Type 0) (S : Y → Y → Type 0) (f : X → Y) → ((x y : X) → R x y → S (f x) (f y)) → (xs ys : List X) → Each R xs ys → Each S (map f xs) (map f ys)
each_mapped R S f g [] [] each = tt
each_mapped R S f g [] (y ∷ ys) each = absurd each
each_mapped R S f g (x ∷ xs) [] each = absurd each
each_mapped R S f g (x ∷ xs) (y ∷ ys) each = (g x y each.0, each_mapped R S f g xs ys each.1)

pub all_of_each : {X Y : Type 0} (R : X → X → Type 0) (Q : Y → Type 0) (f : X → Y) → ((a b : X) → R a b → Q (f a)) → (xs ys : List X) → Each R xs ys → AllOf Q (map f xs)
all_of_each R Q f g [] [] e = tt
all_of_each R Q f g [] (y ∷ ys) e = absurd e
all_of_each R Q f g (x ∷ xs) [] e = absurd e
all_of_each R Q f g (x ∷ xs) (y ∷ ys) e = (g x y e.0, all_of_each R Q f g xs ys e.1)

-- what holds of each of the second ones, as it is of the first ones
pub all_before : {X Y : Type 0} (R : X → X → Type 0) (P : X → Type 0) (Q : Y → Type 0) (f : X → Y) → ((a b : X) → R a b → P b → Q (f a)) → (xs ys : List X) → Each R xs ys → AllOf P ys → AllOf Q (map f xs)
all_before R P Q f g [] [] e all = tt
all_before R P Q f g [] (y ∷ ys) e all = absurd e
all_before R P Q f g (x ∷ xs) [] e all = absurd e
all_before R P Q f g (x ∷ xs) (y ∷ ys) e all = (g x y e.0 all.0, all_before R P Q f g xs ys e.1 all.1)

-- what each two say of the first one
pub all_of_pairs : {X : Type 0} (R : X → X → Type 0) (Q : X → Type 0) → ((a b : X) → R a b → Q a) → (xs ys : List X) → Each R xs ys → AllOf Q xs
all_of_pairs R Q f [] ys e = tt
all_of_pairs R Q f (x ∷ xs) [] e = absurd e
all_of_pairs R Q f (x ∷ xs) (y ∷ ys) e = (f x y e.0, all_of_pairs R Q f xs ys e.1)

-- of each two of a list, the first ones or the others
pub each_front : {X : Type 0} (R : X → X → Type 0) (xs ys us vs : List X) → length xs ≡ length ys → Each R (xs ++ us) (ys ++ vs) → Each R xs ys
each_front R [] [] us vs long e = tt
each_front R [] (y ∷ ys) us vs long e = absurd (omega (arith, long))
each_front R (x ∷ xs) [] us vs long e = absurd (omega (arith, long))
each_front R (x ∷ xs) (y ∷ ys) us vs long e = (e.0, each_front R xs ys us vs (omega (arith, long)) e.1)

pub each_back : {X : Type 0} (R : X → X → Type 0) (xs ys us vs : List X) → length xs ≡ length ys → Each R (xs ++ us) (ys ++ vs) → Each R us vs
each_back R [] [] us vs long e = e
each_back R [] (y ∷ ys) us vs long e = absurd (omega (arith, long))
each_back R (x ∷ xs) [] us vs long e = absurd (omega (arith, long))
each_back R (x ∷ xs) (y ∷ ys) us vs long e = each_back R xs ys us vs (omega (arith, long)) e.1

pub each_long : {X : Type 0} (R : X → X → Type 0) (xs ys : List X) → Each R xs ys → length xs ≡ length ys
each_long R [] [] e = refl
each_long R [] (y ∷ ys) e = absurd e
each_long R (x ∷ xs) [] e = absurd e
each_long R (x ∷ xs) (y ∷ ys) e = ap suc (each_long R xs ys e.1)

pub any_mapped : {X Y : Type 0} (Q : Y → Type 0) (f : X → Y) (xs : List X) → AnyOf (λ x. Q (f x)) xs → AnyOf Q (map f xs)
any_mapped Q f [] any = any
any_mapped Q f (x ∷ xs) (inl here) = inl here
any_mapped Q f (x ∷ xs) (inr there) = inr (any_mapped Q f xs there)

-- one of the first ones, by one of the second ones
pub any_of_each : {X Y : Type 0} (R : X → X → Type 0) (P : X → Type 0) (Q : Y → Type 0) (f : X → Y) → ((a b : X) → R a b → P b → Q (f a)) → (xs ys : List X) → Each R xs ys → AnyOf P ys → AnyOf Q (map f xs)
any_of_each R P Q f g [] [] e any = any
any_of_each R P Q f g [] (y ∷ ys) e any = absurd e
any_of_each R P Q f g (x ∷ xs) [] e any = absurd e
any_of_each R P Q f g (x ∷ xs) (y ∷ ys) e (inl here) = inl (g x y e.0 here)
any_of_each R P Q f g (x ∷ xs) (y ∷ ys) e (inr there) = inr (any_of_each R P Q f g xs ys e.1 there)

pub any_front : {X : Type 0} (Q : X → Type 0) (xs ys : List X) → AnyOf Q xs → AnyOf Q (xs ++ ys)
any_front Q [] ys any = absurd any
any_front Q (x ∷ xs) ys (inl here) = inl here
any_front Q (x ∷ xs) ys (inr there) = inr (any_front Q xs ys there)

pub any_back : {X : Type 0} (Q : X → Type 0) (xs ys : List X) → AnyOf Q ys → AnyOf Q (xs ++ ys)
any_back Q [] ys any = any
any_back Q (x ∷ xs) ys any = inr (any_back Q xs ys any)

pub apart_back : (xs ys : List Holder) → AreApart (xs ++ ys) → AreApart ys
apart_back [] ys apart = apart
apart_back (x ∷ xs) ys apart = apart_back xs ys apart.1

pub apart_front : (xs ys : List Holder) → AreApart (xs ++ ys) → AreApart xs
apart_front [] ys apart = tt
apart_front (x ∷ xs) ys apart = (all_front (IsApart x) xs ys apart.0, apart_front xs ys apart.1)

-- what is held under a name by some and others
pub held_behind : (vs xs ys : List Holder) (name : Word) → held_as xs name ≡ held_as ys name → held_as (vs ++ xs) name ≡ held_as (vs ++ ys) name
held_behind [] xs ys name same = same
held_behind (v ∷ vs) xs ys name same = ap (cond (bytes_eq v.name name) (Some v.seen)) (held_behind vs xs ys name same)

pub held_past : (xs ys : List Holder) (name : Word) → held_as xs name ≡ None → held_as (xs ++ ys) name ≡ held_as ys name
held_past [] ys name none = refl
held_past (x ∷ xs) ys name none = by_test (bytes_eq x.name name) none (held_past xs ys name)
  where
    by_test : (b : Bool) → cond b (Some x.seen) (held_as xs name) ≡ None → (held_as xs name ≡ None → held_as (xs ++ ys) name ≡ held_as ys name) → cond b (Some x.seen) (held_as (xs ++ ys) name) ≡ held_as ys name
    by_test true none rest = cc
    by_test false none rest = rest none

-- devices that are none of these are held by others, whatever these are
pub held_around : (vs xs ys os : List Holder) (name : Word) → held_as xs name ≡ None → held_as ys name ≡ None → held_as (vs ++ (xs ++ os)) name ≡ held_as (vs ++ (ys ++ os)) name
held_around vs xs ys os name p q = held_behind vs (xs ++ os) (ys ++ os) name (held_past xs os name p ∙ sym (held_past ys os name q))
