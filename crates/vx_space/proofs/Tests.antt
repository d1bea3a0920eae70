-- Tests of numbers and of elements.
use Rattle.std.proofs.Common.{◌≡◌, ℕ, ◌<◌, ◌≤◌, max, nat_le, nat_lt, Bool, true, false, not, List, [], ◌∷◌, ◌++◌, refl, sym, ap, subst, inl, inr, arith, ◌&&◌, ◌||◌}
use Rattle.std.specs.List.{list_all}
use Rattle.std.specs.Str.{bytes_eq}
use Rattle.std.proofs.lemmas.Bool.{false≢true, and_parts, and_from, cases_lt, leb-true, le-leb, lt-ltb, lt-leb, le-ltb, ltb-true, false_from_ne_true}
use Rattle.vx_base.specs.Named.{Word}
use Rattle.vx_base.proofs.NamedLemmas.{bytes_eq_self, bytes_eq_same}
use Rattle.vx_rules.proofs.ListTests.{same_truth}

pub or_false : (b : Bool) → (b || false) ≡ b
or_false true = refl
or_false false = refl

pub and_true : (b : Bool) → (b && true) ≡ b
and_true true = refl
and_true false = refl

pub and_false : (b : Bool) → (b && false) ≡ false
and_false true = refl
and_false false = refl

pub not_true : (b : Bool) → not b ≡ true → b ≡ false
not_true true h = absurd (false≢true h)
not_true false h = refl

pub shared : (a b c : Bool) → ((a && c) || (b && c)) ≡ ((a || b) && c)
shared true true true = refl
shared true true false = refl
shared true false c = or_false c
shared false b c = refl

pub all_append : {A : Type 0} (p : A → Bool) (xs ys : List A) → list_all p xs ≡ true → list_all p ys ≡ true → list_all p (xs ++ ys) ≡ true
all_append p [] ys h k = k
all_append p (x ∷ xs) ys h k = let parts = and_parts (p x) (list_all p xs) h in and_from _ _ parts.0 (all_append p xs ys parts.1 k)

pub all_weaker : {A : Type 0} (p q : A → Bool) (xs : List A) → ((x : A) → p x ≡ true → q x ≡ true) → list_all p xs ≡ true → list_all q xs ≡ true
all_weaker p q [] w h = refl
all_weaker p q (x ∷ xs) w h = let parts = and_parts (p x) (list_all p xs) h in and_from _ _ (w x parts.0) (all_weaker p q xs w parts.1)

-- names are equal in both orders
pub eq_turned : (a b : Word) → bytes_eq a b ≡ true → bytes_eq b a ≡ true
eq_turned a b h = subst (λ n. bytes_eq b n ≡ true) (sym (bytes_eq_same a b h)) (bytes_eq_self b)

-- a number from one on, and below another
pub within_none : (from to x : ℕ) → to ≤ from → (nat_le from x && nat_lt x to) ≡ false
within_none from to x le = false_from_ne_true _ (λ h.
    let parts = and_parts (nat_le from x) (nat_lt x to) h in
    let a = leb-true from x parts.0 in
    let b = ltb-true x to parts.1 in
    absurd (omega (arith, a, b, le)))

pub from_zero : (x : ℕ) (b : Bool) → (nat_le 0 x && b) ≡ b
from_zero x b = ap (λ c. c && b) (le-leb 0 x (omega arith))

from_either : (at end x : ℕ) → end ≤ x → nat_le (max at end) x ≡ nat_le at x
from_either at end x le = same_truth (nat_le (max at end) x) (nat_le at x)
    (λ h. let a = leb-true (max at end) x h in le-leb at x (omega (arith, a)))
    (λ h. let a = leb-true at x h in le-leb (max at end) x (omega (arith, a, le)))

in_front : (p any : Bool) → any ≡ false → ((p && true) || false) ≡ (p && true && not (false || any))
in_front true any h = ap not (sym h)
in_front false any h = refl

inside : (p q any : Bool) → ((p && false) || false) ≡ (p && q && not (true || any))
inside true true any = refl
inside true false any = refl
inside false q any = refl

behind : (p q r any : Bool) → ((p && false) || (p && q && not any)) ≡ (p && q && not ((r && false) || any))
behind true q true any = refl
behind true q false any = refl
behind false q r any = refl

-- a run up to a subdisk, and those behind it
pub around : (at off end publen x : ℕ) (any : Bool) → off < end → end ≤ publen → (x < off → any ≡ false) →
    ((nat_le at x && nat_lt x off) || (nat_le (max at end) x && nat_lt x publen && not any)) ≡ (nat_le at x && nat_lt x publen && not ((nat_le off x && nat_lt x end) || any))
around at off end publen x any long room none = elim (cases_lt x off) [
  | inl less ↦
      rw (lt-ltb x off less, lt-leb (max at end) x (omega (arith, less, long)), lt-ltb x publen (omega (arith, less, long, room)), lt-leb off x less)
      (in_front (nat_le at x) any (none less))
  | inr from ↦ elim (cases_lt x end) [
    | inl below ↦
        rw (le-ltb x off from, lt-leb (max at end) x (omega (arith, below)), le-leb off x from, lt-ltb x end below)
        (inside (nat_le at x) (nat_lt x publen) any)
    | inr past ↦
        rw (le-ltb x off from, from_either at end x past, le-ltb x end past)
        (behind (nat_le at x) (nat_lt x publen) (nat_le off x) any)
  ]
]
