-- Facts of tests, as the laws of masks and marks use them.
use Rattle.std.proofs.Common.{◌≡◌, ◌⊎◌, inl, inr, Bool, true, false, refl}
use Rattle.std.specs.Prelude.{◌&&◌, ◌||◌, not}

pub not_both : {A : Type 0} {b : Bool} → b ≡ true → b ≡ false → A
not_both p q = cc

pub true_or_false : (b : Bool) → (b ≡ true) ⊎ (b ≡ false)
true_or_false true = inl refl
true_or_false false = inr refl

pub or_from_right : (x y : Bool) → y ≡ true → (x || y) ≡ true
or_from_right true y h = refl
or_from_right false y h = h

pub or_from_left : (x y : Bool) → x ≡ true → (x || y) ≡ true
or_from_left x y h = rw h refl

pub or_cases : (x y : Bool) → (x || y) ≡ true → (x ≡ true) ⊎ (y ≡ true)
or_cases true y h = inl refl
or_cases false y h = inr h

pub or_neither : (x y : Bool) → (x || y) ≡ false → (x ≡ false) × (y ≡ false)
or_neither true y h = cc
or_neither false y h = (refl, h)

pub or_none : (x y : Bool) → x ≡ false → y ≡ false → (x || y) ≡ false
or_none x y p q = rw (p, q) refl

pub and_not : (x y : Bool) → x ≡ true → y ≡ false → (x && not y) ≡ true
and_not x y p q = rw (p, q) refl

pub and_not_parts : (x y : Bool) → (x && not y) ≡ true → (x ≡ true) × (y ≡ false)
and_not_parts true true h = cc
and_not_parts true false h = (refl, refl)
and_not_parts false y h = cc

pub and_not_out : (x y : Bool) → (x && not y) ≡ false → x ≡ true → y ≡ true
and_not_out true true h p = refl
and_not_out true false h p = cc
and_not_out false y h p = cc

pub both_parts : (x y : Bool) → (x && y) ≡ true → (x ≡ true) × (y ≡ true)
both_parts true true h = (refl, refl)
both_parts true false h = cc
both_parts false y h = cc

pub and_none : (x : Bool) → (x && false) ≡ false
and_none true = refl
and_none false = refl

pub right_false : (x y : Bool) → (x && y) ≡ false → x ≡ true → y ≡ false
right_false true true h p = cc
right_false true false h p = refl
right_false false y h p = cc

-- the second is never true where the first is, so the first is false where the second is true
pub never_true : (b c : Bool) → (b ≡ true → c ≡ false) → c ≡ true → b ≡ false
never_true true c h there = not_both there (h refl)
never_true false c h there = refl

pub not_before : (b c : Bool) → (b ≡ true → c ≡ true) → c ≡ false → b ≡ false
not_before true c h out = not_both (h refl) out
not_before false c h out = refl
