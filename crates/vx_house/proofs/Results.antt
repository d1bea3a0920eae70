-- What is said of a result by its case.
use Rattle.std.proofs.Common.{◌≡◌, Result, Ok, Err, subst}
use Rattle.std.specs.Prelude.{OnOk, OnErr}

pub on_ok : {T E : Type 0} (r : Result T E) {A B : Type 0} → (A → B) → OnOk r A → OnOk r B
on_ok (Ok x) f a = f a
on_ok (Err e) f a = tt

pub on_both : {T E : Type 0} (r : Result T E) {A B C : Type 0} → (A → B → C) → OnOk r A → OnOk r B → OnOk r C
on_both (Ok x) f a b = f a b
on_both (Err e) f a b = tt

pub on_err : {T E : Type 0} (r : Result T E) {A : Type 0} → A → OnErr r A
on_err (Ok x) a = tt
on_err (Err e) a = a

pub on_errs : {T E : Type 0} (r : Result T E) {A B C : Type 0} → (A → B → C) → OnErr r A → OnErr r B → OnErr r C
on_errs (Ok x) f a b = tt
on_errs (Err e) f a b = f a b

-- the case that it is
pub at_ok : {T E : Type 0} (r : Result T E) (x : T) {A : Type 0} → r ≡ Ok x → OnOk r A → A
at_ok r x {A = A} is a = subst (λ o. OnOk o A) is a

pub at_err : {T E : Type 0} (r : Result T E) (e : E) {A : Type 0} → r ≡ Err e → OnErr r A → A
at_err r e {A = A} is a = subst (λ o. OnErr o A) is a
