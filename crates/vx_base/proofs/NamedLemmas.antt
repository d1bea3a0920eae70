-- What stands under a name, and under the others, once one thing is put.
use Rattle.std.proofs.Common.{◌≡◌, ◌⊎◌, Bool, true, false, cond, Option, refl, inl, inr}
use Rattle.std.specs.Str.{bytes_eq}
use Rattle.std.proofs.lemmas.Slice.Eq.{bytes_eq-Decides}
use Rattle.std.proofs.lemmas.Bool.{cond-true, cond-false}
use Rattle.vx_base.specs.Named.{Word, put}

pub bytes_eq_self : (name : Word) → bytes_eq name name ≡ true
bytes_eq_self name = (bytes_eq-Decides name name).1 refl

pub bytes_eq_same : (name other : Word) → bytes_eq name other ≡ true → name ≡ other
bytes_eq_same name other e = (bytes_eq-Decides name other).0 e

pub put_same : {X : Type 0} (name : Word) (thing : Option X) (old : Word → Option X) → put name thing old name ≡ thing
put_same name thing old = cond-true _ _ _ (bytes_eq_self name)

pub put_other : {X : Type 0} (name other : Word) (thing : Option X) (old : Word → Option X) → bytes_eq name other ≡ false → put name thing old other ≡ old other
put_other name other thing old e = cond-false _ _ _ e

-- what is put last counts
pub put_put : {X : Type 0} (name other : Word) (first last : Option X) (old : Word → Option X) → put name last (put name first old) other ≡ put name last old other
put_put {X = X} name other first last old = by_test (bytes_eq name other)
  where
    by_test : (b : Bool) → cond b last (cond b first (old other)) ≡ cond b last (old other)
    by_test true = refl
    by_test false = refl

pub true_or_false : (b : Bool) → (b ≡ true) ⊎ (b ≡ false)
true_or_false true = inl refl
true_or_false false = inr refl

-- two names are the same, or differ
pub name_cases : (name other : Word) → (name ≡ other) ⊎ (bytes_eq name other ≡ false)
name_cases name other = elim (true_or_false (bytes_eq name other)) [ inl t ↦ inl (bytes_eq_same name other t) | inr f ↦ inr f ]
