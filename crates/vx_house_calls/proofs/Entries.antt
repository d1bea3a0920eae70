-- One entry of a list has another value: what stands before it and behind it, and what holds of the members of lists.
use Rattle.std.proofs.Common.{◌≡◌, ◌∙◌, Bool, true, false, cond, inl, inr, List, [], ◌∷◌, ◌++◌, map, Some, refl, ap, subst, append_assoc}
use Rattle.std.specs.List.{flat_map}
use Rattle.std.specs.Map.{lookup, set_value}
use Rattle.std.proofs.lemmas.Grind.{flat_map-append}
use Rattle.vx_base.specs.Named.{Word}
use Rattle.vx_image.proofs.PlexMembers.{IsIn, in_left, in_right}
use Rattle.vx_copies.specs.Lists.{AllOf, AnyOf, Each}

-- the entry of a key that was found, once it has another value
pub record IsSetAt {X : Type 0} (es es' : List (Word × X)) (old new : X) : Type 0 where
  pub key : Word
  pub before : List (Word × X)
  pub behind : List (Word × X)
  pub was : es ≡ before ++ (key, old) ∷ behind
  pub is : es' ≡ before ++ (key, new) ∷ behind

module _ {X : Type 0} (test : Word → Bool) (old new : X) where
  set_by : (b : Bool) (e : Word × X) (es : List (Word × X)) → (lookup test es ≡ Some old → IsSetAt es (set_value test es new) old new) →
      cond b (Some e.1) (lookup test es) ≡ Some old → IsSetAt (e ∷ es) (cond b ((e.0, new) ∷ es) (e ∷ set_value test es new)) old new
  set_by true e es more found = let same : e.1 ≡ old = cc in record { key = e.0; before = []; behind = es; was = ap (λ (x : X). (e.0, x) ∷ es) same; is = refl }
  set_by false e es more found = let m = more found in record { key = m.key; before = e ∷ m.before; behind = m.behind; was = ap (λ xs. e ∷ xs) m.was; is = ap (λ xs. e ∷ xs) m.is }

  pub set_at : (es : List (Word × X)) → lookup test es ≡ Some old → IsSetAt es (set_value test es new) old new
  set_at [] found = cc
  set_at (e ∷ es) found = set_by (test e.0) e es (set_at es) found

-- what the entries have, about the one
pub flat_around : {X A : Type 0} (f : X → List A) (xs : List X) (x : X) (ys : List X) (rest : List A) →
    flat_map f (xs ++ x ∷ ys) ++ rest ≡ flat_map f xs ++ (f x ++ (flat_map f ys ++ rest))
flat_around f xs x ys rest =
    ap (λ zs. zs ++ rest) (flat_map-append f xs (x ∷ ys))
    ∙ append_assoc (flat_map f xs) (f x ++ flat_map f ys) rest
    ∙ ap (λ zs. flat_map f xs ++ zs) (append_assoc (f x) (flat_map f ys) rest)

-- what one of them has is among what all have
pub in_flat : {X A : Type 0} (f : X → List A) (xs : List X) (x : X) (a : A) → IsIn xs x → IsIn (f x) a → IsIn (flat_map f xs) a
in_flat f [] x a there is = absurd there
in_flat f (y ∷ ys) x a (inl same) is = in_left (f y) (flat_map f ys) a (subst (λ z. IsIn (f z) a) same is)
in_flat f (y ∷ ys) x a (inr there) is = in_right (f y) (flat_map f ys) a (in_flat f ys x a there is)

-- what holds of all holds of one of them
pub all_at_one : {X : Type 0} (Q : X → Type 0) (xs : List X) (x : X) → AllOf Q xs → AnyOf (λ y. y ≡ x) xs → Q x
all_at_one Q [] x all any = absurd any
all_at_one Q (y ∷ ys) x all (inl e) = subst Q e all.0
all_at_one Q (y ∷ ys) x all (inr any) = all_at_one Q ys x all.1 any

-- what becomes of each member of a list in two ways
pub each_of : {X Y : Type 0} (R : Y → Y → Type 0) (f g : X → Y) → ((x : X) → R (f x) (g x)) → (xs : List X) → Each R (map f xs) (map g xs)
each_of R f g step [] = tt
each_of R f g step (x ∷ xs) = (step x, each_of R f g step xs)

-- what holds of the first ones holds of the second ones
pub all_on : {X : Type 0} (R : X → X → Type 0) (P Q : X → Type 0) → ((a b : X) → R a b → P a → Q b) → (xs ys : List X) → Each R xs ys → AllOf P xs → AllOf Q ys
all_on R P Q f [] [] each all = tt
all_on R P Q f [] (y ∷ ys) each all = absurd each
all_on R P Q f (x ∷ xs) [] each all = absurd each
all_on R P Q f (x ∷ xs) (y ∷ ys) each all = (f x y each.0 all.0, all_on R P Q f xs ys each.1 all.1)

-- what becomes of one of them
pub each_at : {X Y : Type 0} (R : Y → Y → Type 0) (f g : X → Y) (xs : List X) (x : X) → Each R (map f xs) (map g xs) → AnyOf (λ y. y ≡ x) xs → R (f x) (g x)
each_at R f g [] x each any = absurd any
each_at R f g (y ∷ ys) x each (inl e) = subst (λ z. R (f z) (g z)) e each.0
each_at R f g (y ∷ ys) x each (inr any) = each_at R f g ys x each.1 any
