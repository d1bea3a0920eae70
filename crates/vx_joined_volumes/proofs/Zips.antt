-- Lists whose elements go together, and what is filtered of them.
use Rattle.std.proofs.Common.{◌≡◌, inl, inr, Bool, true, false, cond, List, [], ◌∷◌, map, refl, ◌∙◌, ap}
use Rattle.std.specs.Prelude.{◌&&◌}
use Rattle.std.specs.List.{AllZip, filter}
use Rattle.vx_image.proofs.PlexMembers.{IsIn}

-- what is so of members that go together
pub zip_more : {A B : Type 0} (R S : A → B → Type 0) (xs : List A) (ys : List B) → AllZip R xs ys → ((x : A) (y : B) → IsIn xs x → IsIn ys y → R x y → S x y) → AllZip S xs ys
zip_more R S [] [] h each = tt
zip_more R S [] (y ∷ ys) h each = absurd h
zip_more R S (x ∷ xs) [] h each = absurd h
zip_more R S (x ∷ xs) (y ∷ ys) h each = (each x y (inl refl) (inl refl) h.0, zip_more R S xs ys h.1 (λ z w here there. each z w (inr here) (inr there)))

-- two lists that go with a third go together
pub zip_turn : {A B C : Type 0} (R : A → B → Type 0) (S : A → C → Type 0) (T : B → C → Type 0) → ((x : A) (y : B) (z : C) → R x y → S x z → T y z) → (xs : List A) (ys : List B) (zs : List C) → AllZip R xs ys → AllZip S xs zs → AllZip T ys zs
zip_turn R S T each [] [] [] a b = tt
zip_turn R S T each [] [] (z ∷ zs) a b = absurd b
zip_turn R S T each [] (y ∷ ys) zs a b = absurd a
zip_turn R S T each (x ∷ xs) [] zs a b = absurd a
zip_turn R S T each (x ∷ xs) (y ∷ ys) [] a b = absurd b
zip_turn R S T each (x ∷ xs) (y ∷ ys) (z ∷ zs) a b = (each x y z a.0 b.0, zip_turn R S T each xs ys zs a.1 b.1)

-- .. and have the same, where those that go together have the same
pub zip_map : {A B C : Type 0} (R : A → B → Type 0) (f : A → C) (g : B → C) → ((x : A) (y : B) → R x y → g y ≡ f x) → (xs : List A) (ys : List B) → AllZip R xs ys → map g ys ≡ map f xs
zip_map R f g same [] [] h = refl
zip_map R f g same [] (y ∷ ys) h = absurd h
zip_map R f g same (x ∷ xs) [] h = absurd h
zip_map R f g same (x ∷ xs) (y ∷ ys) h = let first = same x y h.0 in let rest = zip_map R f g same xs ys h.1 in λ i. first i ∷ rest i

-- what passes two tests, one after the other
pub filter_twice : {A : Type 0} (t u : A → Bool) (xs : List A) → filter u (filter t xs) ≡ filter (λ x. t x && u x) xs
filter_twice t u [] = refl
filter_twice t u (x ∷ xs) = by (t x) (filter_twice t u xs)
  where
    by : (b : Bool) → filter u (filter t xs) ≡ filter (λ x. t x && u x) xs → filter u (cond b (x ∷ filter t xs) (filter t xs)) ≡ cond (b && u x) (x ∷ filter (λ x. t x && u x) xs) (filter (λ x. t x && u x) xs)
    by true e = ap (λ ys. cond (u x) (x ∷ ys) ys) e
    by false e = e

-- what passes after a change is what passed before, changed
pub filter_maps : {A : Type 0} (t u : A → Bool) (f : A → A) (xs : List A) → ((x : A) → IsIn xs x → u (f x) ≡ t x) → filter u (map f xs) ≡ map f (filter t xs)
filter_maps t u f [] same = refl
filter_maps t u f (x ∷ xs) same =
    ap (λ b. cond b (f x ∷ filter u (map f xs)) (filter u (map f xs))) (same x (inl refl))
    ∙ ap (λ ys. cond (t x) (f x ∷ ys) ys) (filter_maps t u f xs (λ y there. same y (inr there)))
    ∙ by (t x)
  where
    by : (b : Bool) → cond b (f x ∷ map f (filter t xs)) (map f (filter t xs)) ≡ map f (cond b (x ∷ filter t xs) (filter t xs))
    by true = refl
    by false = refl

-- what a list goes with goes with it changed
pub zip_changed : {A B : Type 0} (R S : A → B → Type 0) (f : A → A) (xs : List A) (ys : List B) → AllZip R xs ys → ((x : A) (y : B) → IsIn xs x → R x y → S (f x) y) → AllZip S (map f xs) ys
zip_changed R S f [] [] h each = tt
zip_changed R S f [] (y ∷ ys) h each = absurd h
zip_changed R S f (x ∷ xs) [] h each = absurd h
zip_changed R S f (x ∷ xs) (y ∷ ys) h each = (each x y (inl refl) h.0, zip_changed R S f xs ys h.1 (λ z w there. each z w (inr there)))

-- what a change leaves as it was
pub map_changed : {A B : Type 0} (f : A → A) (g : A → B) (xs : List A) → ((x : A) → IsIn xs x → g (f x) ≡ g x) → map g (map f xs) ≡ map g xs
map_changed f g [] same = refl
map_changed f g (x ∷ xs) same = let first = same x (inl refl) in let rest = map_changed f g xs (λ y there. same y (inr there)) in λ i. first i ∷ rest i
