-- Two lists whose elements go together, place by place.
use Rattle.std.proofs.Common.{◌≡◌, ℕ, zero, suc, ◌<◌, List, [], ◌∷◌, ◌++◌, length, refl, ap, arith, inl, inr}
use Rattle.std.specs.Prelude.{slice_index_or}
use Rattle.std.specs.List.{All, AllZip}
use Rattle.std.proofs.lemmas.List.Elements.{All-nil, All-cons}
use Rattle.vx_image.proofs.PlexMembers.{IsIn}

pub zip_length : {A B : Type 0} (R : A → B → Type 0) (xs : List A) (ys : List B) → AllZip R xs ys → length ys ≡ length xs
zip_length R [] [] h = refl
zip_length R [] (y ∷ ys) h = absurd h
zip_length R (x ∷ xs) [] h = absurd h
zip_length R (x ∷ xs) (y ∷ ys) h = ap (λ (n : ℕ). suc n) (zip_length R xs ys h.1)

pub zip_at : {A B : Type 0} (R : A → B → Type 0) (xs : List A) (ys : List B) → AllZip R xs ys → (k : ℕ) (d : A) (e : B) → k < length ys → R (slice_index_or xs k d) (slice_index_or ys k e)
zip_at R [] [] h k d e lt = absurd (omega (arith, lt))
zip_at R [] (y ∷ ys) h k d e lt = absurd h
zip_at R (x ∷ xs) [] h k d e lt = absurd h
zip_at R (x ∷ xs) (y ∷ ys) h zero d e lt = h.0
zip_at R (x ∷ xs) (y ∷ ys) h (suc k) d e lt = zip_at R xs ys h.1 k d e (omega (arith, lt))

-- what is known of what goes with each of the first is known of the second
pub zip_all : {A B : Type 0} (R : A → B → Type 0) (P : B → Type 0) (xs : List A) (ys : List B) → AllZip R xs ys → ((x : A) (y : B) → IsIn xs x → R x y → P y) → All P ys
zip_all R P [] [] h each = All-nil P
zip_all R P [] (y ∷ ys) h each = absurd h
zip_all R P (x ∷ xs) [] h each = absurd h
zip_all R P (x ∷ xs) (y ∷ ys) h each = All-cons P y ys (each x y (inl refl) h.0) (zip_all R P xs ys h.1 (λ z w one r. each z w (inr one) r))

pub zip_append : {A B : Type 0} (R : A → B → Type 0) (xs xs' : List A) (ys ys' : List B) → AllZip R xs ys → AllZip R xs' ys' → AllZip R (xs ++ xs') (ys ++ ys')
zip_append R [] xs' [] ys' h k = k
zip_append R [] xs' (y ∷ ys) ys' h k = absurd h
zip_append R (x ∷ xs) xs' [] ys' h k = absurd h
zip_append R (x ∷ xs) xs' (y ∷ ys) ys' h k = (h.0, zip_append R xs xs' ys ys' h.1 k)

pub zip_push : {A B : Type 0} (R : A → B → Type 0) (xs : List A) (ys : List B) (x : A) (y : B) → AllZip R xs ys → R x y → AllZip R (xs ++ x ∷ []) (ys ++ y ∷ [])
zip_push R xs ys x y h r = zip_append R xs (x ∷ []) ys (y ∷ []) h (r, tt)
