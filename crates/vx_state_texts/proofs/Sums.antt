-- Sums over lists, one of which is nowhere above the other.
use Rattle.std.proofs.Common.{◌≡◌, ℕ, ◌≤◌, true, List, [], ◌∷◌, ◌++◌, map, refl, ap, arith}
use Rattle.std.specs.List.{AllZip, filter, sum_by}
use Rattle.std.proofs.lemmas.List.Sums.{sum_by-append, sum_by-cons}

-- where each element passes, all are left
pub all_pass : {X : Type 0} (xs : List X) → filter (λ x. true) xs ≡ xs
all_pass [] = refl
all_pass (x ∷ xs) = ap (λ ys. x ∷ ys) (all_pass xs)

module _ {X : Type 0} (f : X → ℕ) where
  pub sum_mapped : {A : Type 0} (h : A → X) (xs : List A) → sum_by f (map h xs) ≡ sum_by (λ a. f (h a)) xs
  sum_mapped h [] = refl
  sum_mapped h (x ∷ xs) = cc (sum_by-cons f (h x) (map h xs), sum_by-cons (λ a. f (h a)) x xs, sum_mapped h xs)

  -- the one list is nowhere above the other
  pub sum_below : (xs ys : List X) → AllZip (λ x y. f x ≤ f y) xs ys → sum_by f xs ≤ sum_by f ys
  sum_below [] [] all = omega arith
  sum_below [] (y ∷ ys) all = elim all [ ]
  sum_below (x ∷ xs) [] all = elim all [ ]
  sum_below (x ∷ xs) (y ∷ ys) all = omega (arith, all.0, sum_below xs ys all.1, sum_by-cons f x xs, sum_by-cons f y ys)

  -- .. and so it is behind others, and before them
  pub sum_behind : (zs xs ys : List X) → sum_by f xs ≤ sum_by f ys → sum_by f (zs ++ xs) ≤ sum_by f (zs ++ ys)
  sum_behind zs xs ys le = omega (arith, le, sum_by-append f zs xs, sum_by-append f zs ys)

  pub sum_before : (zs xs ys : List X) → sum_by f xs ≤ sum_by f ys → sum_by f (xs ++ zs) ≤ sum_by f (ys ++ zs)
  sum_before zs xs ys le = omega (arith, le, sum_by-append f xs zs, sum_by-append f ys zs)
