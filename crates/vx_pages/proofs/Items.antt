-- What is seen of the items of a list of which one is put in another's place.
use Rattle.std.proofs.Common.{◌≡◌, ◌≢◌, ℕ, zero, suc, ◌<◌, refl, ap, arith, List, [], ◌∷◌, length, map, get_or, set}
use Rattle.vx_pages.specs.Items.{item_at}

module _ {T A : Type 0} (none : A) (see : T → A) where
  pub at_is : (xs : List T) (i : ℕ) (d : T) → i < length xs → item_at none (map see xs) i ≡ see (get_or xs i d)
  at_is [] i d lt = absurd (omega arith)
  at_is (x ∷ xs) zero d lt = refl
  at_is (x ∷ xs) (suc i) d lt = at_is xs i d (omega arith)

  pub at_set : (xs : List T) (i : ℕ) (q : T) → i < length xs → item_at none (map see (set xs i q)) i ≡ see q
  at_set [] i q lt = absurd (omega arith)
  at_set (x ∷ xs) zero q lt = refl
  at_set (x ∷ xs) (suc i) q lt = at_set xs i q (omega arith)

  pub at_other : (xs : List T) (i j : ℕ) (q : T) → j ≢ i → item_at none (map see (set xs i q)) j ≡ item_at none (map see xs) j
  at_other [] i j q apart = refl
  at_other (x ∷ xs) zero zero q apart = absurd (apart refl)
  at_other (x ∷ xs) zero (suc j) q apart = refl
  at_other (x ∷ xs) (suc i) zero q apart = refl
  at_other (x ∷ xs) (suc i) (suc j) q apart = at_other xs i j q (λ e. apart (ap (λ (n : ℕ). suc n) e))

  pub set_size : (xs : List T) (i : ℕ) (q : T) → length (map see (set xs i q)) ≡ length (map see xs)
  set_size [] i q = refl
  set_size (x ∷ xs) zero q = refl
  set_size (x ∷ xs) (suc i) q = ap (λ (n : ℕ). suc n) (set_size xs i q)
