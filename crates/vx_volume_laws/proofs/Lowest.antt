-- The lowest of a list, by a number.
use Rattle.std.proofs.Common.{◌≡◌, inl, inr, ℕ, ◌≤◌, Bool, true, List, [], ◌∷◌, refl, arith}
use Rattle.std.specs.Prelude.{nat_le}
use Rattle.std.specs.List.{list_all}
use Rattle.std.proofs.lemmas.Bool.{and_parts, and_from, cases_lt, le-leb, leb-true}
use Rattle.vx_image.proofs.PlexMembers.{IsIn}

module _ {A : Type 0} (key : A → ℕ) where
  abbrev pub lowest : List A → A → Bool
  lowest xs x = list_all (λ (y : A). nat_le (key x) (key y)) xs

  lower : (xs : List A) (a b : ℕ) → a ≤ b → list_all (λ (y : A). nat_le b (key y)) xs ≡ true → list_all (λ (y : A). nat_le a (key y)) xs ≡ true
  lower [] a b le h = refl
  lower (x ∷ xs) a b le h =
      let w = and_parts (nat_le b (key x)) (list_all (λ (y : A). nat_le b (key y)) xs) h in
      let first = leb-true b (key x) w.0 in
      and_from _ _ (le-leb a (key x) (omega (arith, le, first))) (lower xs a b le w.1)

  -- one of some is the lowest
  pub has_lowest : (xs : List A) (x : A) → IsIn xs x → (y : A) × IsIn xs y × (lowest xs y ≡ true)
  has_lowest [] x there = absurd there
  has_lowest (x ∷ []) z there = (x, inl refl, and_from _ _ (le-leb (key x) (key x) (omega arith)) refl)
  has_lowest (x ∷ w ∷ xs) z there =
      let rest = has_lowest (w ∷ xs) w (inl refl) in
      elim (cases_lt (key rest.0) (key x)) [
        | inl less ↦ (rest.0, inr rest.1, and_from _ _ (le-leb (key rest.0) (key x) (omega (arith, less))) rest.2)
        | inr more ↦ (x, inl refl, and_from _ _ (le-leb (key x) (key x) (omega arith)) (lower (w ∷ xs) (key x) (key rest.0) more rest.2))
      ]
