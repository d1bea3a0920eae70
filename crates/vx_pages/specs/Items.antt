-- The item at an index.
use Rattle.std.specs.Prelude.{◌≡◌, ℕ, zero, suc, ◌<◌, List, [], ◌∷◌, length}

-- the item at an index, and past the end this one
abbrev pub item_at : {A : Type 0} → A → List A → ℕ → A
item_at none [] i = none
item_at none (x ∷ xs) zero = x
item_at none (x ∷ xs) (suc i) = item_at none xs i

-- each item goes on in this way, by its index
pub record EachItem {A : Type 0} (none : A) (fact : ℕ → A → A → Type 0) (old new : List A) : Type 0 where
  pub size : length new ≡ length old
  pub each : (i : ℕ) → i < length old → fact i (item_at none old i) (item_at none new i)
