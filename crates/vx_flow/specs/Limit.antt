-- A number of bytes past which nothing goes.
use Rattle.std.specs.Prelude.{ℕ, ◌≤◌, Option, Some, None}

-- so many bytes have passed
abbrev pub IsPast : Option ℕ → ℕ → Type 0
IsPast None passed = ⊥
IsPast (Some limit) passed = limit ≤ passed

-- what begins below the limit ends there at the latest
abbrev pub StaysBelow : Option ℕ → ℕ → ℕ → Type 0
StaysBelow None before now = Unit {0}
StaysBelow (Some limit) before now = before ≤ limit → now ≤ limit
