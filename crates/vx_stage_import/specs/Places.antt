-- Places in the order of slots.
use Rattle.std.specs.Prelude.{◌≡◌, ℕ, ◌<◌, ◌≤◌, List, [], ◌∷◌, length, map, take, drop, Option, Some, None}
use Rattle.vx_copies.specs.Lists.{AllOf, AnyOf}
use Rattle.vx_import.specs.declared.device.GroupDevice.{GroupDevice}

-- the slots of the devices
abbrev pub slots_of : {P : Type 0} → List (GroupDevice P) → List ℕ
slots_of fs = map (λ f. f.header.slot) fs

-- they rise
abbrev pub ArePlaced : List ℕ → Type 0
ArePlaced [] = Unit {0}
ArePlaced (n ∷ ns) = AllOf (λ m. n < m) ns × ArePlaced ns

-- the slots before the place are lower, and those from it on higher
pub record IsPlace (place slot : ℕ) (slots : List ℕ) : Type 0 where
  pub within : place ≤ length slots
  pub lower : AllOf (λ n. n < slot) (take place slots)
  pub higher : AllOf (λ n. slot < n) (drop place slots)

-- the place of a slot; none where the slot is there
abbrev pub PlaceIs : Option ℕ → ℕ → List ℕ → Type 0
PlaceIs None slot slots = AnyOf (λ n. n ≡ slot) slots
PlaceIs (Some place) slot slots = IsPlace place slot slots
