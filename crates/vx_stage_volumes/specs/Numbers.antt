-- The numbers of a group's devices, by the slots of their disks.
use Rattle.std.specs.Prelude.{◌≡◌, ◌⊎◌, ◌<◌, ◌==◌, ℕ, Bool, false, if◌then◌else◌, Option, Some, None, List, [], ◌∷◌, length, slice_index}
use Rattle.std.specs.List.{list_any}
use Rattle.vx_piece.specs.Seen.{Seen}
use Rattle.vx_copies.specs.declared.disk.Disk.{Disk}
use Rattle.vx_carve.specs.Carved.{HaveNumbers}

-- the number of the device that the disk of the slot is on, the first of them
abbrev pub number_at : {P : Type 0} → (P → Seen) → List (Disk P) → ℕ → Option ℕ
number_at see [] slot = None
number_at see (d ∷ ds) slot = if d.slot == slot then Some (see d.piece).device else number_at see ds slot

-- some disk is on the device of this number
abbrev pub is_taken : {P : Type 0} → (P → Seen) → List (Disk P) → ℕ → Bool
is_taken see ds number = list_any (λ d. (see d.piece).device == number) ds

-- the devices of two slots have two numbers
abbrev pub HaveOwnNumbers : {P : Type 0} → (P → Seen) → List (Disk P) → Type 0
HaveOwnNumbers see ds = (slot other number : ℕ) → number_at see ds slot ≡ Some number → number_at see ds other ≡ Some number → slot ≡ other

-- a slot without a disk has a number below this one, which the device of no disk has
pub record IsSpare {P : Type 0} (see : P → Seen) (ds : List (Disk P)) (next slot number : ℕ) : Type 0 where
  pub bare : number_at see ds slot ≡ None
  pub unused : is_taken see ds number ≡ false
  pub low : number < next

-- Of the first so many slots each has the number of its disk's device, or a spare one, and no two have the same.
pub record AreNumbersOf {P : Type 0} (see : P → Seen) (ds : List (Disk P)) (count next : ℕ) (numbers : List ℕ) : Type 0 where
  pub long : length numbers ≡ count
  pub each : (slot : ℕ) → slot < count → (number_at see ds slot ≡ Some (slice_index numbers slot)) ⊎ IsSpare see ds next slot (slice_index numbers slot)
  pub own : HaveNumbers numbers
