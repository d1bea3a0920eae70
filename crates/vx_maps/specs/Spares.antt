-- The memory to put copies together again.
use Rattle.std.specs.Prelude.{◌≡◌, ◌≤◌, List, [], length, map, vec_capacity, Option, Some, None}
use Rattle.std.specs.Global.{Vec}
use Rattle.vx_piece.specs.Seen.{Seen}
use Rattle.vx_maps.specs.Slots.{SheetsSeen}
use Rattle.vx_maps.specs.declared.joining.Spares.{Spares}

-- what is seen of copies
abbrev pub copies_seen : {P : Type 0} → (P → Seen) → List (Vec P) → List (List Seen)
copies_seen seen copies = map (λ x. map seen x.items) copies

abbrev pub HasRoomOn : {P : Type 0} {A : Type 0} → List A → Vec P → Type 0
HasRoomOn slots spare = (spare.items ≡ []) × (length slots ≤ vec_capacity spare)

abbrev pub HasRoomSecond : {P : Type 0} {A : Type 0} → Option (List A) → Option (Vec P) → Type 0
HasRoomSecond None None = Unit {0}
HasRoomSecond (Some slots) (Some spare) = HasRoomOn slots spare
HasRoomSecond _ _ = ⊥

-- there is room for the pieces of each copy, and for the copies
pub record HasRoom {P : Type 0} (sheets : SheetsSeen) (spares : Spares P) : Type 0 where
  pub first : HasRoomOn sheets.first spares.first
  pub second : HasRoomSecond sheets.second spares.second
  pub empty : spares.shell.items ≡ []
  pub shell : 2 ≤ vec_capacity spares.shell
