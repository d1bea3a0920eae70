-- What it is to write the first sector of each copy.
use Rattle.std.specs.Prelude.{◌≡◌, ℕ, ◌<◌, List, length, Option, Some, None, Result}
use Rattle.vx_piece.specs.Seen.{Seen}
use Rattle.vx_marks.specs.declared.marker.MarkFault.{MarkFault}
use Rattle.vx_pages.specs.Sector.{Copies, IsPut}
use Rattle.vx_maps.specs.Slots.{HoldsSingle, MovedBoth, SheetsSeen, slot_at}

-- there is a first sector, in a piece of its own
pub record HasFirst (slots : List (Option Seen)) : Type 0 where
  pub inside : 0 < length slots
  pub single : HoldsSingle (slot_at slots 0)

abbrev pub HasFirstSecond : Option (List (Option Seen)) → Type 0
HasFirstSecond None = Unit {0}
HasFirstSecond (Some slots) = HasFirst slots

pub record HaveFirst (sheets : SheetsSeen) : Type 0 where
  pub first : HasFirst sheets.first
  pub second : HasFirstSecond sheets.second

-- the first piece of each copy leaves its place, is written, and comes back
pub record ArePut {T : Type 0} (bytes : List ℕ) (old new : SheetsSeen) (result : Result T MarkFault) : Type 0 where
  pub before : Copies
  pub after : Copies
  pub between : SheetsSeen
  pub out : MovedBoth 0 before old between
  pub put : IsPut bytes before after result
  pub back : MovedBoth 0 after new between

-- the first piece of each copy leaves its place, becomes another, and comes back
pub record AreChanged (fact : Copies → Copies → Type 0) (old new : SheetsSeen) : Type 0 where
  pub before : Copies
  pub after : Copies
  pub between : SheetsSeen
  pub out : MovedBoth 0 before old between
  pub change : fact before after
  pub back : MovedBoth 0 after new between

-- the first sector is written on the first copy alone
abbrev pub IsPutFirst : {T : Type 0} → List ℕ → Copies → Copies → Result T MarkFault → Type 0
IsPutFirst bytes before after result = IsPut bytes (record { first = before.first; second = None }) (record { first = after.first; second = None }) result × (after.second ≡ before.second)
