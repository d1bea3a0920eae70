-- A log on two copies gives up one of them.
use Rattle.std.specs.Prelude.{◌≡◌, ℕ, zero, suc, ◌-◌, IsTrue, List, [], map, Option, Some, None}
use Rattle.vx_mask.specs.Marks.{Marks}
use Rattle.vx_piece.specs.Seen.{Seen}
use Rattle.vx_marks.specs.Log.{LogSeen, OnMarks}
use Rattle.vx_pages.specs.Parting.{only_sectors}
use Rattle.vx_pages.specs.Sector.{SectorSeen}
use Rattle.vx_maps.specs.Slots.{SheetsSeen}

-- ---- what is left of a store

-- the slots of a copy; past the last copy there are none
abbrev pub slots_or_none : Option (List (Option Seen)) → List (Option Seen)
slots_or_none None = []
slots_or_none (Some slots) = slots

abbrev pub slots_on : SheetsSeen → ℕ → List (Option Seen)
slots_on sheets zero = sheets.first
slots_on sheets (suc n) = slots_or_none sheets.second

-- pages on this copy alone
abbrev pub only_grid : ℕ → List (List SectorSeen) → List (List SectorSeen)
only_grid n grid = map (only_sectors n) grid

-- ---- the log

-- the marks of a region as the one copy shows them, on whichever copy; what is loose is as it was
pub record AreOnly (kept : ℕ) (old new : Marks) : Type 0 where
  pub shows : (n k : ℕ) → new.shows n k ≡ old.shows kept k
  pub loose : (k : ℕ) → new.loose k ≡ old.loose k

-- A log of two copies has given up one: it has the other as its only one, with all that is claimed and loose. What that copy has counted
-- and shows is as it was.
pub record GivesUp (copy : ℕ) (old new : LogSeen) : Type 0 where
  pub there : new.there ≡ old.there
  pub has_region : new.has_region ≡ old.has_region
  pub maps : new.maps ≡ old.maps
  pub lent : new.lent ≡ old.lent
  pub two : old.copies ≡ 2
  pub copies : new.copies ≡ 1
  pub claims : (region k : ℕ) → new.claims region k ≡ old.claims region k
  pub told : OnMarks (λ was is. (region : ℕ) → AreOnly (1 - copy) (was region) (is region)) old.told new.told
  pub faults : (device : ℕ) → new.faults 0 device ≡ old.faults (1 - copy) device
  pub gone : (n device : ℕ) → new.faults (suc n) device ≡ 0
  pub cut : IsTrue new.cut → IsTrue old.cut
