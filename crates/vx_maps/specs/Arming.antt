-- What it is to set when a power switch is to act on the pieces of a store.
use Rattle.std.specs.Prelude.{◌≡◌, ℕ, List, map, Option}
use Rattle.std.specs.Option.{option_map}
use Rattle.vx_mask.specs.Marks.{Marks}
use Rattle.vx_pages.specs.Arming.{armed, armed_sectors}
use Rattle.vx_pages.specs.Sector.{SectorSeen}
use Rattle.vx_maps.specs.Slots.{SheetsSeen}

abbrev pub armed_sheets : Option ℕ → SheetsSeen → SheetsSeen
armed_sheets stop sheets = record { first = map (option_map (armed stop)) sheets.first; second = option_map (map (option_map (armed stop))) sheets.second }

abbrev pub armed_grid : Option ℕ → List (List SectorSeen) → List (List SectorSeen)
armed_grid stop grid = map (armed_sectors stop) grid

-- the marks of each region are as they were
abbrev pub SameMarks : (ℕ → Marks) → (ℕ → Marks) → Type 0
SameMarks old new = (region : ℕ) → ((n map : ℕ) → (new region).shows n map ≡ (old region).shows n map) × ((map : ℕ) → (new region).loose map ≡ (old region).loose map)
