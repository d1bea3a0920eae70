-- What may become of copies that are written from the images of one of them, however far that comes.
use Rattle.std.specs.Prelude.{◌≡◌, ◌⊎◌, ℕ, ◌<◌, Bool, true, is_some, List, length, Option, None}
use Rattle.std.specs.Option.{option_map}
use Rattle.vx_sector.specs.Fields.{zeros}
use Rattle.vx_piece.specs.Seen.{Seen}
use Rattle.vx_pages.specs.Sector.{Copies, SectorSeen, held, tells}
use Rattle.vx_pages.specs.Page.{sector_at}
use Rattle.vx_pages.specs.Reading.{IsCopyOf, image_at}
use Rattle.vx_maps.specs.Loading.{images_at}
use Rattle.vx_maps.specs.Slots.{SheetsSeen, part_at, row_at, slot_at}

-- the first piece between the pages
abbrev pub head_of : List (Option Seen) → Seen
head_of slots = part_at 0 (slot_at slots 0) None

-- the first pieces of the copies
abbrev pub heads_of : SheetsSeen → Copies
heads_of sheets = record { first = head_of sheets.first; second = option_map head_of sheets.second }

-- the first sector of the first copy may have been blanked, where that was asked for
pub record MayBlank (asked : Bool) (old new : Copies) : Type 0 where
  pub first : is_some old.first.told ≡ true → (held new 0 ≡ held old 0) ⊎ ((asked ≡ true) × (held new 0 ≡ zeros 512))
  pub second : new.second ≡ old.second

-- each first sector may have been made these bytes
abbrev pub MayHold : List ℕ → Copies → Copies → Type 0
MayHold bytes old new = tells old ≡ true → (n : ℕ) → (held new n ≡ held old n) ⊎ (held new n ≡ bytes)

-- each piece of each sector of a page tells what it holds
abbrev pub GridTells : List (List SectorSeen) → Type 0
GridTells grid = (i m : ℕ) → i < length grid → m < length (row_at grid i) → tells (sector_at (row_at grid i) m).copies ≡ true

-- what a copy holds of a page's map
abbrev pub held_at : List (List SectorSeen) → ℕ → ℕ → ℕ → List ℕ
held_at grid n i m = held (sector_at (row_at grid i) m).copies n

-- The copy that was read keeps its first sector, or has the header. Where a copy has the header, each sector of its pages is what was
-- read; or it is as it was, and the copy had the header before.
pub record AreWritten (header : List ℕ) (from : ℕ) (rows : List (List (List ℕ))) (heads heads' : Copies) (grid grid' : List (List SectorSeen)) : Type 0 where
  pub stands : (held heads' from ≡ held heads from) ⊎ (held heads' from ≡ header)
  pub each : (n i m : ℕ) → IsCopyOf n heads → held heads' n ≡ header → i < length grid → m < length (row_at grid i) →
      (held_at grid' n i m ≡ image_at (images_at rows i) m) ⊎ ((held heads n ≡ header) × (held_at grid' n i m ≡ held_at grid n i m))

-- the same, where each piece tells what it holds
abbrev pub AreWrittenFrom : List ℕ → ℕ → List (List (List ℕ)) → Copies → Copies → List (List SectorSeen) → List (List SectorSeen) → Type 0
AreWrittenFrom header from rows heads heads' grid grid' = IsCopyOf from heads → tells heads ≡ true → GridTells grid → AreWritten header from rows heads heads' grid grid'
