-- The sectors of a page, one for each map, and what they show as a log of marks.
use Rattle.std.specs.Prelude.{◌≡◌, ◌⊎◌, ℕ, ◌+◌, ◌/◌, ◌<◌, ◌==◌, ◌&&◌, ◌||◌, nat_lt, Bool, true, false, is_some, if◌then◌else◌, List, [], ◌∷◌, length, map, Some, None, Result, Ok, Err}
use Rattle.vx_mask.specs.Mask.{has}
use Rattle.vx_mask.specs.Marks.{Marks}
use Rattle.vx_piece.specs.Seen.{Seen}
use Rattle.vx_pages.specs.declared.local_piece.LocalPiece.{Ghosts}
use Rattle.vx_marks.specs.Log.{LogSeen}
use Rattle.vx_pages.specs.declared.sector.MapSector.{MapSector}
use Rattle.vx_pages.specs.Bytes.{same_place}
use Rattle.vx_pages.specs.Items.{item_at, EachItem}
use Rattle.vx_marks.specs.declared.marker.MarkFault.{MarkFault}
use Rattle.vx_pages.specs.Sector.{SectorSeen, shown, tells, faults_at, is_cut, is_sure, is_loose, Goes, NoneLoose, Swept, SameBits, MaySweep, BitPut, ShownPut, BitOpened, ShownMay, BitSet, ShownSet, BitLeft, ShownLeft}
use Rattle.vx_pages.specs.Sectors.{sector_seen}

abbrev pub sectors_seen : {P : Type 0} {ghosts : Ghosts P} → (P → Seen) → List (MapSector P ghosts) → List SectorSeen
sectors_seen seen sectors = map (sector_seen seen) sectors

-- no sector
abbrev pub no_sector : SectorSeen
no_sector = record {
  copies = record {
    first = record { device = 0; start = 0; sectors = 0; told = None; faults = 0; writes = 0; reads = 0; cut = false; stop = None };
    second = None;
  };
  sure = [];
  loose = [];
}

-- the sector of a map
abbrev pub sector_at : List SectorSeen → ℕ → SectorSeen
sector_at sectors map = item_at no_sector sectors map

-- how often calls on a copy's pieces have failed, by the device
abbrev pub faults_in : List SectorSeen → ℕ → ℕ → ℕ
faults_in [] copy device = 0
faults_in (s ∷ ss) copy device = faults_at s.copies copy device + faults_in ss copy device

-- the power of some piece is gone
abbrev pub cut_in : List SectorSeen → Bool
cut_in [] = false
cut_in (s ∷ ss) = is_cut s.copies || cut_in ss

-- each piece tells what it holds
abbrev pub all_tell : List SectorSeen → Bool
all_tell [] = true
all_tell (s ∷ ss) = tells s.copies && all_tell ss

-- each sector goes on in this way, by its map
abbrev pub EachSector : (ℕ → SectorSeen → SectorSeen → Type 0) → List SectorSeen → List SectorSeen → Type 0
EachSector fact old new = EachItem no_sector fact old new

-- nothing is loose in any sector
abbrev pub AreClean : List SectorSeen → Type 0
AreClean sectors = (map region : ℕ) → map < length sectors → is_loose (sector_at sectors map) region ≡ false

-- the bit at the region's place is asked for, where the map is in the mask
abbrev pub asked : ℕ → ℕ → ℕ → ℕ → Bool
asked bits region map other = has bits map && same_place region other

-- the region is one of the page's, and of the volume's
abbrev pub has_region : ℕ → ℕ → ℕ → Bool
has_region index regions region = (region / 4096 == index) && nat_lt region regions

-- the marks of each region
abbrev pub marks_of : ℕ → ℕ → List SectorSeen → ℕ → Marks
marks_of index regions sectors region = record {
  shows = λ n map. has_region index regions region && shown (sector_at sectors map).copies n region;
  loose = λ map. has_region index regions region && is_loose (sector_at sectors map) region;
}

-- what contracts see of a page as a log of marks; `regions` are those of the whole volume
abbrev pub page_log : ℕ → ℕ → List SectorSeen → LogSeen
page_log index regions sectors = record {
  there = true;
  has_region = has_region index regions;
  maps = 32;
  copies = if is_some (sector_at sectors 0).copies.second then 2 else 1;
  lent = false;
  claims = λ region map. has_region index regions region && is_sure (sector_at sectors map) region;
  told = if all_tell sectors then Some (marks_of index regions sectors) else None;
  faults = faults_in sectors;
  cut = cut_in sectors;
}

-- What is loose was written again: at Ok nothing is loose any more and every copy has lost what was; after a fault all stays as
-- loose as it was, and each copy has lost a part of it.
abbrev pub IsFirmed : {T : Type 0} → Result T MarkFault → List SectorSeen → List SectorSeen → Type 0
IsFirmed (Ok u) old new = EachSector (λ map. Goes NoneLoose Swept) old new
IsFirmed (Err fault) old new = EachSector (λ map. Goes SameBits MaySweep) old new

-- The bits that are asked for were put where nothing was loose: at Ok on every copy, and else they are left open.
abbrev pub IsChanged : {T : Type 0} → ℕ → ℕ → Bool → Result T MarkFault → List SectorSeen → List SectorSeen → Type 0
IsChanged bits region on (Ok u) old new = EachSector (λ map. Goes (BitPut (asked bits region map) on) (ShownPut (asked bits region map) on)) old new
IsChanged bits region on (Err fault) old new = EachSector (λ map. Goes (BitOpened (asked bits region map)) (ShownMay (asked bits region map) on)) old new

-- what was loose is gone, and then the bits that are asked for are on every copy, or on none
abbrev pub AllSet : ℕ → ℕ → Bool → List SectorSeen → List SectorSeen → Type 0
AllSet bits region on old new = EachSector (λ map. Goes (BitSet (asked bits region map) on) (ShownSet (asked bits region map) on)) old new

-- what was loose is gone, and then the bits that are asked for are left open
abbrev pub AllLeft : ℕ → ℕ → Bool → List SectorSeen → List SectorSeen → Type 0
AllLeft bits region on old new = EachSector (λ map. Goes (BitLeft (asked bits region map)) (ShownLeft (asked bits region map) on)) old new

-- a mark: where it fails, while what was loose was written again or later
abbrev pub IsMarkedIn : {T : Type 0} → ℕ → ℕ → Result T MarkFault → List SectorSeen → List SectorSeen → Type 0
IsMarkedIn bits region (Ok u) old new = AllSet bits region true old new
IsMarkedIn bits region (Err fault) old new = EachSector (λ map. Goes SameBits MaySweep) old new ⊎ AllLeft bits region true old new

-- an unmark: the same, and the bits are left open whenever it fails
abbrev pub IsUnmarkedIn : {T : Type 0} → ℕ → ℕ → Result T MarkFault → List SectorSeen → List SectorSeen → Type 0
IsUnmarkedIn bits region (Ok u) old new = AllSet bits region false old new
IsUnmarkedIn bits region (Err fault) old new = EachSector (λ map. Goes (BitOpened (asked bits region map)) MaySweep) old new ⊎ AllLeft bits region false old new

-- of each sector this holds
abbrev pub AreAll : (SectorSeen → Type 0) → List SectorSeen → Type 0
AreAll fact sectors = (m : ℕ) → m < length sectors → fact (sector_at sectors m)

-- each sector has a piece on the second copy, or none has
abbrev pub ArePaired : Bool → List SectorSeen → Type 0
ArePaired pair sectors = AreAll (λ s. is_some s.copies.second ≡ pair) sectors

-- all sectors have a piece on the second copy, or none has
abbrev pub ArePairedAlike : List SectorSeen → Type 0
ArePairedAlike sectors = ArePaired (is_some (sector_at sectors 0).copies.second) sectors
