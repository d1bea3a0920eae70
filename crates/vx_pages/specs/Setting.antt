-- What it is to set all bits of a map, page by page.
use Rattle.std.specs.Prelude.{◌≡◌, ◌⊎◌, ◌/◌, ℕ, ◌==◌, ◌&&◌, not, nat_lt, Bool, true, false, if◌then◌else◌, List, Result, Ok, Err}
use Rattle.vx_mask.specs.Marks.{Marks, SomeLoseLoose}
use Rattle.vx_marks.specs.Log.{LogSeen, OnMarks}
use Rattle.vx_marks.specs.declared.marker.MarkFault.{MarkFault}
use Rattle.vx_pages.specs.Page.{EachSector}
use Rattle.vx_pages.specs.Sector.{SectorSeen, Goes, MaySweep, SameBits}

-- one of the two holds and the other does not
abbrev pub differ : Bool → Bool → Bool
differ true other = not other
differ false other = other

-- ---- on the sectors of a page

-- the bits are these, if the sector is the map's (here), and nothing is loose
abbrev pub BitsSet : Bool → (ℕ → Bool) → ℕ → Bool → Bool → Bool → Bool → Type 0
BitsSet here bits region sure loose sure' loose' = (sure' ≡ (if here then bits region else sure)) × (loose' ≡ false)

-- the copy has lost the mark if it was loose, and shows these bits, if the sector is the map's
abbrev pub ShownBits : Bool → (ℕ → Bool) → ℕ → Bool → Bool → Bool → Type 0
ShownBits here bits region shows loose shows' = shows' ≡ (if here then bits region else (shows && not loose))

-- the bits that were not so are left open, if the sector is the map's, and nothing else is loose any more
abbrev pub BitsLeft : Bool → (ℕ → Bool) → ℕ → Bool → Bool → Bool → Bool → Type 0
BitsLeft here bits region sure loose sure' loose' = (sure' ≡ (if here then (sure && bits region) else sure)) × (loose' ≡ (here && differ sure (bits region)))

-- the copy has lost the mark if it was loose, and then may show these bits, if the sector is the map's
abbrev pub ShownEither : Bool → (ℕ → Bool) → ℕ → Bool → Bool → Bool → Type 0
ShownEither here bits region shows loose shows' = (shows' ≡ (shows && not loose)) ⊎ ((here ≡ true) × (shows' ≡ bits region))

-- a sector of which nothing was loose any more gets these bits, if it is the map's: at Ok on every copy, and else they are left open
abbrev pub SetsBits : {T : Type 0} → Bool → (ℕ → Bool) → Result T MarkFault → SectorSeen → SectorSeen → Type 0
SetsBits here bits (Ok u) old new = Goes (BitsSet here bits) (ShownBits here bits) old new
SetsBits here bits (Err fault) old new = Goes (BitsLeft here bits) (ShownEither here bits) old new

abbrev pub SetEach : {T : Type 0} → ℕ → (ℕ → Bool) → Result T MarkFault → List SectorSeen → List SectorSeen → Type 0
SetEach map bits result old new = EachSector (λ m. SetsBits (m == map) bits result) old new

-- the bits of a map are set: where that fails, while what was loose was written again or later
abbrev pub IsSetIn : {T : Type 0} → ℕ → (ℕ → Bool) → Result T MarkFault → List SectorSeen → List SectorSeen → Type 0
IsSetIn map bits (Ok u) old new = SetEach {T = Unit {0}} map bits (Ok tt) old new
IsSetIn map bits (Err fault) old new = EachSector (λ m. Goes SameBits MaySweep) old new ⊎ SetEach {T = Unit {0}} map bits (Err fault) old new

-- ---- on the marks of a region

-- every copy loses the loose marks, and then shows the map's mark just as asked (on)
pub record AllShow (map : ℕ) (on : Bool) (old new : Marks) : Type 0 where
  pub shows : (n k : ℕ) → new.shows n k ≡ (if k == map then on else (old.shows n k && not (old.loose k)))
  pub loose : (k : ℕ) → new.loose k ≡ false

-- every copy loses the loose marks, and then may show the map's mark as asked; it alone is loose, if it was not claimed so
pub record SomeShow (map : ℕ) (claimed on : Bool) (old new : Marks) : Type 0 where
  pub shows : (n k : ℕ) → (new.shows n k ≡ (old.shows n k && not (old.loose k))) ⊎ ((k ≡ map) × (new.shows n k ≡ on))
  pub loose : (k : ℕ) → new.loose k ≡ ((k == map) && differ claimed on)

-- How far the setting of a map's bits has come in a region: it is done; the map's mark is left open; its page was begun, and at most
-- loose marks are gone; or the region is as it was.
pub data Come : Type 0 where
  Done : Come
  Torn : Come
  Begun : Come
  Still : Come

-- whether the map's mark is claimed then, by whether it was, and whether it was to be
abbrev pub claim_by : Come → Bool → Bool → Bool
claim_by Done claimed on = on
claim_by Torn claimed on = claimed && on
claim_by Begun claimed on = claimed
claim_by Still claimed on = claimed

-- what has become of the marks then
abbrev pub MarksBy : Come → ℕ → Bool → Bool → Marks → Marks → Type 0
MarksBy Done map claimed on old new = AllShow map on old new
MarksBy Torn map claimed on old new = SomeShow map claimed on old new
MarksBy Begun map claimed on old new = SomeLoseLoose 0 old new
MarksBy Still map claimed on old new = new ≡ old

-- ---- on a log

-- the setting of a map's bits has come so far in each region of the log; what is claimed of other maps stays
pub record SetsSoFar (map : ℕ) (bits : ℕ → Bool) (come : ℕ → Come) (old new : LogSeen) : Type 0 where
  pub claims : (region k : ℕ) → old.has_region region ≡ true → new.claims region k ≡ (if k == map then claim_by (come region) (old.claims region k) (bits region) else old.claims region k)
  pub told : OnMarks (λ was is. (region : ℕ) → old.has_region region ≡ true → MarksBy (come region) map (old.claims region map) (bits region) (was region) (is region)) old.told new.told

-- how far a page has come by the answer: where it fails, the bits are left open (torn), or loose marks could not be written again
abbrev pub come_as : {T : Type 0} → Bool → Result T MarkFault → Come
come_as torn (Ok u) = Done
come_as torn (Err fault) = if torn then Torn else Begun

-- the bits of a map are set on a page
abbrev pub IsPageSet : {T : Type 0} → ℕ → (ℕ → Bool) → Result T MarkFault → LogSeen → LogSeen → Type 0
IsPageSet map bits result old new = (torn : Bool) × SetsSoFar map bits (λ region. come_as torn result) old new

-- they are set on one page of a store, and the others are as they were
abbrev pub come_on : Come → ℕ → ℕ → Come
come_on come page region = if (region / 4096) == page then come else Still

abbrev pub IsSetOn : {T : Type 0} → ℕ → ℕ → (ℕ → Bool) → Result T MarkFault → LogSeen → LogSeen → Type 0
IsSetOn page map bits result old new = (torn : Bool) × SetsSoFar map bits (come_on (come_as torn result) page) old new

-- they are set on all pages of a store: where one fails, those before it are done, and those behind it are as they were
abbrev pub come_to : ℕ → Come → ℕ → Come
come_to page come region = if nat_lt (region / 4096) page then Done else come_on come page region

abbrev pub IsMapSet : {T : Type 0} → ℕ → (ℕ → Bool) → Result T MarkFault → LogSeen → LogSeen → Type 0
IsMapSet map bits (Ok u) old new = SetsSoFar map bits (λ region. Done) old new
IsMapSet map bits (Err fault) old new = (page : ℕ) × (torn : Bool) × SetsSoFar map bits (come_to page (if torn then Torn else Begun)) old new
