-- How many sectors a mark or an unmark writes.
use Rattle.std.specs.Prelude.{◌≡◌, ℕ, ◌+◌, not, Bool, false, if◌then◌else◌, List, Result}
use Rattle.std.specs.Str.{bytes_eq}
use Rattle.vx_mask.specs.Mask.{has}
use Rattle.vx_sector.specs.Fields.{zeros}
use Rattle.vx_marks.specs.declared.marker.MarkFault.{MarkFault}
use Rattle.vx_pages.specs.Sector.{SectorHands, SectorSeen}
use Rattle.vx_pages.specs.Page.{EachSector}

-- a failed call has left something of the sector open
abbrev pub is_open : SectorSeen → Bool
is_open s = not (bytes_eq s.loose (zeros 512))

-- nothing of the sector is open
abbrev pub IsShut : SectorSeen → Type 0
IsShut s = is_open s ≡ false

abbrev pub once_if : Bool → ℕ
once_if there = if there then 1 else 0

-- how often a mark or an unmark of these maps writes a sector: once again where something of it is open, and once where its map is one of them
abbrev pub writes_of : ℕ → ℕ → SectorSeen → ℕ
writes_of bits map s = once_if (is_open s) + once_if (has bits map)

-- each sector of a page is written so often on each copy, and none is read
abbrev pub PageHands : {T : Type 0} → (ℕ → SectorSeen → ℕ) → Result T MarkFault → List SectorSeen → List SectorSeen → Type 0
PageHands writes result old new = EachSector (λ map a b. SectorHands (writes map a) result a.copies b.copies) old new
