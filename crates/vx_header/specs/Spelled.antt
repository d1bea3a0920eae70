-- Which sectors stand for a header or a toggle, and what is wrong with the others.
use Rattle.std.specs.Prelude.{◌≡◌, ◌≢◌, ℕ, List, take, codes}
use Rattle.vx_header.specs.declared.header.Header.{Header}
use Rattle.vx_header.specs.declared.toggle.Toggle.{Toggle}
use Rattle.vx_header.specs.declared.fault.HeaderFault.{HeaderFault}
use Rattle.vx_header.specs.declared.fault.HeaderFault.TheVariants.{NotInitialised, BadHeader}
use Rattle.vx_header.specs.Sectors.{header_sector, toggle_sector}
use Rattle.vx_header.specs.Places.{IsFirstBad, is_header_place, header_end, is_toggle_place, toggle_end}

abbrev pub sector_of_header : Header → List ℕ
sector_of_header h = header_sector h.group h.disk h.slot h.sectors

abbrev pub IsHeader : List ℕ → Type 0
IsHeader sector = (h : Header) × (sector ≡ sector_of_header h)

abbrev pub SameHeader : Header → Header → Type 0
SameHeader a b = (a.group ≡ b.group) × (a.disk ≡ b.disk) × (a.slot ≡ b.slot) × (a.sectors ≡ b.sectors)

-- another mark, or the first byte that does not fit
abbrev pub IsHeaderFault : List ℕ → HeaderFault → Type 0
IsHeaderFault sector NotInitialised = take 8 sector ≢ codes "vxprv001"
IsHeaderFault sector (BadHeader byte) = (take 8 sector ≡ codes "vxprv001") × IsFirstBad IsHeader is_header_place header_end sector byte

abbrev pub sector_of_toggle : Toggle → List ℕ
sector_of_toggle t = toggle_sector t.sequence t.half t.length t.good

abbrev pub IsToggle : List ℕ → Type 0
IsToggle sector = (t : Toggle) × (sector ≡ sector_of_toggle t)

abbrev pub SameToggle : Toggle → Toggle → Type 0
SameToggle a b = (a.sequence ≡ b.sequence) × (a.half ≡ b.half) × (a.length ≡ b.length) × (a.good ≡ b.good)

abbrev pub IsToggleFault : List ℕ → HeaderFault → Type 0
IsToggleFault sector NotInitialised = ⊥
IsToggleFault sector (BadHeader byte) = IsFirstBad IsToggle is_toggle_place toggle_end sector byte
