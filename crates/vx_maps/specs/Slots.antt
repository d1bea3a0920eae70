-- The pieces of a copy by their sectors, with a hole where a page has taken its own, and the pieces of pages in the holes.
use Rattle.std.specs.Prelude.{◌≡◌, ◌≢◌, ℕ, zero, suc, ◌+◌, ◌-◌, ◌*◌, ◌/◌, ◌%◌, ◌<◌, ◌≤◌, ◌&&◌, not, nat_le, nat_lt, Bool, if◌then◌else◌, true, false, is_some, List, [], ◌∷◌, length, map, Option, Some, None}
use Rattle.std.specs.Option.{option_map}
use Rattle.vx_piece.specs.Seen.{Seen}
use Rattle.vx_sector.specs.Fields.{zeros}
use Rattle.vx_pages.specs.Bytes.{full}
use Rattle.vx_pages.specs.Items.{item_at}
use Rattle.vx_pages.specs.Sector.{SectorSeen, Copies, copy_of, faults_on}
use Rattle.vx_pages.specs.Page.{ArePaired, faults_in, no_sector}

abbrev pub slots_seen : {P : Type 0} → (P → Seen) → List (Option P) → List (Option Seen)
slots_seen seen slots = map (option_map seen) slots

-- the piece at a place, if there is one
abbrev pub slot_at : List (Option Seen) → ℕ → Option Seen
slot_at slots k = item_at None slots k

-- the sector of a map at an index, if there is one
abbrev pub cell_at : List SectorSeen → ℕ → Option SectorSeen
cell_at [] m = None
cell_at (s ∷ ss) zero = Some s
cell_at (s ∷ ss) (suc m) = cell_at ss m

-- the sectors of the page at an index
abbrev pub row_at : List (List SectorSeen) → ℕ → List SectorSeen
row_at pages p = item_at [] pages p

-- a place of a copy has a page's sector: behind three slots of so many sectors each map has a slot, and in it behind its first
-- sector the sectors of the pages
abbrev pub grid_at : ℕ → List (List SectorSeen) → ℕ → Option SectorSeen
grid_at size pages k = if nat_le 3 (k / size) && nat_le 1 (k % size) then cell_at (row_at pages (k % size - 1)) (k / size - 3) else None

-- the place of a page's sector of a map
abbrev pub place_of : ℕ → ℕ → ℕ → ℕ
place_of size map page = (3 + map) * size + (1 + page)

abbrev pub cell_piece : ℕ → Option SectorSeen → Seen
cell_piece copy None = no_sector.copies.first
cell_piece copy (Some s) = copy_of s.copies copy

-- the piece at a place, or that of a page's sector on the copy
abbrev pub part_at : ℕ → Option Seen → Option SectorSeen → Seen
part_at copy None cell = cell_piece copy cell
part_at copy (Some p) cell = p

-- all pieces of a copy in order, from a place on
abbrev pub filled : ℕ → ℕ → List (List SectorSeen) → ℕ → List (Option Seen) → List Seen
filled size copy pages k [] = []
filled size copy pages k (x ∷ xs) = part_at copy x (grid_at size pages k) ∷ filled size copy pages (k + 1) xs

-- what the pieces have counted on a device; there are none in the holes
abbrev pub slot_faults : Option Seen → ℕ → ℕ
slot_faults None device = 0
slot_faults (Some p) device = faults_on p device

abbrev pub slots_faults : ℕ → List (Option Seen) → ℕ
slots_faults device [] = 0
slots_faults device (x ∷ xs) = slot_faults x device + slots_faults device xs

abbrev pub grid_faults : ℕ → ℕ → List (List SectorSeen) → ℕ
grid_faults copy device [] = 0
grid_faults copy device (ss ∷ pages) = faults_in ss copy device + grid_faults copy device pages

-- a piece stands at the place in the one list, and a hole in the other
pub record Moved (at : ℕ) (piece : Seen) (out in' : List (Option Seen)) : Type 0 where
  pub size : length in' ≡ length out
  pub was : slot_at out at ≡ Some piece
  pub gone : slot_at in' at ≡ None
  pub others : (k : ℕ) → k ≢ at → slot_at in' k ≡ slot_at out k
  pub faults : (device : ℕ) → slots_faults device in' + faults_on piece device ≡ slots_faults device out

-- the same for the second copy, where there is one
abbrev pub MovedSecond : ℕ → Option Seen → Option (List (Option Seen)) → Option (List (Option Seen)) → Type 0
MovedSecond at None None None = Unit {0}
MovedSecond at (Some piece) (Some out) (Some in') = Moved at piece out in'
MovedSecond at piece out in' = ⊥

-- the slots of one copy or of two
pub record SheetsSeen : Type 0 where
  pub first : List (Option Seen)
  pub second : Option (List (Option Seen))

pub record MovedBoth (at : ℕ) (pieces : Copies) (out in' : SheetsSeen) : Type 0 where
  pub first : Moved at pieces.first out.first in'.first
  pub second : MovedSecond at pieces.second out.second in'.second

-- a place has a piece or is a page's
pub record IsHoled (size : ℕ) (pages : List (List SectorSeen)) (slots : List (Option Seen)) : Type 0 where
  pub long : 35 * size ≤ length slots
  pub holes : (k : ℕ) → k < length slots → is_some (slot_at slots k) ≡ not (is_some (grid_at size pages k))

-- all pieces of a copy, and what they have counted by the device
pub record Whole : Type 0 where
  pub pieces : List Seen
  pub faults : ℕ → ℕ

-- these slots with the pages' pieces in their holes are all pieces of the copy
pub record HasCut (size copy : ℕ) (pages : List (List SectorSeen)) (whole : Whole) (slots : List (Option Seen)) : Type 0 where
  pub holed : IsHoled size pages slots
  pub pieces : filled size copy pages 0 slots ≡ whole.pieces
  pub faults : (device : ℕ) → slots_faults device slots + grid_faults copy device pages ≡ whole.faults device

abbrev pub IsHoledSecond : ℕ → List (List SectorSeen) → Option (List (Option Seen)) → Type 0
IsHoledSecond size pages None = Unit {0}
IsHoledSecond size pages (Some slots) = IsHoled size pages slots

abbrev pub HasCutSecond : ℕ → List (List SectorSeen) → Option Whole → Option (List (Option Seen)) → Type 0
HasCutSecond size pages None None = Unit {0}
HasCutSecond size pages (Some whole) (Some slots) = HasCut size 1 pages whole slots
HasCutSecond size pages _ _ = ⊥

-- all pieces of one copy or of two
pub record Wholes : Type 0 where
  pub first : Whole
  pub second : Option Whole

pub record AreHoled (size : ℕ) (pages : List (List SectorSeen)) (sheets : SheetsSeen) : Type 0 where
  pub first : IsHoled size pages sheets.first
  pub second : IsHoledSecond size pages sheets.second

pub record HasCuts (size : ℕ) (pages : List (List SectorSeen)) (wholes : Wholes) (sheets : SheetsSeen) : Type 0 where
  pub first : HasCut size 0 pages wholes.first sheets.first
  pub second : HasCutSecond size pages wholes.second sheets.second

-- what slots and pages hold together
abbrev pub whole_of : ℕ → ℕ → List (List SectorSeen) → List (Option Seen) → Whole
whole_of size copy pages slots = record { pieces = filled size copy pages 0 slots; faults = λ device. slots_faults device slots + grid_faults copy device pages }

abbrev pub wholes_of : ℕ → List (List SectorSeen) → SheetsSeen → Wholes
wholes_of size pages sheets = record { first = whole_of size 0 pages sheets.first; second = option_map (whole_of size 1 pages) sheets.second }

-- each copy has a piece at the place
abbrev pub IsTakableSecond : ℕ → Option (List (Option Seen)) → Type 0
IsTakableSecond at None = Unit {0}
IsTakableSecond at (Some slots) = (at < length slots) × (is_some (slot_at slots at) ≡ true)

pub record IsTakable (at : ℕ) (sheets : SheetsSeen) : Type 0 where
  pub inside : at < length sheets.first
  pub first : is_some (slot_at sheets.first at) ≡ true
  pub second : IsTakableSecond at sheets.second

-- each copy has a hole at the place, and there is a second piece where there is a second copy
abbrev pub IsPlaceableSecond : ℕ → Bool → Option (List (Option Seen)) → Type 0
IsPlaceableSecond at pair None = pair ≡ false
IsPlaceableSecond at pair (Some slots) = (pair ≡ true) × (at < length slots) × (slot_at slots at ≡ None)

pub record IsPlaceable (at : ℕ) (pair : Bool) (sheets : SheetsSeen) : Type 0 where
  pub inside : at < length sheets.first
  pub first : slot_at sheets.first at ≡ None
  pub second : IsPlaceableSecond at pair sheets.second

-- the place has a piece of one sector
abbrev pub HoldsSingle : Option Seen → Type 0
HoldsSingle None = ⊥
HoldsSingle (Some p) = p.sectors ≡ 1

-- each copy has the pieces of a page's sectors from this map on
abbrev pub HasPiecesOn : ℕ → ℕ → ℕ → List (Option Seen) → Type 0
HasPiecesOn size page from slots = (m : ℕ) → from ≤ m → m < 32 → (place_of size m page < length slots) × HoldsSingle (slot_at slots (place_of size m page))

abbrev pub HasPiecesSecond : ℕ → ℕ → ℕ → Option (List (Option Seen)) → Type 0
HasPiecesSecond size page from None = Unit {0}
HasPiecesSecond size page from (Some slots) = HasPiecesOn size page from slots

pub record HasPieces (size page from : ℕ) (sheets : SheetsSeen) : Type 0 where
  pub first : HasPiecesOn size page from sheets.first
  pub second : HasPiecesSecond size page from sheets.second

-- each copy has holes for a page's sectors below this map
abbrev pub HasHolesOn : ℕ → ℕ → ℕ → List (Option Seen) → Type 0
HasHolesOn size page below slots = (m : ℕ) → m < below → (place_of size m page < length slots) × (slot_at slots (place_of size m page) ≡ None)

abbrev pub HasHolesSecond : ℕ → ℕ → ℕ → Option (List (Option Seen)) → Type 0
HasHolesSecond size page below None = Unit {0}
HasHolesSecond size page below (Some slots) = HasHolesOn size page below slots

pub record HasHoles (size page below : ℕ) (sheets : SheetsSeen) : Type 0 where
  pub first : HasHolesOn size page below sheets.first
  pub second : HasHolesSecond size page below sheets.second

-- nothing of the sector is sure, and all is loose
abbrev pub IsOpen : SectorSeen → Type 0
IsOpen s = (s.sure ≡ zeros 512) × (s.loose ≡ full 512)

-- a place is that of a page's sector, where there are so many pages
abbrev pub is_paged : ℕ → ℕ → ℕ → Bool
is_paged size pages k = (nat_le 3 (k / size) && nat_le 1 (k % size)) && (nat_lt (k / size) 35 && nat_le (k % size) pages)

-- what a store keeps of a copy beside its pages: single sectors of the plex with holes for those of pages, and what lies behind
pub record IsLaidOn (size pages : ℕ) (slots : List (Option Seen)) : Type 0 where
  pub long : 35 * size ≤ length slots
  pub holes : (k : ℕ) → k < length slots → is_some (slot_at slots k) ≡ not (is_paged size pages k)
  pub single : (k : ℕ) (p : Seen) → k < 35 * size → slot_at slots k ≡ Some p → p.sectors ≡ 1

pub record IsLaid (size pages : ℕ) (sheets : SheetsSeen) : Type 0 where
  pub first : IsLaidOn size pages sheets.first
  pub second : (slots : List (Option Seen)) → sheets.second ≡ Some slots → IsLaidOn size pages slots

-- how many copies there are
abbrev pub copies_in : SheetsSeen → ℕ
copies_in sheets = if is_some sheets.second then 2 else 1

-- each place has a piece, and each of the plex's sectors is one of its own
pub record IsWholeOn (size : ℕ) (slots : List (Option Seen)) : Type 0 where
  pub long : 35 * size ≤ length slots
  pub some : (k : ℕ) → k < length slots → is_some (slot_at slots k) ≡ true
  pub single : (k : ℕ) (p : Seen) → k < 35 * size → slot_at slots k ≡ Some p → p.sectors ≡ 1

pub record AreWhole (size : ℕ) (sheets : SheetsSeen) : Type 0 where
  pub first : IsWholeOn size sheets.first
  pub second : (slots : List (Option Seen)) → sheets.second ≡ Some slots → IsWholeOn size slots

-- each page's sectors have a piece on the second copy, or none has
abbrev pub ArePairedRows : Bool → List (List SectorSeen) → Type 0
ArePairedRows pair pages = (i : ℕ) → i < length pages → ArePaired pair (row_at pages i)

-- each place has a piece
abbrev pub AreFull : List (Option Seen) → Type 0
AreFull slots = (k : ℕ) → k < length slots → is_some (slot_at slots k) ≡ true

-- the pieces in their order
abbrev pub pieces_in : List (Option Seen) → List Seen
pieces_in [] = []
pieces_in (x ∷ xs) = part_at 0 x None ∷ pieces_in xs

abbrev pub AreAllFull : Option (List (Option Seen)) → Type 0
AreAllFull None = Unit {0}
AreAllFull (Some slots) = AreFull slots
