-- The sectors that pieces have, one behind the other, whatever pieces they are cut into.
use Rattle.std.specs.Prelude.{◌≡◌, ℕ, ◌+◌, ◌-◌, ◌<◌, nat_lt, if◌then◌else◌, List, [], ◌∷◌, length, slice_index, slice_index_or, Option, Some, None}
use Rattle.vx_piece.specs.Seen.{Seen}
use Rattle.vx_runs.specs.Run.{EachPiece, run_sectors}
use Rattle.vx_cut.specs.Same.{SameRun}
use Rattle.vx_layout.specs.declared.layout.Layout.{Layout}
use Rattle.vx_layout.specs.declared.place.Place.{Place}
use Rattle.vx_layout.specs.declared.strip.Strip.{Strip}
use Rattle.vx_layout.specs.Columns.{place_of}
use Rattle.vx_carve.specs.Carved.{AreCut}

-- the second piece has the sectors of the first
pub record IsSamePlace (old new : Seen) : Type 0 where
  pub device : new.device ≡ old.device
  pub start : new.start ≡ old.start
  pub sectors : new.sectors ≡ old.sectors

-- a sector of a device
pub record Spot : Type 0 where
  pub device : ℕ
  pub sector : ℕ

abbrev pub spot : ℕ → ℕ → Spot
spot device sector = record { device = device; sector = sector }

-- the sector at an index of pieces that lie one behind the other; there is none past their end
abbrev pub spot_at : List Seen → ℕ → Option Spot
spot_at [] k = None
spot_at (p ∷ ps) k = if nat_lt k p.sectors then Some (spot p.device (p.start + k)) else spot_at ps (k - p.sectors)

-- the sector of a place, on the device of its slot: public regions begin at sector 2,048
abbrev pub spot_of : List ℕ → Option Place → Option Spot
spot_of numbers None = None
spot_of numbers (Some place) = Some (spot (slice_index numbers place.disk) (2048 + place.sector))

-- the pieces lie where the blocks from the first number up to the second do, in order
abbrev pub LieOn : List ℕ → ℕ → List (List Strip) → ℕ → ℕ → List Seen → Type 0
LieOn numbers unit columns start end ps = (k : ℕ) → start + k < end → spot_at ps k ≡ spot_of numbers (place_of unit columns (start + k))

-- each copy has so many sectors, and lies where the first blocks of its layout do
pub record LieOnLogs (numbers : List ℕ) (layouts : List Layout) (count : ℕ) (copies : List (List Seen)) : Type 0 where
  pub long : length copies ≡ length layouts
  pub sectors : (k : ℕ) → k < length layouts → run_sectors (slice_index_or copies k []) ≡ count
  pub each : (k : ℕ) (d : Layout) → k < length layouts → LieOn numbers (slice_index_or layouts k d).unit (slice_index_or layouts k d).columns 0 count (slice_index_or copies k [])

-- ---- laws

-- The pieces of the runs of a layout lie where its blocks do.
abbrev pub EachCutLies : Type 0
EachCutLies = (numbers : List ℕ) (unit : ℕ) (columns : List (List Strip)) (start end : ℕ) (ps : List Seen) → AreCut numbers unit columns start end ps → LieOn numbers unit columns start end ps

-- The same run, however it is cut, has its sectors where it had them, ..
abbrev pub EachSameRunLies : Type 0
EachSameRunLies = (old new : List Seen) → SameRun old new → (k : ℕ) → spot_at new k ≡ spot_at old k

-- .. and so have pieces with the sectors that others had.
abbrev pub EachKeptRunLies : Type 0
EachKeptRunLies = (old new : List Seen) → EachPiece IsSamePlace old new → (k : ℕ) → spot_at new k ≡ spot_at old k
