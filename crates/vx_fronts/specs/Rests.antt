-- The rests of devices, out of the pieces behind their fronts: those that lie still, and those that running volumes have.
use Rattle.std.specs.Prelude.{◌≡◌, ℕ, ◌-◌, ◌==◌, Bool, true, is_some, if◌then◌else◌, List, [], ◌∷◌, ◌++◌, Option, Some, None}
use Rattle.std.specs.List.{list_any, All}
use Rattle.vx_base.specs.Blocks.{Contents}
use Rattle.vx_piece.specs.Seen.{Seen}
use Rattle.vx_carve.specs.Together.{covers, cut_on, faults_on, reads_on, writes_on}
use Rattle.vx_copies.specs.Disks.{DiskSeen}
use Rattle.vx_fronts.specs.Fronts.{Rest, Rests}

-- what is told of a sector; nothing where nothing is told
abbrev pub told_at : Option Contents → ℕ → List ℕ
told_at None k = []
told_at (Some contents) k = contents k

-- what the first of the pieces holds that has the sector of the device; nothing where none has
abbrev pub sector_in : List Seen → ℕ → Contents
sector_in [] device k = []
sector_in (p ∷ ps) device k = if covers device k p then told_at p.told (k - p.start) else sector_in ps device k

-- the piece is one of the device
abbrev pub is_of : ℕ → Seen → Bool
is_of device p = p.device == device

-- What is behind the front of a device: what lies still holds what it does, and what is lent holds nothing. Both are counted.
abbrev pub rest_in : (still lent : List Seen) (device : ℕ) → Rest
rest_in still lent device = record {
  contents = sector_in still device;
  faults = faults_on device (still ++ lent);
  writes = writes_on device (still ++ lent);
  reads = reads_on device (still ++ lent);
  cut = cut_on device (still ++ lent) == 1;
}

-- a device of which there is no piece is there whole
abbrev pub rests_of : (still lent : List Seen) → Rests
rests_of still lent device = if list_any (is_of device) (still ++ lent) then Some (rest_in still lent device) else None

-- ---- what pieces tell

-- the piece tells what it holds
abbrev pub IsTelling : Seen → Type 0
IsTelling p = is_some p.told ≡ true

abbrev pub AllTell : List Seen → Type 0
AllTell ps = All IsTelling ps

-- a rest, but for what it holds
abbrev pub bare : Option Rest → Option Rest
bare None = None
bare (Some rest) = Some (record rest { contents = λ k. [] })

-- a disk, but for what it holds
abbrev pub untold : DiskSeen → DiskSeen
untold h = record h { seen = record h.seen { told = None } }
