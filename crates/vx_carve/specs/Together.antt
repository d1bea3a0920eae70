-- What pieces are together: which sectors they have, what these hold, and how often they were counted.
use Rattle.std.specs.Prelude.{◌≡◌, ℕ, ◌+◌, ◌-◌, ◌^◌, ◌<◌, ◌≤◌, ◌==◌, ◌&&◌, nat_lt, nat_le, min, Bool, if◌then◌else◌, List, Option, Some, None}
use Rattle.std.specs.List.{sum_by, All}
use Rattle.vx_base.specs.Blocks.{Contents}
use Rattle.vx_piece.specs.Seen.{Seen}

-- the run of a device has the sector of a device
abbrev pub covers_at : ℕ → ℕ → ℕ → ℕ → ℕ → Bool
covers_at number start count device sector = number == device && nat_le start sector && nat_lt (sector - start) count

abbrev pub covers : ℕ → ℕ → Seen → Bool
covers device sector p = covers_at p.device p.start p.sectors device sector

-- 1 where it has, else 0
abbrev pub has_at : ℕ → ℕ → ℕ → ℕ → ℕ → ℕ
has_at number start count device sector = if covers_at number start count device sector then 1 else 0

abbrev pub has : ℕ → ℕ → Seen → ℕ
has device sector p = has_at p.device p.start p.sectors device sector

-- how many of the pieces have the sector
abbrev pub owners : ℕ → ℕ → List Seen → ℕ
owners device sector ps = sum_by (has device sector) ps

-- what a piece has counted, where it is of the device
abbrev pub faults_of : ℕ → Seen → ℕ
faults_of device p = if p.device == device then p.faults else 0

abbrev pub writes_of : ℕ → Seen → ℕ
writes_of device p = if p.device == device then p.writes else 0

abbrev pub reads_of : ℕ → Seen → ℕ
reads_of device p = if p.device == device then p.reads else 0

abbrev pub cut_of : ℕ → Seen → ℕ
cut_of device p = if p.device == device then (if p.cut then 1 else 0) else 0

-- how often calls on the device failed, as its pieces have counted
abbrev pub faults_on : ℕ → List Seen → ℕ
faults_on device ps = min (sum_by (faults_of device) ps) (2 ^ 64 - 1)

-- how many sectors were written to the device, and how many read
abbrev pub writes_on : ℕ → List Seen → ℕ
writes_on device ps = min (sum_by (writes_of device) ps) (2 ^ 64 - 1)

abbrev pub reads_on : ℕ → List Seen → ℕ
reads_on device ps = min (sum_by (reads_of device) ps) (2 ^ 64 - 1)

-- 1 where a piece of the device is cut, else 0
abbrev pub cut_on : ℕ → List Seen → ℕ
cut_on device ps = min (sum_by (cut_of device) ps) 1

-- the piece tells what it holds, and that is a part of these contents of all devices
abbrev pub HoldsTold : (ℕ → Contents) → ℕ → ℕ → ℕ → Option Contents → Type 0
HoldsTold contents device start count None = ⊥
HoldsTold contents device start count (Some told) = (k : ℕ) → k < count → told k ≡ contents device (start + k)

abbrev pub Holds : (ℕ → Contents) → Seen → Type 0
Holds contents p = HoldsTold contents p.device p.start p.sectors p.told

abbrev pub HasStop : Option ℕ → Seen → Type 0
HasStop stop p = p.stop ≡ stop

abbrev pub HasSome : Seen → Type 0
HasSome p = 0 < p.sectors

-- These pieces are together what those were: each sector is in as many, and holds the same, and the counts are those.
pub record SameSectors (old new : List Seen) : Type 0 where
  pub sectors : (device sector : ℕ) → owners device sector new ≡ owners device sector old
  pub faults : (device : ℕ) → faults_on device new ≡ faults_on device old
  pub writes : (device : ℕ) → writes_on device new ≡ writes_on device old
  pub reads : (device : ℕ) → reads_on device new ≡ reads_on device old
  pub cut : (device : ℕ) → cut_on device new ≡ cut_on device old
  pub contents : (contents : ℕ → Contents) → All (Holds contents) old → All (Holds contents) new
  pub some : All HasSome old → All HasSome new
  pub stops : (stop : Option ℕ) → All (HasStop stop) old → All (HasStop stop) new

-- no sector is in two pieces
abbrev pub AreOnce : List Seen → Type 0
AreOnce ps = (device sector : ℕ) → owners device sector ps ≤ 1

-- each sector of the run is in one of the pieces
abbrev pub IsFree : ℕ → ℕ → ℕ → List Seen → Type 0
IsFree device start count ps = (k : ℕ) → k < count → owners device (start + k) ps ≡ 1

-- the piece is this run of sectors
pub record IsRunOf (device start count : ℕ) (p : Seen) : Type 0 where
  pub device_is : p.device ≡ device
  pub start_is : p.start ≡ start
  pub count_is : p.sectors ≡ count

-- what a longer piece tells, of the first so many sectors of which this was told: the same, or nothing at all
abbrev pub TellsFront : ℕ → Option Contents → Option Contents → Type 0
TellsFront n None whole = whole ≡ None
TellsFront n (Some front) None = Unit {0}
TellsFront n (Some front) (Some whole) = (k : ℕ) → k < n → whole k ≡ front k

-- the piece is that one, or a longer one that begins with it: it has its stop, and tells of its sectors what it does, or nothing
pub record IsLonger (front whole : Seen) : Type 0 where
  pub stop : whole.stop ≡ front.stop
  pub told : TellsFront front.sectors front.told whole.told
