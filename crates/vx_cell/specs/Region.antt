-- What contracts see of a region, and the histories that it stands for.
use Rattle.std.specs.Prelude.{◌≡◌, ◌≢◌, ℕ, ◌^◌, ◌<◌, IsTrue, true, false, List, Option, Some, None, ◌⊎◌}
use Rattle.vx_base.specs.Counts.{Rose}
use Rattle.vx_life.specs.Entry.{Entry}
use Rattle.vx_mask.specs.Mask.{has, union}
use Rattle.vx_mask.specs.Marks.{Marks, MayTidy}
use Rattle.vx_core.specs.declared.stage.Stage.{Stage}
use Rattle.vx_core.specs.Table.{current}
use Rattle.vx_core.specs.History.{Pending}
use Rattle.vx_core.specs.Region.{Disks, Fixed, RegionState}
use Rattle.vx_core.specs.Form.{IsFormed}
use Rattle.vx_core_laws.specs.Course.{IsKeptState}
use Rattle.vx_marks.specs.Log.{LogSeen, HasMaps, KeepsLog, OnMarks}
use Rattle.vx_cell.specs.Plexes.{PlexSeen, holds, MapsDiffer, AllCover, blocks_of, AllTell, KeepPlexes, PlexRose, SomePieceCut}

-- a region: its stage, the blocks of the volume that it is, what was drawn last, its plexes, and the log that its calls are given
pub record RegionSeen : Type 0 where
  pub stage : Stage
  pub region : ℕ
  pub start : ℕ
  pub size : ℕ
  pub number : ℕ
  pub epoch : ℕ
  pub plexes : List PlexSeen
  pub log : LogSeen

-- ---- the form, which holds whether or not devices tell what they hold

-- the log is that of the region: it has the region, and each of its maps
pub record IsLogOf (log : LogSeen) (region : ℕ) (s : Stage) : Type 0 where
  pub there : log.there ≡ true
  pub known : log.has_region region ≡ true
  pub maps : HasMaps log (union (union s.on s.off) s.snaps)
  pub dirty : 30 < log.maps

-- The stage is well formed over the plexes that are there, and each of them covers the region. A logged region has the log.
pub record IsWhole (r : RegionSeen) : Type 0 where
  pub formed : IsFormed r.stage r.stage.phase (holds r.plexes)
  pub differ : MapsDiffer r.plexes
  pub cover : AllCover r.size r.plexes
  pub some : 0 < r.size
  pub fits : r.size < 2 ^ 64
  pub logged : r.stage.logged ≡ true → IsLogOf r.log r.region r.stage

-- ---- the contents, where devices tell them

abbrev pub Tells : {X : Type 0} → Option X → Type 0
Tells None = ⊥
Tells (Some x) = Unit {0}

abbrev pub IsTold : RegionSeen → Type 0
IsTold r = AllTell r.plexes × Tells r.log.told

abbrev pub marks_or : Option (ℕ → Marks) → ℕ → Marks
marks_or None region = record { shows = λ n k. false; loose = λ k. false }
marks_or (Some marks) region = marks region

-- what the core sees of the devices: the blocks of each plex, and the marks on each copy
abbrev pub disks_of : RegionSeen → Disks
disks_of r = record { blocks = blocks_of r.start r.size r.plexes; marks = marks_or r.log.told r.region }

-- the region as the core has it, with this history: what is fixed, the entries, the newest first, the call under way, and
-- the number that was drawn last
abbrev pub state_of : RegionSeen → Fixed → List Entry → Pending → ℕ → RegionState
state_of r fixed entries call last =
    record { stage = r.stage; around = record { disks = disks_of r; fixed = fixed; entries = entries; pending = call; last = last } }

-- the region stands for a history: with it, it is kept
abbrev pub StandsFor : RegionSeen → Fixed → List Entry → Pending → Type 0
StandsFor r fixed entries call = IsKeptState (state_of r fixed entries call r.number)

-- ---- what calls keep

-- the marks of every other region are at most tidied
abbrev pub TidiesOthers : ℕ → (ℕ → Marks) → (ℕ → Marks) → Type 0
TidiesOthers region old new = (other : ℕ) → other ≢ region → MayTidy (old other) (new other)

-- what no call changes but the number, the stage and what the devices hold of the region
pub record KeepsRegion (old new : RegionSeen) : Type 0 where
  pub region : new.region ≡ old.region
  pub start : new.start ≡ old.start
  pub size : new.size ≡ old.size
  pub epoch : new.epoch ≡ old.epoch
  pub plexes : KeepPlexes old.plexes new.plexes
  pub log : KeepsLog old.log new.log
  pub others : OnMarks (TidiesOthers old.region) old.log.told new.log.told

-- ---- causes

-- a count of the log has risen
abbrev pub LogRose : LogSeen → LogSeen → Type 0
LogRose old new = (copy : ℕ) × (device : ℕ) × Rose (old.faults copy device) (new.faults copy device)

-- each count of the log is as it was
abbrev pub SameLogFaults : LogSeen → LogSeen → Type 0
SameLogFaults old new = (copy device : ℕ) → new.faults copy device ≡ old.faults copy device

-- a count of the log has risen, or one of each plex that was current before
abbrev pub AllFailed : RegionSeen → RegionSeen → Type 0
AllFailed old new = LogRose old.log new.log ⊎ ((k : ℕ) → has (current old.stage) k ≡ true → PlexRose k old.plexes new.plexes)

-- a piece of a plex or of the log is cut
abbrev pub IsCut : RegionSeen → Type 0
IsCut r = SomePieceCut r.plexes ⊎ IsTrue r.log.cut
