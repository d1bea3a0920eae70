-- A free map of one running volume of the imported group is marked in each region.
use Rattle.std.specs.Prelude.{◌≡◌, ℕ, ◌<◌, Bool, true, length, Option, Some, None, Result, Ok, Err, OnOk}
use Rattle.std.specs.BTreeMap.{BTreeMap, get, is_at}
use Rattle.std.specs.Cmp.Lexicographic.{slice_cmp}
use Rattle.std.specs.Map.{set_value}
use Rattle.std.specs.Ordering.{nat_cmp}
use Rattle.vx_base.specs.Named.{SameUnder, Word, put}
use Rattle.vx_piece.specs.Seen.{Seen}
use Rattle.vx_pages.specs.declared.local_piece.LocalPiece.{Ghosts}
use Rattle.vx_marks.specs.declared.marker.MarkFault.{MarkFault}
use Rattle.vx_marks.specs.declared.marker.MarkFault.TheVariants as mark
use Rattle.vx_cell.specs.declared.fault.Place.TheVariants.{Log}
use Rattle.vx_volume.specs.declared.fault.IoFault.{IoFault}
use Rattle.vx_volume.specs.declared.fault.IoFault.TheVariants as io
use Rattle.vx_volume.specs.declared.volume.Volume.{Volume}
use Rattle.vx_volume.specs.Changing.{HaveRoom, IsFreeIn, IsKnownMap, SetsMap}
use Rattle.vx_volume.specs.Log.{LogGoes}
use Rattle.vx_volume.specs.Volume.{IsVolume, VolumeSeen, log_of, shape_of, volume_seen}
use Rattle.vx_lending.specs.declared.public.Running.{Running}
use Rattle.vx_house.specs.declared.house.Imported.{Imported}
use Rattle.vx_house.specs.declared.stop.Stop.{Stop}
use Rattle.vx_house.specs.declared.stop.Stop.TheVariants as stops
use Rattle.vx_stage_volumes.specs.Resting.{IsFaultTold}
use Rattle.vx_stage_mirrors.specs.declared.marking.Unmarked.{Unmarked}
use Rattle.vx_stage_mirrors.specs.declared.marking.Unmarked.TheVariants.{OutOfMemory, Fault}

-- ---- a volume

-- what runs under the name is a volume, of which the map is free
abbrev pub MayMark : {P : Type 0} {ghosts : Ghosts P} → (P → Seen) → ℕ → Option (Running P ghosts) → Type 0
MayMark see map None = ⊥
MayMark see map (Some r) = IsVolume (volume_seen see r.volume) × IsFreeIn map (volume_seen see r.volume)

-- the map is set in each region of the volume, or that ended so
pub record SetsAll (map : ℕ) (result : Result (Unit {0}) MarkFault) (old new : VolumeSeen) : Type 0 where
  pub bits : ℕ → Bool
  pub all : (r : ℕ) → r < length old.cells → bits r ≡ true
  pub sets : SetsMap map bits result old new

-- the volume as that one, perhaps with more room
pub record IsSame {P : Type 0} {ghosts : Ghosts P} (see : P → Seen) (old new : Volume P ghosts) : Type 0 where
  pub seen : volume_seen see new ≡ volume_seen see old
  pub log : log_of new ≡ log_of old

-- Its regions are marked; or there was no memory, and it is as it was; or its log has failed, of which the map was known before.
abbrev pub MarksVolume : {P : Type 0} {ghosts : Ghosts P} → (P → Seen) → ℕ → Result (Unit {0}) Unmarked → Volume P ghosts → Volume P ghosts → Type 0
MarksVolume see map (Ok u) old new = SetsAll map (Ok tt) (volume_seen see old) (volume_seen see new)
MarksVolume see map (Err OutOfMemory) old new = IsSame see old new
MarksVolume see map (Err (Fault fault)) old new = IsKnownMap map (volume_seen see old) × SetsAll map (Err fault) (volume_seen see old) (volume_seen see new)

-- ---- the group

-- One of the running volumes was marked, or that ended so: it is another, in its place, and all others are as they were.
pub record MarksOne {P : Type 0} {ghosts : Ghosts P} (see : P → Seen) (name : Word) (map : ℕ) (result : Result (Unit {0}) Unmarked) (old new : BTreeMap Word (Running P ghosts)) : Type 0 where
  pub before : Running P ghosts
  pub after : Running P ghosts
  pub was : get (slice_cmp nat_cmp) old name ≡ Some before
  pub entries : new.entries ≡ set_value (is_at (slice_cmp nat_cmp name)) old.entries after
  pub puts : SameUnder (put name (Some after) (get (slice_cmp nat_cmp) old)) (get (slice_cmp nat_cmp) new)
  pub marks : MarksVolume see map result before.volume after.volume
  pub whole : IsVolume (volume_seen see after.volume)
  pub form : after.form ≡ before.form
  pub shape : shape_of after.volume ≡ shape_of before.volume
  pub follows : LogGoes see (log_of before.volume) (log_of after.volume)
  pub room : OnOk result (HaveRoom after.volume)

-- in the group nothing else has changed
pub record MarksIn {P : Type 0} {ghosts : Ghosts P} (see : P → Seen) (name : Word) (map : ℕ) (result : Result (Unit {0}) Unmarked) (old new : Imported P ghosts) : Type 0 where
  pub runs : MarksOne see name map result old.public.running new.public.running
  pub same : new ≡ record old { public = record old.public { running = new.public.running } }

-- the fault of the log as one of the volume
abbrev pub as_io : MarkFault → IoFault
as_io (mark.Failed copy device) = io.Fault (Log copy device)
as_io mark.PowerLost = io.PowerLost
as_io mark.Busy = io.PowerLost

-- how it ends: the regions are marked, or there was no memory, or a fault of the log is told
abbrev pub MarkEnds : {P : Type 0} {ghosts : Ghosts P} → (P → Seen) → Word → ℕ → Result (Unit {0}) Stop → Imported P ghosts → Imported P ghosts → Type 0
MarkEnds see name map (Ok u) old new = MarksIn see name map (Ok tt) old new
MarkEnds see name map (Err stops.OutOfMemory) old new = MarksIn see name map (Err OutOfMemory) old new
MarkEnds see name map (Err (stops.Ended end)) old new = (fault : MarkFault) × MarksIn see name map (Err (Fault fault)) old new × IsFaultTold see old.base.disks.items (as_io fault) (stops.Ended end)
