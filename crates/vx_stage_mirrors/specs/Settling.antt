-- One running volume of the imported group comes to rest with its log made firm: its regions are settled, and nothing is loose on its log.
use Rattle.std.specs.Prelude.{◌≡◌, ◌⊎◌, Some, Result, Ok, Err}
use Rattle.std.specs.BTreeMap.{BTreeMap, get, is_at}
use Rattle.std.specs.Cmp.Lexicographic.{slice_cmp}
use Rattle.std.specs.Map.{set_value}
use Rattle.std.specs.Ordering.{nat_cmp}
use Rattle.vx_base.specs.Named.{SameUnder, Word, put}
use Rattle.vx_piece.specs.Seen.{Seen}
use Rattle.vx_pages.specs.declared.local_piece.LocalPiece.{Ghosts}
use Rattle.vx_marks.specs.declared.marker.MarkFault.{MarkFault}
use Rattle.vx_volume.specs.declared.fault.IoFault.{IoFault}
use Rattle.vx_volume.specs.Log.{LogGoes}
use Rattle.vx_volume.specs.Passes.{PassEnds, Settles}
use Rattle.vx_volume.specs.Switching.{Firms, IsTight}
use Rattle.vx_volume.specs.Volume.{IsVolume, VolumeSeen, log_of, shape_of, volume_seen}
use Rattle.vx_lending.specs.declared.public.Running.{Running}
use Rattle.vx_house.specs.declared.house.Imported.{Imported}
use Rattle.vx_house.specs.declared.stop.Stop.{Stop}
use Rattle.vx_stage_volumes.specs.Resting.{IsFaultTold}
use Rattle.vx_stage_mirrors.specs.Marking.{as_io}

-- ---- a volume

-- all regions were settled, and then its log was made firm, or that ended so
pub record IsFirmed (result : Result (Unit {0}) MarkFault) (old new : VolumeSeen) : Type 0 where
  pub mid : VolumeSeen
  pub settled : PassEnds Settles old mid (Ok tt)
  pub firms : Firms result mid new

-- It has come to rest so, and no mark is loose; or a region could not be settled, and nothing was done behind it; or a page of its log
-- could not be written.
abbrev pub ComesFirm : VolumeSeen → VolumeSeen → Result (Unit {0}) IoFault → Type 0
ComesFirm old new (Ok u) = IsFirmed (Ok tt) old new × IsTight new
ComesFirm old new (Err fault) = PassEnds Settles old new (Err fault) ⊎ ((mark : MarkFault) × (fault ≡ as_io mark) × IsFirmed (Err mark) old new)

-- ---- the group

-- One of the running volumes came to rest so, or that ended so: it is another, in its place, and all others are as they were.
pub record SettlesOne {P : Type 0} {ghosts : Ghosts P} (see : P → Seen) (name : Word) (result : Result (Unit {0}) IoFault) (old new : BTreeMap Word (Running P ghosts)) : Type 0 where
  pub before : Running P ghosts
  pub after : Running P ghosts
  pub was : get (slice_cmp nat_cmp) old name ≡ Some before
  pub entries : new.entries ≡ set_value (is_at (slice_cmp nat_cmp name)) old.entries after
  pub puts : SameUnder (put name (Some after) (get (slice_cmp nat_cmp) old)) (get (slice_cmp nat_cmp) new)
  pub comes : ComesFirm (volume_seen see before.volume) (volume_seen see after.volume) result
  pub whole : IsVolume (volume_seen see after.volume)
  pub form : after.form ≡ before.form
  pub shape : shape_of after.volume ≡ shape_of before.volume
  pub follows : LogGoes see (log_of before.volume) (log_of after.volume)

-- in the group nothing else has changed
pub record SettlesIn {P : Type 0} {ghosts : Ghosts P} (see : P → Seen) (name : Word) (result : Result (Unit {0}) IoFault) (old new : Imported P ghosts) : Type 0 where
  pub runs : SettlesOne see name result old.public.running new.public.running
  pub same : new ≡ record old { public = record old.public { running = new.public.running } }

-- it is at rest so, and a fault that ended it is told
pub record EndsUnsettled {P : Type 0} {ghosts : Ghosts P} (see : P → Seen) (name : Word) (stop : Stop) (old new : Imported P ghosts) : Type 0 where
  pub fault : IoFault
  pub settles : SettlesIn see name (Err fault) old new
  pub told : IsFaultTold see old.base.disks.items fault stop

-- how it ends
abbrev pub SettleEnds : {P : Type 0} {ghosts : Ghosts P} → (P → Seen) → Word → Result (Unit {0}) Stop → Imported P ghosts → Imported P ghosts → Type 0
SettleEnds see name (Ok u) old new = SettlesIn see name (Ok tt) old new
SettleEnds see name (Err stop) old new = EndsUnsettled see name stop old new
