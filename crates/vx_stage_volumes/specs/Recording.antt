-- A volume that was opened is recorded as started, and runs; and then its plexes are copied to.
use Rattle.std.specs.Prelude.{◌≡◌, ◌++◌, ℕ, Bool, if◌then◌else◌, Some, [], ◌∷◌, Result, Ok, Err}
use Rattle.std.specs.BTreeMap.{BTreeMap, get, insert_entry, is_at}
use Rattle.std.specs.Cmp.Lexicographic.{slice_cmp}
use Rattle.std.specs.Map.{set_value}
use Rattle.std.specs.Ordering.{nat_cmp}
use Rattle.vx_base.specs.Named.{Word, put, SameUnder}
use Rattle.vx_pages.specs.declared.local_piece.LocalPiece.{Ghosts}
use Rattle.vx_piece.specs.Seen.{Seen}
use Rattle.vx_volume.specs.declared.fault.IoFault.{IoFault}
use Rattle.vx_volume.specs.Log.{LogGoes}
use Rattle.vx_volume.specs.Volume.{IsVolume, log_of, shape_of, volume_seen}
use Rattle.vx_lending.specs.declared.public.Running.{Running}
use Rattle.vx_group_start.specs.Copying.{AreCopied, missed_regions}
use Rattle.vx_group_start.specs.Fresh.{maps_to_copy}
use Rattle.vx_house.specs.declared.house.Imported.{Imported}
use Rattle.vx_house.specs.declared.stop.Stop.{Stop}
use Rattle.vx_stage_changes.specs.Committing.{CommitEnds, IsFinished}
use Rattle.vx_stage_changes.specs.declared.planning.NextConfig.{NextConfig}
use Rattle.vx_stage_volumes.specs.Naming.{copied}

-- it is recorded, and runs under the name
pub record IsRecordedIn {P : Type 0} {ghosts : Ghosts P} (see : P → Seen) (name : Word) (running : Running P ghosts) (next : NextConfig) (old new : Imported P ghosts) : Type 0 where
  pub config : new.config ≡ next.config
  pub finished : IsFinished see next.text.items old.base new.base
  pub same : new.public ≡ record old.public { running = new.public.running }
  pub entries : new.public.running.entries ≡ insert_entry (slice_cmp nat_cmp) old.public.running.entries name running
  pub puts : SameUnder (put name (Some running) (get (slice_cmp nat_cmp) old.public.running)) (get (slice_cmp nat_cmp) new.public.running)

-- it is not, and is held among those that could not be put back
pub record IsHeldIn {P : Type 0} {ghosts : Ghosts P} (see : P → Seen) (running : Running P ghosts) (next : NextConfig) (stop : Stop) (old new : Imported P ghosts) : Type 0 where
  pub config : new.config ≡ old.config
  pub ends : CommitEnds see (Err stop) next.text.items old.base new.base
  pub pool : new.public.pool ≡ old.public.pool
  pub left : new.public.left ≡ old.public.left
  pub entries : new.public.running.entries ≡ old.public.running.entries
  pub held : new.public.stuck.items ≡ old.public.stuck.items ++ running ∷ []

abbrev pub RecordEnds : {P : Type 0} {ghosts : Ghosts P} → (P → Seen) → Word → Running P ghosts → NextConfig → Result (Unit {0}) Stop → Imported P ghosts → Imported P ghosts → Type 0
RecordEnds see name running next (Ok u) old new = IsRecordedIn see name running next old new
RecordEnds see name running next (Err stop) old new = IsHeldIn see running next stop old new

-- ---- copying

-- the maps that a start copies to: all but the lowest of a volume that was never started, else none
abbrev pub maps_copied : {P : Type 0} {ghosts : Ghosts P} → Bool → Running P ghosts → ℕ
maps_copied fresh running = if fresh then maps_to_copy running.form.shape else 0

-- The running volume of the name has been copied to, and all others are as they were.
pub record IsCopiedAmong {P : Type 0} {ghosts : Ghosts P} (see : P → Seen) (name : Word) (fresh : Bool) (result : Result ℕ IoFault) (old new : BTreeMap Word (Running P ghosts)) : Type 0 where
  pub before : Running P ghosts
  pub after : Running P ghosts
  pub was : get (slice_cmp nat_cmp) old name ≡ Some before
  pub entries : new.entries ≡ set_value (is_at (slice_cmp nat_cmp name)) old.entries after
  pub puts : SameUnder (put name (Some after) (get (slice_cmp nat_cmp) old)) (get (slice_cmp nat_cmp) new)
  pub copied : AreCopied (maps_copied fresh before) (volume_seen see before.volume) (volume_seen see after.volume) result
  pub count : (n : ℕ) → result ≡ Ok n → n ≡ missed_regions (maps_copied fresh before) (volume_seen see before.volume)
  pub whole : IsVolume (volume_seen see after.volume)
  pub form : after.form ≡ before.form
  pub shape : shape_of after.volume ≡ shape_of before.volume
  pub follows : LogGoes see (log_of before.volume) (log_of after.volume)

-- its group has been copied to, which ends the start so
pub record IsResynchronised {P : Type 0} {ghosts : Ghosts P} (see : P → Seen) (name : Word) (fresh : Bool) (stop : Stop) (old new : Imported P ghosts) : Type 0 where
  pub result : Result ℕ IoFault
  pub among : IsCopiedAmong see name fresh result old.public.running new.public.running
  pub same : new ≡ record old { public = record old.public { running = new.public.running } }
  pub stop_is : stop ≡ copied see old.base.disks.items result
