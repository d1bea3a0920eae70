-- Plexes of one running volume of the imported group are copied to.
use Rattle.std.specs.Prelude.{◌≡◌, ℕ, List, [], Some, Result, Ok, Err}
use Rattle.std.specs.BTreeMap.{BTreeMap, get, is_at}
use Rattle.std.specs.Cmp.Lexicographic.{slice_cmp}
use Rattle.std.specs.Map.{set_value}
use Rattle.std.specs.Ordering.{nat_cmp}
use Rattle.vx_base.specs.Named.{SameUnder, Word, put}
use Rattle.vx_piece.specs.Seen.{Seen}
use Rattle.vx_pages.specs.declared.local_piece.LocalPiece.{Ghosts}
use Rattle.vx_copies.specs.declared.disk.Disk.{Disk}
use Rattle.vx_volume.specs.declared.fault.IoFault.{IoFault}
use Rattle.vx_volume.specs.Log.{LogGoes}
use Rattle.vx_volume.specs.Volume.{IsVolume, log_of, shape_of, volume_seen}
use Rattle.vx_lending.specs.declared.public.Running.{Running}
use Rattle.vx_group_start.specs.Copying.{AreCopied, missed_regions}
use Rattle.vx_answers.specs.declared.answer.End.TheVariants as ends
use Rattle.vx_house.specs.declared.house.Imported.{Imported}
use Rattle.vx_house.specs.declared.stop.Stop.{Stop}
use Rattle.vx_house.specs.declared.stop.Stop.TheVariants as stops
use Rattle.vx_stage_volumes.specs.Resting.{HasFaultDisk, IsFaultTold}

-- The running volume of the name was copied to, or up to a region that failed: it is another, in its place, and all others are as they were.
pub record CopiesOne {P : Type 0} {ghosts : Ghosts P} (see : P → Seen) (name : Word) (mask : ℕ) (result : Result ℕ IoFault) (old new : BTreeMap Word (Running P ghosts)) : Type 0 where
  pub before : Running P ghosts
  pub after : Running P ghosts
  pub was : get (slice_cmp nat_cmp) old name ≡ Some before
  pub entries : new.entries ≡ set_value (is_at (slice_cmp nat_cmp name)) old.entries after
  pub puts : SameUnder (put name (Some after) (get (slice_cmp nat_cmp) old)) (get (slice_cmp nat_cmp) new)
  pub copied : AreCopied mask (volume_seen see before.volume) (volume_seen see after.volume) result
  pub count : (n : ℕ) → result ≡ Ok n → n ≡ missed_regions mask (volume_seen see before.volume)
  pub original : IsVolume (volume_seen see before.volume)
  pub whole : IsVolume (volume_seen see after.volume)
  pub form : after.form ≡ before.form
  pub shape : shape_of after.volume ≡ shape_of before.volume
  pub follows : LogGoes see (log_of before.volume) (log_of after.volume)

-- a fault is of a device that one of the disks lies on
abbrev pub IsTellable : {P : Type 0} → (P → Seen) → List (Disk P) → Result ℕ IoFault → Type 0
IsTellable see disks (Ok n) = Unit {0}
IsTellable see disks (Err fault) = HasFaultDisk see disks fault

-- the command ends with the number of regions, or a fault is told
abbrev pub CopyStops : {P : Type 0} → (P → Seen) → List (Disk P) → Result ℕ IoFault → Stop → Type 0
CopyStops see disks (Ok n) stop = stop ≡ stops.Ended (ends.Done (Some n) [] [])
CopyStops see disks (Err fault) stop = IsFaultTold see disks fault stop

-- in the group nothing else has changed
pub record CopiesIn {P : Type 0} {ghosts : Ghosts P} (see : P → Seen) (name : Word) (mask : ℕ) (stop : Stop) (old new : Imported P ghosts) : Type 0 where
  pub result : Result ℕ IoFault
  pub one : CopiesOne see name mask result old.public.running new.public.running
  pub same : new ≡ record old { public = record old.public { running = new.public.running } }
  pub stop_is : CopyStops see old.base.disks.items result stop
