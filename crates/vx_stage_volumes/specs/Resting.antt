-- A running volume of the imported group is brought to rest.
use Rattle.std.specs.Prelude.{◌≡◌, ℕ, ◌==◌, Bool, Option, None, List, [], Some, Result}
use Rattle.std.specs.BTreeMap.{BTreeMap, is_at, get}
use Rattle.std.specs.Cmp.Lexicographic.{slice_cmp}
use Rattle.std.specs.Map.{set_value}
use Rattle.std.specs.Ordering.{nat_cmp}
use Rattle.vx_pages.specs.declared.local_piece.LocalPiece.{Ghosts}
use Rattle.vx_base.specs.Named.{Word, put, SameUnder}
use Rattle.vx_piece.specs.Seen.{Seen}
use Rattle.vx_copies.specs.Lists.{AnyOf}
use Rattle.vx_copies.specs.declared.disk.Disk.{Disk}
use Rattle.vx_volume.specs.declared.fault.IoFault.{IoFault}
use Rattle.vx_volume.specs.declared.fault.IoFault.TheVariants.{Fault, PowerLost, Range}
use Rattle.vx_volume.specs.Log.{LogGoes}
use Rattle.vx_volume.specs.Volume.{IsVolume, log_of, shape_of, volume_seen}
use Rattle.vx_lending.specs.declared.public.Running.{Running}
use Rattle.vx_group_calls.specs.Ending.{device_of}
use Rattle.vx_group_stop.specs.Stops.{ComesToRest}
use Rattle.vx_answers.specs.declared.answer.End.TheVariants as ends
use Rattle.vx_house.specs.declared.house.Imported.{Imported}
use Rattle.vx_house.specs.declared.stop.Stop.{Stop}
use Rattle.vx_house.specs.declared.stop.Stop.TheVariants as stops

-- ---- the volume

-- what runs under the name is a volume
abbrev pub MayRest : {P : Type 0} {ghosts : Ghosts P} → (P → Seen) → Option (Running P ghosts) → Type 0
MayRest see None = ⊥
MayRest see (Some r) = IsVolume (volume_seen see r.volume)

-- One of the running volumes was brought to rest, or that ended so: it is another, in its place, and all others are as they were.
pub record RestsOne {P : Type 0} {ghosts : Ghosts P} (see : P → Seen) (name : Word) (result : Result ℕ IoFault) (old new : BTreeMap Word (Running P ghosts)) : Type 0 where
  pub before : Running P ghosts
  pub after : Running P ghosts
  pub was : get (slice_cmp nat_cmp) old name ≡ Some before
  pub entries : new.entries ≡ set_value (is_at (slice_cmp nat_cmp name)) old.entries after
  pub puts : SameUnder (put name (Some after) (get (slice_cmp nat_cmp) old)) (get (slice_cmp nat_cmp) new)
  pub rests : ComesToRest (volume_seen see before.volume) (volume_seen see after.volume) result
  pub whole : IsVolume (volume_seen see after.volume)
  pub form : after.form ≡ before.form
  pub shape : shape_of after.volume ≡ shape_of before.volume
  pub follows : LogGoes see (log_of before.volume) (log_of after.volume)

-- in the group nothing else has changed
pub record RestsIn {P : Type 0} {ghosts : Ghosts P} (see : P → Seen) (name : Word) (result : Result ℕ IoFault) (old new : Imported P ghosts) : Type 0 where
  pub runs : RestsOne see name result old.public.running new.public.running
  pub same : new ≡ record old { public = record old.public { running = new.public.running } }

-- ---- how it is told

-- these are the names of a disk on the device of this number, and of the device
pub record IsDiskOn {P : Type 0} (see : P → Seen) (number : ℕ) (told device : Word) (d : Disk P) : Type 0 where
  pub number_is : (see d.piece).device ≡ number
  pub told_is : d.name ≡ told
  pub device_is : d.device ≡ device

abbrev pub is_on : {P : Type 0} → (P → Seen) → ℕ → Disk P → Bool
is_on see number d = (see d.piece).device == number

-- the device that failed is that of one of the disks
abbrev pub HasFaultDisk : {P : Type 0} → (P → Seen) → List (Disk P) → IoFault → Type 0
HasFaultDisk see disks (Fault place) = AnyOf (λ d. (see d.piece).device ≡ device_of place) disks
HasFaultDisk see disks PowerLost = Unit {0}
HasFaultDisk see disks Range = ⊥

-- the command ends so: a fault is told with the names of the device and of the disk on it
abbrev pub IsFaultTold : {P : Type 0} → (P → Seen) → List (Disk P) → IoFault → Stop → Type 0
IsFaultTold see disks (Fault place) stop = (told : Word) × (device : Word) × (stop ≡ stops.Ended (ends.Fault told device [])) × AnyOf (IsDiskOn see (device_of place) told device) disks
IsFaultTold see disks PowerLost stop = stop ≡ stops.Ended (ends.Lost [])
IsFaultTold see disks Range stop = ⊥
