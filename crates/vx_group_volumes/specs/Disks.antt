-- What becomes of disks and of the devices of a world, as some of the pieces behind their fronts are called.
use Rattle.std.specs.Prelude.{◌≡◌, ℕ, ◌<◌, false, is_some, List, length, Option, Some, Contains, slice_index}
use Rattle.std.specs.List.{list_any}
use Rattle.vx_base.specs.Named.{Word}
use Rattle.vx_piece.specs.Seen.{Seen, Keeps}
use Rattle.vx_runs.specs.Run.{EachPiece}
use Rattle.vx_carve.specs.Together.{covers}
use Rattle.vx_lending.specs.Going.{GoTogether}
use Rattle.vx_copies.specs.Disks.{DiskSeen}
use Rattle.vx_copies.specs.Lists.{AllOf, AnyOf}
use Rattle.vx_fronts.specs.Rests.{told_at}
use Rattle.vx_moments.specs.World.{Device, Group, Member}

-- Calls were made on these pieces: each is still in its place, and together no count of faults falls and no power comes back.
pub record AreCalled (old new : List Seen) : Type 0 where
  pub each : EachPiece Keeps old new
  pub goes : GoTogether old new

-- The disk is the same, its device is where it was, and holds what it did in each sector that none of these pieces has.
pub record DiskGoesOn (held : List Seen) (old new : DiskSeen) : Type 0 where
  pub name : new.name ≡ old.name
  pub device : new.device ≡ old.device
  pub slot : new.slot ≡ old.slot
  pub size : new.sectors ≡ old.sectors
  pub good : new.good ≡ old.good
  pub half : new.half ≡ old.half
  pub keeps : Keeps old.seen new.seen
  pub tells : is_some new.seen.told ≡ is_some old.seen.told
  pub told : (k : ℕ) → list_any (covers old.seen.device k) held ≡ false → told_at new.seen.told k ≡ told_at old.seen.told k

-- ---- in a world

-- the disk is a member of the group, and its slot has the number of its device
pub record IsMemberOn (g : Group) (numbers : List ℕ) (h : DiskSeen) : Type 0 where
  pub member : Member
  pub there : Contains g.members member
  pub device_is : member.device ≡ h.device
  pub slot_is : member.slot ≡ h.slot
  pub low : h.slot < length numbers
  pub number_is : slice_index numbers h.slot ≡ h.seen.device

-- the device has the sectors of the whole disk, and holds what it tells
pub record IsDeviceOf (o : Option Device) (h : DiskSeen) : Type 0 where
  pub device : Device
  pub is : o ≡ Some device
  pub sectors : device.sectors ≡ h.seen.sectors
  pub contents : (k : ℕ) → device.contents k ≡ told_at h.seen.told k

abbrev pub AreDevicesOf : (Word → Option Device) → List DiskSeen → Type 0
AreDevicesOf devices disks = AllOf (λ h. IsDeviceOf (devices h.device) h) disks

-- each device that none of the disks lies on is as before
abbrev pub OtherDevicesStay : List DiskSeen → (Word → Option Device) → (Word → Option Device) → Type 0
OtherDevicesStay disks old new = (name : Word) → (AnyOf (λ h. h.device ≡ name) disks → ⊥) → new name ≡ old name
