-- What is left when started volumes and the group leave the world.
use Rattle.std.specs.Prelude.{◌≡◌, Option, Some, None}
use Rattle.vx_base.specs.Named.{Word}
use Rattle.vx_life.specs.Candidates.{IsChosen}
use Rattle.vx_moments.specs.World.{World, Device, Volume, Lies, OnDevice, OnPlexes}
use Rattle.vx_moments.specs.Holding.{IsLent}

-- the device stands for the volume that lay on it: each block is among its candidates
pub record DeviceStands (v : Volume) (device : Device) : Type 0 where
  pub sectors : device.sectors ≡ v.length
  pub contents : IsChosen v.length v.life.candidates device.contents

-- the device that a bare volume lies on stands for it
abbrev pub IsLeftBy : Volume → Lies → (Word → Option Device) → Type 0
IsLeftBy v (OnDevice name) devices = (device : Device) × (devices name ≡ Some device) × DeviceStands v device
IsLeftBy v (OnPlexes plexes) devices = Unit {0}

-- The power is gone: no volume and no group is left, and each device has what it had, or stands for the volume on it.
pub record PowerGoes (old new : World) : Type 0 where
  pub volumes : (vol : Word) → new.volumes vol ≡ None
  pub no_group : new.group ≡ None
  pub stand : (vol : Word) (v : Volume) → old.volumes vol ≡ Some v → IsLeftBy v v.lies new.devices
  pub others : (name : Word) → (IsLent old name → ⊥) → new.devices name ≡ old.devices name

-- the volume, where it lies on a whole device
abbrev pub lone_by : Lies → Volume → Option Volume
lone_by (OnDevice device) v = Some v
lone_by (OnPlexes plexes) v = None

-- what is there of a volume where the group is not
abbrev pub lone : Option Volume → Option Volume
lone None = None
lone (Some v) = lone_by v.lies v

-- the volume, where it lies on plexes of the group
abbrev pub grouped_by : Lies → Volume → Option Volume
grouped_by (OnDevice device) v = None
grouped_by (OnPlexes plexes) v = Some v

abbrev pub grouped : Option Volume → Option Volume
grouped None = None
grouped (Some v) = grouped_by v.lies v

-- the group leaves with the volumes on its plexes, and its devices have what they had
abbrev pub group_gone : World → World
group_gone w = record w { volumes = λ vol. lone (w.volumes vol); group = None }
