-- What changes in one volume leaves the others as they are.
use Rattle.std.specs.Prelude.{◌≡◌, ◌≢◌, Option, None, Contains}
use Rattle.vx_base.specs.Named.{Word}
use Rattle.vx_config_parts.specs.declared.vol.Vol.{Vol}
use Rattle.vx_image.specs.Soundness.{IsSoundImage}
use Rattle.vx_moments.specs.World.{Device, Group, World}
use Rattle.vx_moments.specs.Group.{HaveOwnDevices, ChangesOnly, AreVolumesSound, image_on}

-- Where the devices change in the sectors of one volume alone, each other volume is what it was.
abbrev pub EachOtherImageStays : Type 0
EachOtherImageStays =
    (g : Group) (vol : Word) (old new : Word → Option Device) → HaveOwnDevices g.members → ChangesOnly g vol old new →
    (v : Vol) → v.name ≢ vol → image_on new g v ≡ image_on old g v

-- So the volumes stay sound where that one is sound again, or is started.
abbrev pub EachVolumeStaysSound : Type 0
EachVolumeStaysSound =
    (g : Group) (vol : Word) (old new : World) → HaveOwnDevices g.members → ChangesOnly g vol old.devices new.devices →
    ((name : Word) → name ≢ vol → new.volumes name ≡ None → old.volumes name ≡ None) →
    ((v : Vol) → Contains g.config.volumes v → v.name ≡ vol → new.volumes vol ≡ None → IsSoundImage (image_on new.devices g v)) →
    AreVolumesSound old g → AreVolumesSound new g
