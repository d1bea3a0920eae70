-- What a configuration that is to be recorded makes of the bytes of a volume, and what its log marks by then.
use Rattle.std.specs.Prelude.{◌≡◌, ◌<◌, ℕ, true, Contains}
use Rattle.vx_base.specs.Named.{Word}
use Rattle.vx_config_parts.specs.declared.vol.Vol.{Vol}
use Rattle.vx_objects.specs.declared.config.Config.{Config}
use Rattle.vx_image.specs.Image.{is_marked_by_all, regions_of}
use Rattle.vx_image.specs.Soundness.{IsSoundImage}
use Rattle.vx_moments.specs.World.{Group, World}
use Rattle.vx_moments.specs.Group.{image_on}

-- As this configuration records it, the volume of the name is sound by what the devices hold, over the good disks of the group.
abbrev pub IsSoundAs : Group → Config → Word → World → Type 0
IsSoundAs g next name w = (v : Vol) → Contains next.volumes v → v.name ≡ name → IsSoundImage (image_on w.devices (record g { config = next }) v)

-- each copy of the log of the volume of the name that counts marks the map in each region
abbrev pub IsMarkedEverywhere : Group → Word → ℕ → World → Type 0
IsMarkedEverywhere g name map w =
    (v : Vol) → Contains g.config.volumes v → v.name ≡ name → (r : ℕ) → r < regions_of (image_on w.devices g v) → is_marked_by_all (image_on w.devices g v) r map ≡ true
