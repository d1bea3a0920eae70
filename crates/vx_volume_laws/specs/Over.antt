-- A volume that is opened is one that is opened over its image.
use Rattle.std.specs.Prelude.{ℕ, Contains}
use Rattle.vx_cell.specs.Region.{Tells}
use Rattle.vx_config_parts.specs.declared.vol.Vol.{Vol}
use Rattle.vx_objects.specs.declared.config.Config.{Config}
use Rattle.vx_moments.specs.World.{Volume}
use Rattle.vx_image.specs.Image.{LogCopy}
use Rattle.vx_image.specs.Bytes.{Sectors, image_of}
use Rattle.vx_volume.specs.Volume.{VolumeSeen}
use Rattle.vx_lending.specs.declared.form.VolumeForm.{VolumeForm}
use Rattle.vx_volume_laws.specs.Opened.{IsOpenedBy}
use Rattle.vx_volume_laws.specs.Starting.{IsOpenedOver}

-- Opened by the marks of a copy of its image, with a log that tells what its copies hold, it is opened over that image, for whatever
-- volume of the world.
abbrev pub EachOpenedVolumeIsOver : Type 0
EachOpenedVolumeIsOver =
    (c : Config) (good : ℕ) (bytes : Sectors) (v : Vol) (form : VolumeForm) (copy : LogCopy) (volume : VolumeSeen) → IsOpenedBy c good bytes v form copy volume →
    Contains (image_of c good bytes v).copies copy → Tells volume.log.told →
    (w : Volume) → IsOpenedOver (image_of c good bytes v) volume w
