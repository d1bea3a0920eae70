-- That the text of a configuration is read as its records, and that a volume is as sound by another reading, by fewer good disks, and by
-- other bytes of disks that are not good.
use Rattle.std.specs.Prelude.{◌≡◌, ℕ, true, List}
use Rattle.std.specs.List.Sorted.{IsPermutation}
use Rattle.vx_base.specs.Named.{Word}
use Rattle.vx_mask.specs.Mask.{has}
use Rattle.vx_layout.specs.declared.place.Place.{Place}
use Rattle.vx_config_parts.specs.declared.vol.Vol.{Vol}
use Rattle.vx_objects.specs.declared.config.Config.{Config}
use Rattle.vx_objects.specs.Config.{objects_of}
use Rattle.vx_image.specs.Bytes.{Sectors, image_of}
use Rattle.vx_image.specs.Own.{IsOfVolume}
use Rattle.vx_image.specs.Soundness.{IsSoundImage}
use Rattle.vx_image.specs.UsedPlexes.{IsVolOf}
use Rattle.vx_moments.specs.Copies.{IsTextOf}
use Rattle.vx_sound.specs.Sound.{IsConfigOf}

-- the configurations have the same records, in some order
abbrev pub HaveSameRecords : Config → Config → Type 0
HaveSameRecords c other = IsPermutation (objects_of c) (objects_of other)

-- Whatever configuration the text of one is read as has its records.
abbrev pub EachTextHasOneReading : Type 0
EachTextHasOneReading = (c other : Config) (text : List ℕ) → IsTextOf c text → IsConfigOf text other → HaveSameRecords c other

-- what is good now was good on the disks of the volume, and there it has the same bytes
pub record IsLess (c : Config) (vol : Word) (was now : ℕ) (old new : Sectors) : Type 0 where
  pub good : (place : Place) → IsOfVolume c vol place → has now place.disk ≡ true → has was place.disk ≡ true
  pub same : (place : Place) → IsOfVolume c vol place → has now place.disk ≡ true → new place.disk place.sector ≡ old place.disk place.sector

-- A volume is as sound by another reading, by no more good disks, and by bytes that are the same on those.
abbrev pub EachReadingIsAsSound : Type 0
EachReadingIsAsSound =
    (c other : Config) (v : Vol) (good good' : ℕ) (bytes bytes' : Sectors) → IsVolOf c v → HaveSameRecords c other → IsLess c v.name good good' bytes bytes' →
    IsSoundImage (image_of c good bytes v) → IsSoundImage (image_of other good' bytes' v)
