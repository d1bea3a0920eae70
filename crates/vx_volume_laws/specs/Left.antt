-- A volume that is left is its image.
use Rattle.std.specs.Prelude.{ℕ, Bool, List}
use Rattle.std.specs.List.{All}
use Rattle.vx_base.specs.Blocks.{Contents}
use Rattle.vx_piece.specs.Seen.{Seen}
use Rattle.vx_carve.specs.Together.{Holds}
use Rattle.vx_config_parts.specs.declared.vol.Vol.{Vol}
use Rattle.vx_objects.specs.declared.config.Config.{Config}
use Rattle.vx_moments.specs.World.{Volume}
use Rattle.vx_image.specs.Image.{PlexImage, IsFilled}
use Rattle.vx_image.specs.Bytes.{Sectors, image_of}
use Rattle.vx_volume.specs.Volume.{VolumeSeen, IsVolume}
use Rattle.vx_lending.specs.declared.form.VolumeForm.{VolumeForm}
use Rattle.vx_image.specs.UsedPlexes.{IsVolOf}
use Rattle.vx_lending.specs.Form.{IsFormOf}
use Rattle.vx_volume_laws.specs.Contents.{AreSectorsOf}
use Rattle.vx_volume_laws.specs.Running.{RunsAsVolume}
use Rattle.vx_volume_laws.specs.Leaving.{AreNamedIn, IsLeftBy}
use Rattle.vx_volume_laws.specs.Keeping.{KeepsVolume}
use Rattle.vx_volume_laws.specs.Lying.{LiesAs, pieces_in}

-- A volume was opened with the form that a configuration gave it; it lies where the form says, and its pieces hold what the devices
-- do. A configuration keeps the volume, which is not EMPTY. Then its image by the sectors of the devices is what it leaves,
-- whatever volume of the world it runs as.
abbrev pub EachVolumeLeavesItsImage : Type 0
EachVolumeLeavesItsImage =
    (c0 : Config) (good0 : ℕ) (v0 : Vol) (fresh : Bool) (form : VolumeForm) → IsVolOf c0 v0 → IsFormOf c0 good0 v0 fresh form →
    (numbers : List ℕ) (volume : VolumeSeen) (copies : List (List Seen)) → IsVolume volume → LiesAs numbers form volume copies →
    (contents : ℕ → Contents) → All (Holds contents) (pieces_in volume copies) →
    (c : Config) (good : ℕ) (v : Vol) → KeepsVolume c0 good0 v0 fresh c good v → IsFilled v.state →
    (bytes : Sectors) → AreSectorsOf good numbers contents bytes →
    (plexes : List PlexImage) (w : Volume) (run : RunsAsVolume plexes volume w) → AreNamedIn (image_of c good bytes v).plexes plexes →
    IsLeftBy plexes volume w run (image_of c good bytes v)
