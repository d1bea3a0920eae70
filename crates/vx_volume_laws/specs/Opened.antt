-- A volume that is opened is its image.
use Rattle.std.specs.Prelude.{◌≡◌, ℕ, ◌<◌, Bool, List, [], length, Contains}
use Rattle.vx_base.specs.Blocks.{Contents}
use Rattle.vx_life.specs.Candidates.{Candidates}
use Rattle.vx_marks.specs.Log.{LogSeen}
use Rattle.vx_core.specs.History.{NoCall}
use Rattle.vx_core.specs.Region.{Fixed}
use Rattle.vx_cell.specs.Plexes.{PlexSeen, holds}
use Rattle.vx_cell.specs.Region.{RegionSeen, StandsFor, state_of}
use Rattle.vx_config_parts.specs.declared.vol.Vol.{Vol}
use Rattle.vx_objects.specs.declared.config.Config.{Config}
use Rattle.vx_image.specs.Image.{LogCopy, IsFilled}
use Rattle.vx_image.specs.Bytes.{Sectors, image_of}
use Rattle.vx_image.specs.Meaning.{StandsForCandidates}
use Rattle.vx_image.specs.Soundness.{IsSoundImage}
use Rattle.vx_volume.specs.Opening as opening
use Rattle.vx_volume.specs.Opening.{count_of}
use Rattle.vx_volume.specs.Volume.{VolumeSeen, IsVolume, cell_at, region_at}
use Rattle.vx_lending.specs.RegionsTaken.{AreTakenRegions}
use Rattle.vx_volume_laws.specs.Opening.{IsOpened, IsWellFormed}
use Rattle.vx_lending.specs.declared.form.VolumeForm.{VolumeForm}
use Rattle.vx_image.specs.UsedPlexes.{IsVolOf}
use Rattle.vx_lending.specs.Form.{IsFormOf}
use Rattle.vx_volume_laws.specs.Contents.{AreSectorsOf, HoldRegions, ShowsCopy}

-- A volume of the configuration was opened with its form over regions that were taken with the form's maps and layouts, whose pieces
-- hold what the devices do, by a log that shows what the copy marks.
pub record IsOpenedBy (c : Config) (good : ℕ) (bytes : Sectors) (v : Vol) (form : VolumeForm) (copy : LogCopy) (volume : VolumeSeen) : Type 0 where
  pub of : IsVolOf c v
  pub fresh : Bool
  pub form_is : IsFormOf c good v fresh form
  pub numbers : List ℕ
  pub contents : ℕ → Contents
  pub sectors : AreSectorsOf good numbers contents bytes
  pub regions : List (List PlexSeen)
  pub long : length regions ≡ count_of form.shape
  pub taken : AreTakenRegions numbers form.maps.items form.layouts.items form.shape.geometry.length form.shape.geometry.region regions
  pub hold : HoldRegions contents regions
  pub log : LogSeen
  pub shows : ShowsCopy log copy (count_of form.shape)
  pub opened : opening.IsOpened form.shape log regions volume
  pub whole : IsVolume volume

-- what is fixed of a region is of its plexes, and of the copies of the log
pub record IsFixedOf (s : RegionSeen) (fixed : Fixed) : Type 0 where
  pub held : (k : ℕ) → fixed.held k ≡ holds s.plexes k
  pub copies : fixed.copies ≡ s.log.copies
  pub region : fixed.region ≡ s.region

-- Then each region is opened as its image by the marks of that copy, over whatever candidates.
abbrev pub EachOpenedVolumeIsItsImage : Type 0
EachOpenedVolumeIsItsImage =
    (c : Config) (good : ℕ) (bytes : Sectors) (v : Vol) (form : VolumeForm) (copy : LogCopy) (volume : VolumeSeen) → IsOpenedBy c good bytes v form copy volume →
    (candidates : Candidates) (r : ℕ) → r < length volume.cells →
    (fixed : Fixed) × IsOpened (image_of c good bytes v) copy candidates r (state_of (region_at volume r) fixed [] NoCall (cell_at volume r).number)
    × IsFixedOf (region_at volume r) fixed

-- The image of a volume of a configuration is well formed.
abbrev pub EachImageIsWellFormed : Type 0
EachImageIsWellFormed = (c : Config) (good : ℕ) (bytes : Sectors) (v : Vol) → IsVolOf c v → IsWellFormed (image_of c good bytes v)

-- Over sound bytes, by a copy that counts, each region stands for a history that begins with what is read of the bytes.
abbrev pub EachOpenedVolumeStands : Type 0
EachOpenedVolumeStands =
    (c : Config) (good : ℕ) (bytes : Sectors) (v : Vol) (form : VolumeForm) (copy : LogCopy) (volume : VolumeSeen) → IsOpenedBy c good bytes v form copy volume →
    (candidates : Candidates) → IsSoundImage (image_of c good bytes v) → StandsForCandidates (image_of c good bytes v) candidates → IsFilled v.state → Contains (image_of c good bytes v).copies copy →
    (r : ℕ) → r < length volume.cells →
    (fixed : Fixed) × IsOpened (image_of c good bytes v) copy candidates r (state_of (region_at volume r) fixed [] NoCall (cell_at volume r).number)
    × StandsFor (region_at volume r) fixed [] NoCall
    × IsFixedOf (region_at volume r) fixed
