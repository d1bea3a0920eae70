-- What regions that were taken are good for.
use Rattle.std.specs.Prelude.{◌≡◌, ℕ, true, List, length}
use Rattle.vx_mask.specs.Mask.{has}
use Rattle.vx_core.specs.Soundness.{IsDataIn}
use Rattle.vx_marks.specs.Log.{LogSeen}
use Rattle.vx_layout.specs.declared.layout.Layout.{Layout}
use Rattle.vx_cell.specs.Plexes.{PlexSeen}
use Rattle.vx_volume.specs.declared.volume.VolumeShape.{VolumeShape}
use Rattle.vx_volume.specs.Opening.{AreOpenable, AreVolumeMasks, count_of}
use Rattle.vx_lending.specs.RegionsTaken.{AreTakenRegions, is_among}

-- the maps are those of the plexes that the volume has: all that are on are there, and each is on or off
pub record AreMapsOf (shape : VolumeShape) (maps : List ℕ) : Type 0 where
  pub on : (k : ℕ) → has shape.on k ≡ true → is_among k maps ≡ true
  pub known : (k : ℕ) → is_among k maps ≡ true → IsDataIn shape.on shape.off k

-- A volume of these maps may be opened over regions that were taken with them.
abbrev pub TakenRegionsMayBeOpened : Type 0
TakenRegionsMayBeOpened =
    (shape : VolumeShape) (log : LogSeen) (numbers maps : List ℕ) (layouts : List Layout) (regions : List (List PlexSeen)) →
    AreVolumeMasks shape log → AreMapsOf shape maps → length regions ≡ count_of shape →
    AreTakenRegions numbers maps layouts shape.geometry.length shape.geometry.region regions → AreOpenable shape log regions
