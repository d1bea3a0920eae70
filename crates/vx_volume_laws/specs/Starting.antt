-- A volume of the code that is opened over bytes begins to run as a volume of the world.
use Rattle.std.specs.Prelude.{◌≡◌, ℕ, ◌<◌, [], length, Contains}
use Rattle.vx_life.specs.Life.{begun_from}
use Rattle.vx_core.specs.Region.{Fixed}
use Rattle.vx_cell.specs.Plexes.{holds}
use Rattle.vx_volume.specs.Laws.{AreTold}
use Rattle.vx_volume.specs.Volume.{IsVolume, VolumeSeen, cell_at}
use Rattle.vx_moments.specs.World.{Volume}
use Rattle.vx_image.specs.Image.{LogCopy, Image, IsFilled}
use Rattle.vx_moments.specs.Volumes.{StandsForVolume}
use Rattle.vx_volume_laws.specs.Opening.{IsOpened, IsWellFormed}
use Rattle.vx_volume_laws.specs.Running.{RunsAsVolume, state_at}

-- The volume is opened over the image, by the marks of one of its copies: each region is, over the candidates of the volume of the
-- world, no number was drawn, and what is fixed of it is of its plexes and of the copies of the log.
pub record IsOpenedOver (image : Image) (v : VolumeSeen) (w : Volume) : Type 0 where
  pub fixed : ℕ → Fixed
  pub copy : LogCopy
  pub copy_of : Contains image.copies copy
  pub some : 0 < v.length
  pub length_is : v.length ≡ image.length
  pub region_is : v.region ≡ image.region
  pub told : AreTold v
  pub here : (r : ℕ) → r < length v.cells → (fixed r).region ≡ r
  pub number : (r : ℕ) → r < length v.cells → (cell_at v r).number ≡ 0
  pub epoch : (r : ℕ) → r < length v.cells → (cell_at v r).epoch ≡ 0
  pub held : (r k : ℕ) → r < length v.cells → (fixed r).held k ≡ holds (cell_at v r).plexes k
  pub copies : (r : ℕ) → r < length v.cells → (fixed r).copies ≡ v.log.copies
  pub opened : (r : ℕ) → r < length v.cells → IsOpened image copy w.life.candidates r (state_at v fixed [] r)

-- a volume of the world of which nothing has happened, with the length and regions of the image
pub record BeginsOver (image : Image) (w : Volume) : Type 0 where
  pub length_is : w.length ≡ image.length
  pub region_is : w.region ≡ image.region
  pub life : w.life ≡ begun_from w.life.candidates
  pub began : w.dirty_began ≡ w.dirty

-- Opened over bytes that stand for such a volume, it runs as that volume.
abbrev pub EachOpeningRuns : Type 0
EachOpeningRuns =
    (image : Image) (v : VolumeSeen) (w : Volume) → IsVolume v → IsOpenedOver image v w →
    StandsForVolume image w → BeginsOver image w → IsFilled image.state → IsWellFormed image →
    RunsAsVolume image.plexes v w
