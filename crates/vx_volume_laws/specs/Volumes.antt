-- A started volume of the world: when its regions stand for it, and that its bytes do then.
use Rattle.std.specs.Prelude.{◌≡◌, ◌⊎◌, ℕ, ◌<◌, true, List, Contains}
use Rattle.vx_core.specs.declared.stage.Phase.TheVariants.{Settled}
use Rattle.vx_core_laws.specs.Course.{IsKeptState}
use Rattle.vx_moments.specs.World.{Volume}
use Rattle.vx_image.specs.Image.{PlexImage, Image, WasStarted, IsFilled}
use Rattle.vx_moments.specs.Volumes.{StandsForVolume}
use Rattle.vx_volume_laws.specs.Regions.{Regions, LeaveImage, IsLifeOf, GoWith}

-- Each region is kept for its history, the life and the tracks of these plexes go with the regions, and where a copy shows a
-- region dirty it is one of the volume's dirty ones.
pub record RunsAs (plexes : List PlexImage) (regions : Regions) (v : Volume) : Type 0 where
  pub kept : (r : ℕ) → IsKeptState (regions r)
  pub life : IsLifeOf v.length v.region v.life regions
  pub tracks : (p : PlexImage) → Contains plexes p → GoWith regions p.map (v.tracks p.name).sure (v.tracks p.name).possible
  pub dirty : (r n : ℕ) → n < (regions r).around.fixed.copies → (regions r).around.disks.marks.shows n 30 ≡ true → v.dirty r ≡ true

-- At whatever moment the regions are left, the bytes stand for the volume.
abbrev pub EachVolumeIsLeft : Type 0
EachVolumeIsLeft =
    (image : Image) (regions : Regions) (v : Volume) →
    RunsAs image.plexes regions v → LeaveImage regions image → image.length ≡ v.length → image.region ≡ v.region → IsFilled image.state →
    ((r : ℕ) → WasStarted image.state ⊎ ((regions r).stage.phase ≡ Settled)) →
    StandsForVolume image v
