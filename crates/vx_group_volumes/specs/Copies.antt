-- What copies to plexes that are done leave of a volume: those plexes miss nothing.
use Rattle.std.specs.Prelude.{◌≡◌, ℕ, ◌<◌, Bool, true, false, List, length, Contains, Ok}
use Rattle.vx_base.specs.Named.{Word}
use Rattle.vx_mask.specs.Mask.{has}
use Rattle.vx_core.specs.declared.stage.Phase.TheVariants.{Settled}
use Rattle.vx_core.specs.declared.stage.Stage.{Stage}
use Rattle.vx_cell.specs.Region.{marks_or}
use Rattle.vx_moments.specs.World.{Volume}
use Rattle.vx_image.specs.Image.{PlexImage}
use Rattle.vx_volume.specs.Laws.{AreTold}
use Rattle.vx_volume.specs.Volume.{IsVolume, VolumeSeen, cell_at}
use Rattle.vx_moments.specs.Lives.{volume_copied}
use Rattle.vx_group_start.specs.Copying.{AreCopied}
use Rattle.vx_volume_laws.specs.Exact.{LogIsWell}
use Rattle.vx_volume_laws.specs.Running.{IsSureOfOthers, RunsAsVolume}

-- ---- marks

-- the region is settled, and has no mark of the map
pub record IsUnmarkedAt (s : Stage) (k : ℕ) : Type 0 where
  pub settled : s.phase ≡ Settled
  pub unmarked : has s.bits k ≡ false

-- so it is in each region with each plex of the mask that is on
abbrev pub AreUnmarked : ℕ → VolumeSeen → Type 0
AreUnmarked mask v = (r k : ℕ) → r < length v.cells → k < 64 → has mask k ≡ true → has (cell_at v r).stage.on k ≡ true → IsUnmarkedAt (cell_at v r).stage k

-- Copies to the plexes of a mask that are done leave these unmarked.
abbrev pub EachCopyUnmarks : Type 0
EachCopyUnmarks = (mask n : ℕ) (old new : VolumeSeen) → AreCopied {T = ℕ} mask old new (Ok n) → AreUnmarked mask new

-- No mark is loose: no copy of the log, where it tells what it holds, may show one that the region has not.
abbrev pub AreTight : VolumeSeen → Type 0
AreTight v = (r k : ℕ) → r < length v.cells → (marks_or v.log.told r).loose k ≡ false

-- Where meanwhile no call on the log failed, they leave no mark loose if none was.
abbrev pub EachCopyStaysTight : Type 0
EachCopyStaysTight =
    (mask n : ℕ) (old new : VolumeSeen) → AreCopied {T = ℕ} mask old new (Ok n) → IsVolume old → AreTold old → LogIsWell old new → AreTight old → AreTight new

-- ---- the volume of the world

-- each plex of these names has a map of the mask, and is on in each region
pub record IsOnIn (mask : ℕ) (v : VolumeSeen) (p : PlexImage) : Type 0 where
  pub low : p.map < 64
  pub in_mask : has mask p.map ≡ true
  pub on : (r : ℕ) → r < length v.cells → has (cell_at v r).stage.on p.map ≡ true

abbrev pub AreOnIn : ℕ → VolumeSeen → List PlexImage → (Word → Bool) → Type 0
AreOnIn mask v plexes copied = (p : PlexImage) → Contains plexes p → copied p.name ≡ true → IsOnIn mask v p

-- the volume runs as this one of the world, of which nothing is sure of plexes that are written to if nothing was of the other
pub record RunsLike (plexes : List PlexImage) (v : VolumeSeen) (w w' : Volume) : Type 0 where
  pub runs : RunsAsVolume plexes v w'
  pub sure : IsSureOfOthers plexes v w → IsSureOfOthers plexes v w'

-- A volume that runs without a loose mark runs also as one of which nothing is missing on unmarked plexes, ..
abbrev pub EachUnmarkedMissesNothing : Type 0
EachUnmarkedMissesNothing =
    (mask : ℕ) (v : VolumeSeen) → IsVolume v → AreUnmarked mask v → AreTight v →
    (plexes : List PlexImage) (w : Volume) → RunsAsVolume plexes v w →
    (copied : Word → Bool) → AreOnIn mask v plexes copied → RunsLike plexes v w (volume_copied copied w)

-- .. so does one of which plexes were copied to, where no mark was loose before and no call on the log failed meanwhile.
abbrev pub EachCopyMissesNothing : Type 0
EachCopyMissesNothing =
    (mask n : ℕ) (old new : VolumeSeen) → AreCopied {T = ℕ} mask old new (Ok n) → IsVolume old → IsVolume new → AreTold old → LogIsWell old new → AreTight old →
    (plexes : List PlexImage) (w : Volume) → RunsAsVolume plexes new w →
    (copied : Word → Bool) → AreOnIn mask new plexes copied → RunsLike plexes new w (volume_copied copied w)
