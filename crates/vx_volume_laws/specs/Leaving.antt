-- A started volume of the code that is left: the bytes of its regions stand for the volume of the world that it ran as.
use Rattle.std.specs.Prelude.{◌≡◌, ℕ, ◌<◌, if◌then◌else◌, List, length, map, nat_lt, Contains, Ok}
use Rattle.vx_base.specs.Blocks.{Contents}
use Rattle.vx_base.specs.Named.{Word}
use Rattle.vx_core.specs.declared.stage.Phase.TheVariants.{Settled}
use Rattle.vx_volume.specs.Passes.{PassEnds, Settles}
use Rattle.vx_volume.specs.Volume.{IsVolume, VolumeSeen, cell_at}
use Rattle.vx_moments.specs.World.{Volume}
use Rattle.vx_image.specs.Image.{PlexImage, LogCopy, Image, WasStarted, IsFilled}
use Rattle.vx_moments.specs.Volumes.{StandsForVolume}
use Rattle.vx_image.specs.Meaning.{ReadsOneList}
use Rattle.vx_volume_laws.specs.Regions.{LeaveImage}
use Rattle.vx_moments.specs.Tracks.{TrackOwner, unsure}
use Rattle.vx_volume_laws.specs.RunLaws.{OwnersFit}
use Rattle.vx_volume_laws.specs.Running.{IsSureOfOthers, RunsAsVolume, states_of}

-- ---- what is sure

-- A volume that runs also runs with nothing sure of what is written to.
abbrev pub EachRunningForgets : Type 0
EachRunningForgets =
    (plexes : List PlexImage) (v : VolumeSeen) (w : Volume) → RunsAsVolume plexes v w → (owners : Word → TrackOwner) → OwnersFit plexes v owners →
    RunsAsVolume plexes v (unsure owners w) × IsSureOfOthers plexes v (unsure owners w)

-- ---- leaving

-- each of the first plexes is one of the second, by its name and map
abbrev pub AreNamedIn : List PlexImage → List PlexImage → Type 0
AreNamedIn ps qs = (p : PlexImage) → Contains ps p → (q : PlexImage) × Contains qs q × (q.name ≡ p.name) × (q.map ≡ p.map)

-- all regions of the volume are settled
abbrev pub AreSettled : VolumeSeen → Type 0
AreSettled v = (r : ℕ) → r < length v.cells → (cell_at v r).stage.phase ≡ Settled

-- The image with its copies told by the first n regions: behind these they mark what they mark in the first. Of what bytes mark
-- there nothing is known.
abbrev pub told_by : ℕ → Image → Image
told_by n image = record image { copies = map (λ (c : LogCopy) (r : ℕ). c (if nat_lt r n then r else 0)) image.copies }

-- the image is what the regions of the volume leave, and has its plexes, length and regions
pub record IsLeftBy (plexes : List PlexImage) (v : VolumeSeen) (w : Volume) (run : RunsAsVolume plexes v w) (image : Image) : Type 0 where
  pub leave : LeaveImage (states_of v run.fixed w.life.entries) (told_by (length v.cells) image)
  pub plexes_of : AreNamedIn image.plexes plexes
  pub length_is : image.length ≡ v.length
  pub region_is : image.region ≡ v.region
  pub filled : IsFilled image.state

-- At whatever moment no call is under way the bytes that are left stand for the volume, recorded as started; ..
abbrev pub EachLeavingStands : Type 0
EachLeavingStands =
    (plexes : List PlexImage) (v : VolumeSeen) (w : Volume) → IsVolume v → (run : RunsAsVolume plexes v w) → IsSureOfOthers plexes v w →
    (image : Image) → IsLeftBy plexes v w run image → WasStarted image.state →
    StandsForVolume image w

-- .. and where all regions are settled it may be recorded clean, and one list is read from them.
abbrev pub EachStopStands : Type 0
EachStopStands =
    (plexes : List PlexImage) (v : VolumeSeen) (w : Volume) → IsVolume v → (run : RunsAsVolume plexes v w) → IsSureOfOthers plexes v w → AreSettled v →
    (image : Image) → IsLeftBy plexes v w run image →
    StandsForVolume image w × (list : Contents) × ReadsOneList image w.life.candidates list

-- A pass that settles and is done leaves all regions settled.
abbrev pub EachSettlingSettles : Type 0
EachSettlingSettles = (old new : VolumeSeen) (u : Unit {0}) → PassEnds Settles old new (Ok u) → AreSettled new
