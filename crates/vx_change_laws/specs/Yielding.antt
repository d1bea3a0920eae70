-- A running volume of the world whose log gives up one of its two copies.
use Rattle.std.specs.Prelude.{◌≡◌, ℕ, ◌<◌, List, length}
use Rattle.vx_base.specs.Named.{Word}
use Rattle.vx_core.specs.declared.stage.Phase.TheVariants.{Dead}
use Rattle.vx_volume.specs.Laws.{AreTold}
use Rattle.vx_volume.specs.Volume.{VolumeSeen, cell_at}
use Rattle.vx_volume.specs.Yielding.{YieldsCopy}
use Rattle.vx_moments.specs.World.{OnPlexes, Volume}
use Rattle.vx_moments.specs.Tracks.{TrackOwner}
use Rattle.vx_image.specs.Image.{PlexImage}
use Rattle.vx_volume_laws.specs.Calls.{KeepsPlaces}
use Rattle.vx_volume_laws.specs.Exact.{IsExactVolume}
use Rattle.vx_volume_laws.specs.RunLaws.{OwnersFit}
use Rattle.vx_volume_laws.specs.Running.{RunsAsVolume}
use Rattle.vx_change_laws.specs.Laws.{IsCutIfDead, RunsStill}

-- After the log of a volume gave up a copy, it runs as the same one, ..
abbrev pub EachCopyGivenUpRunsOn : Type 0
EachCopyGivenUpRunsOn =
    (copy : ℕ) (old new : VolumeSeen) → YieldsCopy copy old new →
    (plexes : List PlexImage) (w : Volume) → RunsAsVolume plexes old w → RunsStill plexes plexes old new w w

-- .. and as the one that lies on these plexes, of data and of its log.
abbrev pub volume_on : List Word → Volume → Volume
volume_on lies w = record w { lies = OnPlexes lies }

abbrev pub EachCopyGivenUpRunsElsewhere : Type 0
EachCopyGivenUpRunsElsewhere =
    (copy : ℕ) (old new : VolumeSeen) → YieldsCopy copy old new →
    (plexes : List PlexImage) (w : Volume) → RunsAsVolume plexes old w → (lies : List Word) → RunsStill plexes plexes old new w (volume_on lies w)

-- The owners of its tracks fit as they did, ..
abbrev pub EachCopyGivenUpFits : Type 0
EachCopyGivenUpFits =
    (copy : ℕ) (old new : VolumeSeen) → YieldsCopy copy old new →
    (plexes : List PlexImage) (owners : Word → TrackOwner) → OwnersFit plexes old owners → OwnersFit plexes new owners

-- .. its log stays exact, ..
abbrev pub EachCopyGivenUpStaysExact : Type 0
EachCopyGivenUpStaysExact = (copy : ℕ) (old new : VolumeSeen) → YieldsCopy copy old new → AreTold old → IsExactVolume old → IsExactVolume new

-- .. it keeps its places, ..
abbrev pub EachCopyGivenUpKeepsPlaces : Type 0
EachCopyGivenUpKeepsPlaces = (copy : ℕ) (old new : VolumeSeen) → YieldsCopy copy old new → KeepsPlaces old new

-- .. and a region that was not dead is not. The cut piece of one that was may have been of the copy that went.
abbrev pub EachCopyGivenUpStaysCut : Type 0
EachCopyGivenUpStaysCut =
    (copy : ℕ) (old new : VolumeSeen) → YieldsCopy copy old new → (r : ℕ) → r < length old.cells → ((cell_at old r).stage.phase ≡ Dead → ⊥) → IsCutIfDead new r
