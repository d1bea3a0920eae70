-- A running volume of the world that a plex leaves.
use Rattle.std.specs.Prelude.{◌≡◌, ◌≢◌, ℕ, ◌<◌, List, Contains, length}
use Rattle.vx_base.specs.Named.{Word}
use Rattle.vx_image.specs.Image.{PlexImage}
use Rattle.vx_moments.specs.Tracks.{TrackOwner}
use Rattle.vx_moments.specs.World.{OnPlexes, Volume}
use Rattle.vx_volume.specs.Parting.{LosesPlexes}
use Rattle.vx_volume.specs.Switching.{CanSpare, IsSettled, IsTight}
use Rattle.vx_volume.specs.Volume.{IsVolume, VolumeSeen}
use Rattle.vx_volume_laws.specs.Exact.{IsExactVolume}
use Rattle.vx_volume_laws.specs.RunLaws.{OwnersFit}
use Rattle.vx_volume_laws.specs.Running.{RunsAsVolume}
use Rattle.vx_change_laws.specs.Laws.{IsCutIfDead, RunsStill}

-- The volume once a plex has left it: it lies on these plexes then, of data and of its log. Its life, its dirty regions and the tracks of the
-- others are as they were.
abbrev pub volume_parted : (plexes : List Word) → Volume → Volume
volume_parted plexes w = record w { lies = OnPlexes plexes }

-- each of the later plexes is one of the first by its name and map, and not the one of this map
abbrev pub ArePartedBy : (map : ℕ) (plexes later : List PlexImage) → Type 0
ArePartedBy map plexes later =
    (p : PlexImage) → Contains later p → ((q : PlexImage) × Contains plexes q × (q.name ≡ p.name) × (q.map ≡ p.map)) × (p.map ≢ map)

-- each of these plexes is written to now just if it was
abbrev pub OwnersStay : (plexes : List PlexImage) (owners owners' : Word → TrackOwner) → Type 0
OwnersStay plexes owners owners' = (p : PlexImage) → Contains plexes p → (owners' p.name).available ≡ (owners p.name).available

-- After a plex that can be spared has left, where all regions are settled and no mark is loose, a volume runs as the one that it has left,
-- with the plexes that are there then.
abbrev pub EachPartingRunsOn : Type 0
EachPartingRunsOn =
    (map : ℕ) (old new : VolumeSeen) → LosesPlexes map old new → IsVolume old → CanSpare map old → IsSettled old → IsTight old →
    (plexes later : List PlexImage) → ArePartedBy map plexes later → (w : Volume) → RunsAsVolume plexes old w → (lies : List Word) →
    RunsStill plexes later old new w (volume_parted lies w)

-- The owners of its tracks fit, where those of the plexes that are there then are as they were, ..
abbrev pub EachPartingFits : Type 0
EachPartingFits =
    (map : ℕ) (old new : VolumeSeen) → LosesPlexes map old new →
    (plexes later : List PlexImage) → ArePartedBy map plexes later →
    (owners owners' : Word → TrackOwner) → OwnersStay later owners owners' → OwnersFit plexes old owners → OwnersFit later new owners'

-- .. its log stays exact, ..
abbrev pub EachPartingStaysExact : Type 0
EachPartingStaysExact = (map : ℕ) (old new : VolumeSeen) → LosesPlexes map old new → IsExactVolume old → IsExactVolume new

-- .. and where all regions were settled, a region is dead then only where it is cut: none is dead.
abbrev pub EachPartingStaysCut : Type 0
EachPartingStaysCut = (map : ℕ) (old new : VolumeSeen) → LosesPlexes map old new → IsSettled old → (r : ℕ) → r < length old.cells → IsCutIfDead new r
