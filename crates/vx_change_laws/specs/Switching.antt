-- A running volume of the world whose log is made firm, or of which a plex goes on or off.
use Rattle.std.specs.Prelude.{◌≡◌, ◌≢◌, ℕ, ◌<◌, Bool, true, false, if◌then◌else◌, List, Contains, length, Result}
use Rattle.std.specs.Str.{bytes_eq}
use Rattle.vx_base.specs.Named.{Word}
use Rattle.vx_marks.specs.declared.marker.MarkFault.{MarkFault}
use Rattle.vx_volume.specs.Laws.{AreTold}
use Rattle.vx_volume.specs.Switching.{CanSpare, Firms, HasPlex, IsSettled, IsTight, Switches}
use Rattle.vx_volume.specs.Volume.{IsVolume, VolumeSeen}
use Rattle.vx_moments.specs.World.{Track, Volume}
use Rattle.vx_moments.specs.Tracks.{TrackOwner}
use Rattle.vx_image.specs.Image.{PlexImage}
use Rattle.vx_volume_laws.specs.Calls.{KeepsPlaces}
use Rattle.vx_volume_laws.specs.Exact.{IsExactVolume}
use Rattle.vx_volume_laws.specs.RunLaws.{OwnersFit}
use Rattle.vx_volume_laws.specs.Running.{IsSureOfOthers, RunsAsVolume}
use Rattle.vx_change_laws.specs.Laws.{IsCutIfDead, RunsStill}

-- ---- the log is made firm

-- After what was left open on the log was written again, or that failed, a volume runs as the same one.
abbrev pub EachFirmingRunsOn : Type 0
EachFirmingRunsOn =
    (result : Result (Unit {0}) MarkFault) (old new : VolumeSeen) → Firms result old new → IsVolume old →
    (plexes : List PlexImage) (w : Volume) → RunsAsVolume plexes old w → RunsStill plexes plexes old new w w

-- The owners of its tracks fit as they did, ..
abbrev pub EachFirmingFits : Type 0
EachFirmingFits =
    (result : Result (Unit {0}) MarkFault) (old new : VolumeSeen) → Firms result old new →
    (plexes : List PlexImage) (owners : Word → TrackOwner) → OwnersFit plexes old owners → OwnersFit plexes new owners

-- .. its log stays exact, ..
abbrev pub EachFirmingStaysExact : Type 0
EachFirmingStaysExact = (result : Result (Unit {0}) MarkFault) (old new : VolumeSeen) → Firms result old new → AreTold old → IsExactVolume old → IsExactVolume new

-- .. it keeps its places, ..
abbrev pub EachFirmingKeepsPlaces : Type 0
EachFirmingKeepsPlaces = (result : Result (Unit {0}) MarkFault) (old new : VolumeSeen) → Firms result old new → KeepsPlaces old new

-- .. and a region is dead then only where it is cut, if it was so before.
abbrev pub EachFirmingStaysCut : Type 0
EachFirmingStaysCut =
    (result : Result (Unit {0}) MarkFault) (old new : VolumeSeen) → Firms result old new → (r : ℕ) → r < length old.cells → IsCutIfDead old r → IsCutIfDead new r

-- ---- a plex goes off

-- After a plex that can be spared went off, where all regions are settled and no mark is loose, a volume runs as the same one, of which
-- something may be sure now of that plex too.
abbrev pub EachPlexOffRunsOn : Type 0
EachPlexOffRunsOn =
    (map : ℕ) (old new : VolumeSeen) → Switches map false old new → IsVolume old → HasPlex map old → CanSpare map old → IsSettled old → IsTight old →
    (plexes : List PlexImage) (w : Volume) → RunsAsVolume plexes old w → IsSureOfOthers plexes old w → RunsStill plexes plexes old new w w

-- ---- a plex goes on

-- nothing is sure of the plex of this name
abbrev pub unsure : Word → (Word → Track) → Word → Track
unsure name tracks other = if bytes_eq name other then record (tracks other) { sure = λ r. false } else tracks other

abbrev pub volume_unsure : Word → Volume → Volume
volume_unsure name w = record w { tracks = unsure name w.tracks }

-- the plexes of this map have this name, and no other plex has it
abbrev pub IsNamed : ℕ → Word → List PlexImage → Type 0
IsNamed map name plexes = (p : PlexImage) → Contains plexes p → (p.map ≡ map → p.name ≡ name) × (p.name ≡ name → p.map ≡ map)

-- After a plex went on, a volume runs as the one in which nothing is sure of that plex.
abbrev pub EachPlexOnRunsOn : Type 0
EachPlexOnRunsOn =
    (map : ℕ) (old new : VolumeSeen) → Switches map true old new → IsVolume old → HasPlex map old →
    (plexes : List PlexImage) (name : Word) → IsNamed map name plexes → (w : Volume) → RunsAsVolume plexes old w → RunsStill plexes plexes old new w (volume_unsure name w)

-- ---- both

-- the plex of the map is written to now or not, and of the others it is as it was
abbrev pub AreSwitched : (map : ℕ) (on : Bool) (plexes : List PlexImage) (owners owners' : Word → TrackOwner) → Type 0
AreSwitched map on plexes owners owners' =
    (p : PlexImage) → Contains plexes p → (p.map ≡ map → (owners' p.name).available ≡ on) × (p.map ≢ map → (owners' p.name).available ≡ (owners p.name).available)

-- The owners of tracks fit then, ..
abbrev pub EachSwitchFits : Type 0
EachSwitchFits =
    (map : ℕ) (on : Bool) (old new : VolumeSeen) → Switches map on old new → IsVolume old → HasPlex map old →
    (plexes : List PlexImage) (owners owners' : Word → TrackOwner) → AreSwitched map on plexes owners owners' → OwnersFit plexes old owners → OwnersFit plexes new owners'

-- .. the log stays exact, ..
abbrev pub EachSwitchStaysExact : Type 0
EachSwitchStaysExact = (map : ℕ) (on : Bool) (old new : VolumeSeen) → Switches map on old new → IsExactVolume old → IsExactVolume new

-- .. and a region is dead then only where it is cut, if it was so before.
abbrev pub EachSwitchStaysCut : Type 0
EachSwitchStaysCut =
    (map : ℕ) (on : Bool) (old new : VolumeSeen) → Switches map on old new → (r : ℕ) → r < length old.cells → IsCutIfDead old r → IsCutIfDead new r
