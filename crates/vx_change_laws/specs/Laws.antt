-- What is done to a started volume of the code between calls, and what it does to the volume of the world that it runs as.
use Rattle.std.specs.Prelude.{◌≡◌, ℕ, ◌<◌, Bool, List, [], length, OnErr, Result}
use Rattle.vx_base.specs.Named.{Word}
use Rattle.vx_core.specs.declared.stage.Phase.TheVariants.{Dead}
use Rattle.vx_marks.specs.declared.marker.MarkFault.{MarkFault}
use Rattle.vx_pages.specs.Items.{item_at}
use Rattle.vx_piece.specs.Seen.{Seen}
use Rattle.vx_runs.specs.Run.{RunTells}
use Rattle.vx_cell.specs.Region.{IsCut}
use Rattle.vx_volume.specs.Changing.{IsFreeIn, IsKnownMap, IsPlexFor, PutsPlex, SetsMap}
use Rattle.vx_volume.specs.Laws.{AreTold}
use Rattle.vx_volume.specs.Volume.{IsVolume, VolumeSeen, cell_at, region_at}
use Rattle.vx_moments.specs.World.{Volume}
use Rattle.vx_image.specs.Image.{PlexImage}
use Rattle.vx_moments.specs.Tracks.{TrackOwner, volume_failed}
use Rattle.vx_volume_laws.specs.Calls.{KeepsPlaces}
use Rattle.vx_volume_laws.specs.Exact.{IsExactVolume, LogIsWell}
use Rattle.vx_volume_laws.specs.RunLaws.{OwnersFit}
use Rattle.vx_volume_laws.specs.Running.{IsSureOfOthers, RunsAsVolume}
use Rattle.vx_change_laws.specs.Joining.{AreJoinedBy, IsMapOfNone, IsNameOfNone, OwnersJoined, volume_joined}

-- the volume of the code runs as this one of the world, and nothing is sure of plexes that are written to, where it was so before
pub record RunsStill (plexes later : List PlexImage) (old new : VolumeSeen) (w now : Volume) : Type 0 where
  pub runs : RunsAsVolume later new now
  pub sure : IsSureOfOthers plexes old w → IsSureOfOthers later new now

-- where the region is dead, a piece of it or of the log is cut
abbrev pub IsCutIfDead : VolumeSeen → ℕ → Type 0
IsCutIfDead v r = (cell_at v r).stage.phase ≡ Dead → IsCut (region_at v r)

-- ---- failures

-- A volume that runs also runs as one of which some devices have failed too.
abbrev pub EachFailureIsNoted : Type 0
EachFailureIsNoted =
    (plexes : List PlexImage) (v : VolumeSeen) (w : Volume) → RunsAsVolume plexes v w →
    (owners : Word → TrackOwner) (failed : Word → Bool) → RunsStill plexes plexes v v w (volume_failed owners failed w)

-- ---- a free map

-- A map that is free in a volume is that of none of its plexes, where their owners fit.
abbrev pub EachFreeMapIsNew : Type 0
EachFreeMapIsNew =
    (map : ℕ) (v : VolumeSeen) → IsVolume v → IsFreeIn map v →
    (plexes : List PlexImage) (w : Volume) → RunsAsVolume plexes v w → (owners : Word → TrackOwner) → OwnersFit plexes v owners → IsMapOfNone map plexes

-- ---- a map is set

-- After the bits of a free map were set in the log, or failed to be, a volume runs as the same one.
abbrev pub EachSettingIsQuiet : Type 0
EachSettingIsQuiet =
    (map : ℕ) (bits : ℕ → Bool) (result : Result (Unit {0}) MarkFault) (old new : VolumeSeen) → SetsMap map bits result old new →
    IsVolume old → IsFreeIn map old → OnErr result (IsKnownMap map old) →
    (plexes : List PlexImage) → IsMapOfNone map plexes → (w : Volume) → RunsAsVolume plexes old w →
    RunsStill plexes plexes old new w w

-- It runs so as the one whose devices have failed too, as after a pass.
abbrev pub EachSettingRunsOn : Type 0
EachSettingRunsOn =
    (map : ℕ) (bits : ℕ → Bool) (result : Result (Unit {0}) MarkFault) (old new : VolumeSeen) → SetsMap map bits result old new →
    IsVolume old → IsFreeIn map old → OnErr result (IsKnownMap map old) →
    (plexes : List PlexImage) (w : Volume) → RunsAsVolume plexes old w →
    (owners : Word → TrackOwner) (failed : Word → Bool) → OwnersFit plexes old owners →
    RunsStill plexes plexes old new w (volume_failed owners failed w)

-- The owners of its tracks fit as they did.
abbrev pub EachSettingFits : Type 0
EachSettingFits =
    (map : ℕ) (bits : ℕ → Bool) (result : Result (Unit {0}) MarkFault) (old new : VolumeSeen) → SetsMap map bits result old new →
    (plexes : List PlexImage) (owners : Word → TrackOwner) → OwnersFit plexes old owners → OwnersFit plexes new owners

-- Its log stays exact where no call on it failed.
abbrev pub EachSettingStaysExact : Type 0
EachSettingStaysExact =
    (map : ℕ) (bits : ℕ → Bool) (result : Result (Unit {0}) MarkFault) (old new : VolumeSeen) → SetsMap map bits result old new →
    IsVolume old → IsFreeIn map old → AreTold old → LogIsWell old new → IsExactVolume old → IsExactVolume new

-- The map stays free, ..
abbrev pub EachSettingLeavesFree : Type 0
EachSettingLeavesFree =
    (map : ℕ) (bits : ℕ → Bool) (result : Result (Unit {0}) MarkFault) (old new : VolumeSeen) → SetsMap map bits result old new → IsFreeIn map old → IsFreeIn map new

-- .. the volume keeps its places, ..
abbrev pub EachSettingKeepsPlaces : Type 0
EachSettingKeepsPlaces =
    (map : ℕ) (bits : ℕ → Bool) (result : Result (Unit {0}) MarkFault) (old new : VolumeSeen) → SetsMap map bits result old new → KeepsPlaces old new

-- .. and a region is dead then only where it is cut, if it was so before.
abbrev pub EachSettingStaysCut : Type 0
EachSettingStaysCut =
    (map : ℕ) (bits : ℕ → Bool) (result : Result (Unit {0}) MarkFault) (old new : VolumeSeen) → SetsMap map bits result old new →
    (r : ℕ) → r < length old.cells → IsCutIfDead old r → IsCutIfDead new r

-- ---- a plex joins

-- After a plex of a new name, with a free map that marks it everywhere, was put in, a volume runs as the one which the plex has
-- joined, with the plexes that are there then.
abbrev pub EachJoiningRunsOn : Type 0
EachJoiningRunsOn =
    (map : ℕ) (runs : List (List Seen)) (old new : VolumeSeen) → PutsPlex map runs old new →
    IsVolume old → IsFreeIn map old → IsPlexFor map runs old → ((r : ℕ) → r < length old.cells → RunTells (item_at [] runs r)) →
    (plexes later : List PlexImage) (name : Word) → IsMapOfNone map plexes → IsNameOfNone name plexes → AreJoinedBy name map plexes later →
    (w : Volume) → RunsAsVolume plexes old w → (lies : List Word) →
    RunsStill plexes later old new w (volume_joined lies name w)

-- The owners of its tracks fit, where the new one is written to and the others are as they were.
abbrev pub EachJoiningFits : Type 0
EachJoiningFits =
    (map : ℕ) (runs : List (List Seen)) (old new : VolumeSeen) → PutsPlex map runs old new → IsFreeIn map old →
    (plexes later : List PlexImage) (name : Word) → IsMapOfNone map plexes → AreJoinedBy name map plexes later →
    (owners owners' : Word → TrackOwner) → OwnersJoined name plexes owners owners' → OwnersFit plexes old owners → OwnersFit later new owners'

-- Its log stays exact.
abbrev pub EachJoiningStaysExact : Type 0
EachJoiningStaysExact = (map : ℕ) (runs : List (List Seen)) (old new : VolumeSeen) → PutsPlex map runs old new → IsExactVolume old → IsExactVolume new

-- A region is dead then only where it is cut, if it was so before.
abbrev pub EachJoiningStaysCut : Type 0
EachJoiningStaysCut =
    (map : ℕ) (runs : List (List Seen)) (old new : VolumeSeen) → PutsPlex map runs old new → (r : ℕ) → r < length old.cells → IsCutIfDead old r → IsCutIfDead new r
