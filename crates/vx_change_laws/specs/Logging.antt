-- A running volume of the world, of one plex, whose log is another one.
use Rattle.std.specs.Prelude.{◌≡◌, ℕ, ◌<◌, true, false, Contains, List, length}
use Rattle.vx_base.specs.Named.{Word}
use Rattle.vx_marks.specs.Log.{LogSeen}
use Rattle.vx_volume.specs.Logging.{ChangesLog, IsAlone, IsNewLogFor, ShowsNothing}
use Rattle.vx_volume.specs.Volume.{IsVolume, VolumeSeen}
use Rattle.vx_moments.specs.World.{OnPlexes, Track, Volume}
use Rattle.vx_moments.specs.Tracks.{TrackOwner}
use Rattle.vx_image.specs.Image.{PlexImage}
use Rattle.vx_volume_laws.specs.Exact.{IsExactVolume}
use Rattle.vx_volume_laws.specs.RunLaws.{OwnersFit}
use Rattle.vx_volume_laws.specs.Running.{RunsAsVolume}
use Rattle.vx_change_laws.specs.Laws.{IsCutIfDead, RunsStill}

-- nothing is missing, surely or perhaps
abbrev pub empty_track : Track
empty_track = record { sure = λ r. false; possible = λ r. false }

-- The volume once it has another log, of which nothing is marked: it lies on these plexes then, nothing is missing on any, and no region
-- is dirty. Its life is as it was.
abbrev pub volume_relogged : (plexes : List Word) → Volume → Volume
volume_relogged plexes w =
    record w {
      lies = OnPlexes plexes;
      dirty = λ r. false;
      tracks = λ name. empty_track;
    }

-- After the log of a volume of one plex was changed for a new one that shows nothing, or for none, it runs as the one that has it.
abbrev pub EachLogChangeRunsOn : Type 0
EachLogChangeRunsOn =
    (map : ℕ) (log : LogSeen) (old new : VolumeSeen) → ChangesLog log old new → IsVolume old → IsAlone map old → IsNewLogFor log old → ShowsNothing log old →
    (plexes later : List PlexImage) (w : Volume) → RunsAsVolume plexes old w → (lies : List Word) → RunsStill plexes later old new w (volume_relogged lies w)

-- The owners of its tracks fit, where all are written to and have number 0.
abbrev pub EachLogChangeFits : Type 0
EachLogChangeFits =
    (log : LogSeen) (old new : VolumeSeen) → ChangesLog log old new →
    (later : List PlexImage) → ((p : PlexImage) → Contains later p → p.map ≡ 0) →
    (owners : Word → TrackOwner) → ((p : PlexImage) → Contains later p → (owners p.name).available ≡ true) → OwnersFit later new owners

-- The new log says exactly what the regions do.
abbrev pub EachLogChangeIsExact : Type 0
EachLogChangeIsExact = (log : LogSeen) (old new : VolumeSeen) → ChangesLog log old new → ShowsNothing log old → IsExactVolume new

-- A region is dead then only where it is cut, if it was so before and the power of the old log is there.
abbrev pub EachLogChangeStaysCut : Type 0
EachLogChangeStaysCut =
    (map : ℕ) (log : LogSeen) (old new : VolumeSeen) → ChangesLog log old new → IsAlone map old → old.log.cut ≡ false →
    (r : ℕ) → r < length old.cells → IsCutIfDead old r → IsCutIfDead new r
