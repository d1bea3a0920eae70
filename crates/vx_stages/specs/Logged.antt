-- How `vxsnap prepare` and `vxsnap unprepare` go in the world and end their commands. A volume that was started gets an empty log before its
-- records are committed; one that runs goes on with that log, or without one, in the same life.
use Rattle.std.specs.Prelude.{◌≡◌, ◌⊎◌, ℕ, ◌<◌, Bool, false, None, Some, MatchBool, MatchOption, Contains, List, [], ◌∷◌, ◌++◌, map}
use Rattle.std.specs.List.{filter}
use Rattle.vx_base.specs.Named.{Word, put}
use Rattle.vx_config_parts.specs.declared.object.Object.{Object}
use Rattle.vx_config_parts.specs.declared.plex.Plex.{Plex}
use Rattle.vx_config_parts.specs.declared.vol.Vol.{Vol}
use Rattle.vx_objects.specs.declared.config.Config.{Config}
use Rattle.vx_objects.specs.declared.edit.Edit.{Edit}
use Rattle.vx_objects.specs.Applied.{IsEdited}
use Rattle.vx_state_edits.specs.Edits.{is_new}
use Rattle.vx_image.specs.Image.{Image, LogCopy, has_no_copy, regions_of}
use Rattle.vx_image.specs.UsedPlexes.{is_used_log}
use Rattle.vx_new_volumes.specs.declared.logs.NewLogs.{NewLogs}
use Rattle.vx_answers.specs.declared.answer.End.{End}
use Rattle.vx_answers.specs.declared.refusal.Refusal.TheVariants as refusal
use Rattle.vx_moments.specs.World.{Group, OnPlexes, Track, Volume, World}
use Rattle.vx_moments.specs.Moment.{AreLater, Moment, Rests}
use Rattle.vx_moments.specs.Commit.{IsCommitted, Writing}
use Rattle.vx_moments.specs.Group.{image_on}
use Rattle.vx_stages.specs.Ends.{EndsIn, IsChange, StopsBy}
use Rattle.vx_stages.specs.Logging.{AreLogsLaid, IsPrepareRefused, IsUnprepareRefused, MayLoseLog, prepare_refusal}
use Rattle.vx_stages.specs.Recorded.{IsSoundAs}
use Rattle.vx_stages.specs.Stopping.{runs_on_plexes}
use Rattle.vx_stages.specs.Tests.{volume_in}
use Rattle.vx_stages.specs.Touching.{IsTouched, PassHasCause}

-- ---- an empty log

-- the group by another configuration
abbrev pub by_config : Config → Group → Group
by_config c g = record g { config = c }

-- Of the image nothing but the copies of the log has changed.
abbrev pub IsSameButLog : Image → Image → Type 0
IsSameButLog old new = new ≡ record old { copies = new.copies }

-- there are copies of the log, and they mark nothing
pub record HasEmptyLog (v : Image) : Type 0 where
  pub some : has_no_copy v ≡ false
  pub nothing : (c : LogCopy) → Contains v.copies c → (r k : ℕ) → r < regions_of v → c r k ≡ false

-- Sectors of the volume alone have changed, as the next configuration records it, and its plexes hold what they held.
pub record IsLogTouched (g : Group) (next : Config) (name : Word) (old new : Moment) : Type 0 where
  pub touched : IsTouched (by_config next g) name old new
  pub kept : (v : Vol) → Contains next.volumes v → v.name ≡ name → IsSameButLog (image_on old.world.devices (by_config next g) v) (image_on new.world.devices (by_config next g) v)

-- So an empty log was written for the volume.
pub record IsLogWritten (g : Group) (next : Config) (name : Word) (old new : Moment) : Type 0 where
  pub log : IsLogTouched g next name old new
  pub written : (v : Vol) → Contains next.volumes v → v.name ≡ name → HasEmptyLog (image_on new.world.devices (by_config next g) v)

-- a volume that was never started needs none yet
abbrev pub WritesLog : Group → Config → Vol → Moment → Moment → Type 0
WritesLog g next v old new = MatchBool (is_new v.state) (new ≡ old) (IsLogWritten g next v.name old new × AreLater old.counts new.counts)

-- ---- the volume that runs

-- the names of the log plexes of a volume that are in use and lie on good disks
abbrev pub log_names : Config → ℕ → Word → List Word
log_names c good vol = map (λ (p : Plex). p.name) (filter (is_used_log c good false vol) c.plexes)

-- nothing is missing, surely or perhaps
abbrev pub empty_track : Track
empty_track = record { sure = λ r. false; possible = λ r. false }

-- The volume once it has another log, of which nothing is marked, or none: it lies on these plexes then, nothing is missing on any, and no
-- region is dirty. Its life is as it was.
abbrev pub volume_relogged : (plexes : List Word) → Volume → Volume
volume_relogged plexes w =
    record w {
      lies = OnPlexes plexes;
      dirty = λ r. false;
      tracks = λ name. empty_track;
    }

-- the running volume of the name is the one with the other log, on plexes that go so from those that it lay on, and all else is the same
pub record IsRelogged (name : Word) (Goes : List Word → List Word → Type 0) (old new : Moment) : Type 0 where
  pub volume : Volume
  pub was : old.world.volumes name ≡ Some volume
  pub plexes : List Word
  pub lies : volume.lies ≡ OnPlexes plexes
  pub later : List Word
  pub goes : Goes plexes later
  pub world : new.world ≡ record old.world { volumes = put name (Some (volume_relogged later volume)) old.world.volumes }
  pub counts : new.counts ≡ old.counts

-- where the volume of the name runs it is relogged so, else nothing changes
abbrev pub RelogsIfRunning : World → Word → (List Word → List Word → Type 0) → Moment → Moment → Type 0
RelogsIfRunning w name Goes old new = MatchBool (runs_on_plexes w name) (IsRelogged name Goes old new) (new ≡ old)

-- ---- `prepare`

-- no test refuses the logs, and they are to be recorded so
pub record AreNewLogs (g : Group) (n : NewLogs) (runs : Bool) (v : Vol) (next : Config) (edits : List Edit) : Type 0 where
  pub found : volume_in n.vol g.config.volumes ≡ Some v
  pub fits : prepare_refusal runs g.config n ≡ None
  pub plex : Plex
  pub added : List Object
  pub laid : AreLogsLaid g.config g.good v n plex added edits
  pub edited : IsEdited edits g.config next

-- Logs are added to the volume of the group: an empty one is written, the records are committed, and where the volume runs it goes on with
-- it, on its plex and the logs.
pub record IsPrepared (n : NewLogs) (old new : Moment) : Type 0 where
  pub group : Group
  pub here : old.world.group ≡ Some group
  pub volume : Vol
  pub next : Config
  pub edits : List Edit
  pub logs : AreNewLogs group n (runs_on_plexes old.world n.vol) volume next edits
  pub written : Moment
  pub writes : WritesLog group next volume old written
  pub writing : Writing
  pub change : IsChange edits written.world writing
  -- with its logs the volume is sound by its bytes
  pub sound : IsSoundAs group writing.config n.vol written.world
  pub recorded : Moment
  pub committed : IsCommitted writing written recorded
  pub rest : AreLater written.counts recorded.counts
  pub runs : RelogsIfRunning old.world n.vol (λ plexes later. later ≡ plexes ++ log_names next group.good n.vol) recorded new

-- the empty log could not be written
pub record StopsUnwritten (g : Group) (n : NewLogs) (old : Moment) (end : End) (new : Moment) : Type 0 where
  pub volume : Vol
  pub next : Config
  pub edits : List Edit
  pub logs : AreNewLogs g n (runs_on_plexes old.world n.vol) volume next edits
  pub started : is_new volume.state ≡ false
  pub log : IsLogTouched g next n.vol old new
  pub cause : PassHasCause (by_config next g) n.vol old.counts new.counts end

-- it was written, if the volume needs it, and the commit of the records is stopped: the volume runs on without the log, if it runs
pub record StopsUnprepared (g : Group) (n : NewLogs) (old : Moment) (end : End) (new : Moment) : Type 0 where
  pub volume : Vol
  pub next : Config
  pub edits : List Edit
  pub logs : AreNewLogs g n (runs_on_plexes old.world n.vol) volume next edits
  pub written : Moment
  pub writes : WritesLog g next volume old written
  pub rest : AreLater written.counts new.counts
  pub stops : StopsBy (IsChange edits written.world) written end new
  -- with its logs the volume is sound by its bytes
  pub sound : IsSoundAs g stops.0.config n.vol written.world

-- how `prepare` ends its command in a group
abbrev pub PrepareStopsIn : Group → NewLogs → Moment → End → Moment → Type 0
PrepareStopsIn g n old end new =
    (IsPrepareRefused (runs_on_plexes old.world n.vol) g n end × Rests old new) ⊎ (StopsUnwritten g n old end new ⊎ StopsUnprepared g n old end new)

abbrev pub PrepareStops : NewLogs → Moment → End → Moment → Type 0
PrepareStops n old end new = MatchOption old.world.group (EndsIn (refusal.NoGroup None) old end new) (λ g. PrepareStopsIn g n old end new)

-- what want of memory leaves of it: the world as it was, or the log touched
abbrev pub PrepareWants : NewLogs → Moment → Moment → Type 0
PrepareWants n old new =
    (new.world ≡ old.world)
    ⊎ ((g : Group) × (v : Vol) × (next : Config) × (edits : List Edit) × (old.world.group ≡ Some g) × AreNewLogs g n (runs_on_plexes old.world n.vol) v next edits
    × (is_new v.state ≡ false) × IsLogTouched g next n.vol old new)

-- ---- `unprepare`

-- The log of the volume of the name is taken away: its records are committed, and where the volume runs it goes on without a log, on its plex
-- alone.
pub record IsUnprepared (name : Word) (old new : Moment) : Type 0 where
  pub group : Group
  pub here : old.world.group ≡ Some group
  pub volume : Vol
  pub plex : Plex
  pub edits : List Edit
  pub loses : MayLoseLog group.config name volume plex edits
  pub writing : Writing
  pub change : IsChange edits old.world writing
  -- without a log the volume is sound by its bytes
  pub sound : IsSoundAs group writing.config name old.world
  pub recorded : Moment
  pub committed : IsCommitted writing old recorded
  pub rest : AreLater old.counts recorded.counts
  pub runs : RelogsIfRunning old.world name (λ plexes later. later ≡ plex.name ∷ []) recorded new

-- the commit of it is stopped: the volume runs on with its log, if it runs
pub record StopsPrepared (g : Group) (name : Word) (old : Moment) (end : End) (new : Moment) : Type 0 where
  pub volume : Vol
  pub plex : Plex
  pub edits : List Edit
  pub loses : MayLoseLog g.config name volume plex edits
  pub rest : AreLater old.counts new.counts
  pub stops : StopsBy (IsChange edits old.world) old end new
  -- without a log the volume is sound by its bytes
  pub sound : IsSoundAs g stops.0.config name old.world

-- how `unprepare` ends its command in a group
abbrev pub UnprepareStopsIn : Group → Word → Moment → End → Moment → Type 0
UnprepareStopsIn g name old end new = (IsUnprepareRefused g name end × Rests old new) ⊎ StopsPrepared g name old end new

abbrev pub UnprepareStops : Word → Moment → End → Moment → Type 0
UnprepareStops name old end new = MatchOption old.world.group (EndsIn (refusal.NoGroup None) old end new) (λ g. UnprepareStopsIn g name old end new)
