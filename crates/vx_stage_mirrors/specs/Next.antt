-- The next configuration of a group in which a volume of it has new logs, or none any more.
use Rattle.std.specs.Prelude.{◌≡◌, None, List}
use Rattle.vx_base.specs.Named.{Word}
use Rattle.vx_piece.specs.Seen.{Seen}
use Rattle.vx_pages.specs.declared.local_piece.LocalPiece.{Ghosts}
use Rattle.vx_config_parts.specs.declared.object.Object.{Object}
use Rattle.vx_config_parts.specs.declared.plex.Plex.{Plex}
use Rattle.vx_config_parts.specs.declared.state.PlexState.TheVariants as plex_state
use Rattle.vx_config_parts.specs.declared.vol.Vol.{Vol}
use Rattle.vx_objects.specs.declared.config.Config.{Config}
use Rattle.vx_objects.specs.declared.edit.Edit.{Edit}
use Rattle.vx_objects.specs.Applied.{IsEdited}
use Rattle.vx_objects.specs.Config.{objects_of}
use Rattle.vx_image.specs.UsedPlexes.{IsVolOf}
use Rattle.vx_new_volumes.specs.declared.logs.NewLogs.{NewLogs}
use Rattle.vx_new_volumes.specs.Logs.{logs_fault}
use Rattle.vx_stages.specs.Logging.{AreLogsLaid, log_state}
use Rattle.vx_house.specs.declared.house.Imported.{Imported}
use Rattle.vx_stage_volumes.specs.Opening.{good_of}

-- By the next configuration the volume of the name, which was started before, has new logs, that lie as was planned on good disks.
pub record HasLogsNext {P : Type 0} {ghosts : Ghosts P} (see : P → Seen) (name : Word) (next : Config) (g : Imported P ghosts) : Type 0 where
  pub volume : Vol
  pub of : IsVolOf g.config volume
  pub named : volume.name ≡ name
  pub logs : NewLogs
  pub fits : logs_fault (objects_of g.config) volume logs.count logs.region ≡ None
  pub plex : Plex
  pub added : List Object
  pub edits : List Edit
  pub laid : AreLogsLaid g.config (good_of see g) volume logs plex added edits
  pub edited : IsEdited edits g.config next
  pub active : log_state volume.state ≡ plex_state.Active
