-- How a plex that is put into use ends the command, on its group.
use Rattle.std.specs.Prelude.{◌≡◌, ◌⊎◌, true, Err}
use Rattle.vx_base.specs.Named.{Word}
use Rattle.vx_mask.specs.Mask.{only}
use Rattle.vx_piece.specs.Seen.{Seen}
use Rattle.vx_pages.specs.declared.local_piece.LocalPiece.{Ghosts}
use Rattle.vx_config_parts.specs.declared.plex.Plex.{Plex}
use Rattle.vx_config_parts.specs.declared.state.PlexState.TheVariants as plex_state
use Rattle.vx_config_parts.specs.declared.vol.Vol.{Vol}
use Rattle.vx_image.specs.Bytes.{map_or_zero}
use Rattle.vx_stages.specs.Plexes.{IsAttachRefused, MayAttach, state_edits}
use Rattle.vx_house.specs.declared.house.Imported.{Imported}
use Rattle.vx_house.specs.declared.stop.Stop.{Stop}
use Rattle.vx_stage_changes.specs.Planning.{IsPlanned}
use Rattle.vx_stage_changes.specs.declared.planning.NextConfig.{NextConfig}
use Rattle.vx_stage_volumes.specs.Opening.{good_of}
use Rattle.vx_stage_mirrors.specs.Copying.{CopiesIn}
use Rattle.vx_stage_mirrors.specs.Ending.{seen_group}
use Rattle.vx_stage_mirrors.specs.LogEnding.{is_running}
use Rattle.vx_stage_mirrors.specs.Planned.{EndsAs}
use Rattle.vx_stage_mirrors.specs.Relogging.{RecordEnds}
use Rattle.vx_stage_mirrors.specs.Switching.{SwitchesIn}

-- no test refuses that the plex is put into use in the volume, and that is to be recorded
pub record IsPlannedAttach {P : Type 0} {ghosts : Ghosts P} (see : P → Seen) (vol name : Word) (v : Vol) (p : Plex) (next : NextConfig) (g : Imported P ghosts) : Type 0 where
  pub may : MayAttach (is_running g vol) g.config (good_of see g) vol name v p
  pub planned : IsPlanned (state_edits v.name p plex_state.Active) g.config next

-- the plex is on, and was copied to
pub record EndsAttached {P : Type 0} {ghosts : Ghosts P} (see : P → Seen) (vol : Word) (p : Plex) (next : NextConfig) (stop : Stop) (old new : Imported P ghosts) : Type 0 where
  pub switched : Imported P ghosts
  pub switches : SwitchesIn see vol (map_or_zero p.map) true next old switched
  pub copies : CopiesIn see vol (only (map_or_zero p.map)) stop switched new

-- it is planned, and then the commit is not done, or the plex is on
pub record EndsPlannedAttach {P : Type 0} {ghosts : Ghosts P} (see : P → Seen) (vol name : Word) (stop : Stop) (old new : Imported P ghosts) : Type 0 where
  pub volume : Vol
  pub plex : Plex
  pub next : NextConfig
  pub planned : IsPlannedAttach see vol name volume plex next old
  pub ends : RecordEnds see next (Err stop) old new ⊎ EndsAttached see vol plex next stop old new

-- it is refused before anything is touched, or memory was wanting then; or it was planned
abbrev pub IsAttachEnd : {P : Type 0} {ghosts : Ghosts P} → (P → Seen) → (vol name : Word) → Stop → Imported P ghosts → Imported P ghosts → Type 0
IsAttachEnd see vol name stop old new =
    ((new ≡ old) × EndsAs (IsAttachRefused (is_running old vol) (seen_group see old) vol name) stop) ⊎ EndsPlannedAttach see vol name stop old new
