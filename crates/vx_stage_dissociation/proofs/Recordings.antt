-- A plex that leaves a volume by its record alone: a log plex, or a data plex of a volume that was never started.
use Rattle.std.proofs.Common.{◌≡◌, ◌∙◌, ◌&&◌, not, Bool, true, false, None, Result, refl, sym, ap, subst}
use Rattle.std.specs.Prelude.{is_some}
use Rattle.std.proofs.lemmas.Bool.{false≢true}
use Rattle.vx_piece.specs.Seen.{Seen}
use Rattle.vx_pages.specs.declared.local_piece.LocalPiece.{Ghosts}
use Rattle.vx_config_parts.specs.declared.plex.Plex.{Plex}
use Rattle.vx_config_parts.specs.declared.vol.Vol.{Vol}
use Rattle.vx_state_edits.specs.Edits.{is_new}
use Rattle.vx_lending.specs.Public.{running_at}
use Rattle.vx_stages.specs.Leaving.{ByRecord, is_asked}
use Rattle.vx_stages.specs.Tests.{is_data}
use Rattle.vx_house.specs.declared.house.Imported.{Imported}
use Rattle.vx_house.specs.declared.stop.Stop.{Stop}
use Rattle.vx_stage_changes.specs.declared.planning.NextConfig.{NextConfig}
use Rattle.vx_stage_mirrors.specs.LogEnding.{is_running}
use Rattle.vx_stage_mirrors.specs.Relogging.{RecordEnds}
use Rattle.vx_stage_dissociation.specs.Going.{EachHouseLeaves}
use Rattle.vx_stage_dissociation.specs.Planned.{IsLeavingPlanned}
use Rattle.vx_stage_dissociation.proofs.AskFacts.{has_dco, record_way, rests}
use Rattle.vx_stage_dissociation.proofs.LogSound.{log_leaves, new_leaves}

-- a volume with a DCO that has nothing to be asked was never started
never_started : (dco new : Bool) → (dco && not new) ≡ false → (dco ≡ false → ⊥) → new ≡ true
never_started true true e some = refl
never_started true false e some = absurd (false≢true (sym e))
never_started false new e some = absurd (some refl)

pub recorded_leaves : {P : Type 0} {ghosts : Ghosts P} (see : P → Seen) (v : Vol) (p : Plex) (next : NextConfig) (old new : Imported P ghosts) → IsLeavingPlanned see ByRecord v p next old → (result : Result (Unit {0}) Stop) → RecordEnds see next result old new →
    EachHouseLeaves see ByRecord v p next result old new
recorded_leaves see v p next old new planned result e = by (is_data p.kind) refl
  where
    way : (is_running old v.name ≡ false) × (is_data p.kind ≡ true → is_asked v ≡ false)
    way = record_way (is_data p.kind) (is_running old v.name) v planned.way_is

    absent : running_at old.public v.name ≡ None
    absent = rests see ByRecord old v p next planned way.0

    by : (b : Bool) → is_data p.kind ≡ b → EachHouseLeaves see ByRecord v p next result old new
    by false log = log_leaves see v p next old new log absent result e
    by true of_data = new_leaves see v p next old new (never_started (is_some v.dco) (is_new v.state) (way.1 of_data) (has_dco see ByRecord old v p next planned of_data)) absent result e
