-- The commit that begins a recovery, on the group.
use Rattle.std.proofs.Common.{◌≡◌, true, Some, Result, Ok, Err}
use Rattle.vx_base.specs.Named.{Word}
use Rattle.vx_pages.specs.declared.local_piece.LocalPiece.{Ghosts}
use Rattle.vx_piece.specs.Seen.{Seen}
use Rattle.vx_config_parts.specs.declared.vol.Vol.{Vol}
use Rattle.vx_answers.specs.declared.answer.End.TheVariants as ends
use Rattle.vx_stages.specs.Tests.{volume_in}
use Rattle.vx_house.specs.declared.house.Imported.{Imported}
use Rattle.vx_house.specs.declared.stop.Stop.{Stop}
use Rattle.vx_house.specs.declared.stop.Stop.TheVariants as stops
use Rattle.vx_recovery.specs.Recovering.{is_recovered}
use Rattle.vx_stage_changes.specs.Changing.{ChangeEnds}
use Rattle.vx_stage_changes.proofs.EditStage.{unplanned_refused}
use Rattle.vx_state_edits.specs.Edits.{recovery_edits}
use Rattle.vx_stage_recovery.specs.Beginning.{BeginEnds, unrefused}

module _ {P : Type 0} {ghosts : Ghosts P} (see : P → Seen) (name : Word) (old : Imported P ghosts) (v : Vol) (found : volume_in name old.config.volumes ≡ Some v) (state : is_recovered v.state ≡ true) where
  pub begins_in : (result : Result (Unit {0}) Stop) (new : Imported P ghosts) → ChangeEnds see (recovery_edits old.config v) result old new → BeginEnds see name (unrefused result) old new
  begins_in (Ok u) new is = record { volume = v; found = found; state = state; ends = is }
  begins_in (Err stops.OutOfMemory) new is = is
  begins_in (Err (stops.Ended ends.GroupLost)) new is = record { volume = v; found = found; state = state; ends = is }
  begins_in (Err (stops.Ended (ends.Lost parts))) new is = record { volume = v; found = found; state = state; ends = is }
  begins_in (Err (stops.Ended (ends.Refused r))) new is = is.0
  begins_in (Err (stops.Ended (ends.Done copied parts blocks))) new is = let r = unplanned_refused (recovery_edits old.config v) old.config (ends.Done copied parts blocks) is.1 in let e = r.1 in cc
  begins_in (Err (stops.Ended (ends.Fault told device parts))) new is = let r = unplanned_refused (recovery_edits old.config v) old.config (ends.Fault told device parts) is.1 in let e = r.1 in cc
  begins_in (Err (stops.Ended ends.ShelfFailed)) new is = let r = unplanned_refused (recovery_edits old.config v) old.config ends.ShelfFailed is.1 in let e = r.1 in cc
