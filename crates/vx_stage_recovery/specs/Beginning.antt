-- How the commit that begins a recovery ends, on the group.
use Rattle.std.specs.Prelude.{◌≡◌, true, Some, Result, Err}
use Rattle.vx_base.specs.Named.{Word}
use Rattle.vx_pages.specs.declared.local_piece.LocalPiece.{Ghosts}
use Rattle.vx_piece.specs.Seen.{Seen}
use Rattle.vx_config_parts.specs.declared.vol.Vol.{Vol}
use Rattle.vx_answers.specs.declared.answer.End.TheVariants as ends
use Rattle.vx_stages.specs.Tests.{volume_in}
use Rattle.vx_house.specs.declared.house.Imported.{Imported}
use Rattle.vx_house.specs.declared.stop.Stop.{Stop}
use Rattle.vx_house.specs.declared.stop.Stop.TheVariants as stops
use Rattle.vx_recovery.specs.Recovering.{is_recovered}
use Rattle.vx_stage_volumes.specs.Stopping.{RecordEnds}
use Rattle.vx_state_edits.specs.Edits.{recovery_edits}

-- the result, with want of memory in the place of a refusal
abbrev pub unrefused : Result (Unit {0}) Stop → Result (Unit {0}) Stop
unrefused (Err (stops.Ended (ends.Refused r))) = Err stops.OutOfMemory
unrefused other = other

-- the volume of the name is one that is recovered, and this is what becomes of the commit
pub record BeginsIn {P : Type 0} {ghosts : Ghosts P} (see : P → Seen) (name : Word) (result : Result (Unit {0}) Stop) (old new : Imported P ghosts) : Type 0 where
  pub volume : Vol
  pub found : volume_in name old.config.volumes ≡ Some volume
  pub state : is_recovered volume.state ≡ true
  pub ends : RecordEnds see (recovery_edits old.config volume) result old new

-- the states are committed, or nothing was done for want of memory, or the group or the power is lost
abbrev pub BeginEnds : {P : Type 0} {ghosts : Ghosts P} → (P → Seen) → Word → Result (Unit {0}) Stop → Imported P ghosts → Imported P ghosts → Type 0
BeginEnds see name (Err stops.OutOfMemory) old new = new ≡ old
BeginEnds see name result old new = BeginsIn see name result old new
