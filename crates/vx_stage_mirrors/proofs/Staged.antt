-- A mirror that goes so goes as a stage.
use Rattle.std.proofs.Common.{List, Result, Ok, Err}
use Rattle.vx_pages.specs.declared.local_piece.LocalPiece.{Ghosts}
use Rattle.vx_piece.specs.Seen.{Seen}
use Rattle.vx_script_words.specs.declared.value.DiskAt.{DiskAt}
use Rattle.vx_new_volumes.specs.declared.mirror.NewPlex.{NewPlex}
use Rattle.vx_stages.specs.declared.stage.Stage.TheVariants as stage
use Rattle.vx_house.specs.Goes.{StageGoes}
use Rattle.vx_house.specs.View.{View}
use Rattle.vx_house.specs.declared.stop.Stop.{Stop}
use Rattle.vx_stage_mirrors.specs.Going.{MirrorGoes}

pub as_stage : {P : Type 0} {ghosts : Ghosts P} (see : P → Seen) (new : NewPlex) (disks : List DiskAt) (result : Result (Unit {0}) Stop) (old now : View P ghosts) → MirrorGoes see new.vol new.disks result old now →
    StageGoes see (stage.Mirror new) disks result old now
as_stage see new disks (Ok u) old now is = record { keeps = is.keeps; goes = is.goes; gives = tt; still = λ e. cc; faults = is.faults; blamed = is.blamed }
as_stage see new disks (Err stop) old now is = record { keeps = is.keeps; goes = is.goes; gives = tt; still = λ e. tt; faults = is.faults; blamed = is.blamed }
