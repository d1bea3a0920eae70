-- Stages that are done one after the other.
use Rattle.std.specs.Prelude.{◌≡◌, List, [], ◌++◌, Result, Ok, Err}
use Rattle.vx_pages.specs.declared.local_piece.LocalPiece.{Ghosts}
use Rattle.vx_piece.specs.Seen.{Seen}
use Rattle.vx_copies.specs.Lists.{AllOf}
use Rattle.vx_script_words.specs.declared.value.DiskAt.{DiskAt}
use Rattle.vx_answers.specs.declared.answer.End.{End}
use Rattle.vx_answers.specs.declared.answer.End.TheVariants as ends
use Rattle.vx_answers.specs.declared.answer.View.{View as Shown}
use Rattle.vx_moments.specs.Moment.{Moment, AreLater}
use Rattle.vx_stages.specs.Stages.{Wants}
use Rattle.vx_plans.specs.Steps.{Runs, RunsShort}
use Rattle.vx_stages.specs.declared.stage.Stage.{Stage}
use Rattle.vx_plans.specs.declared.stages.Finish.{Finish}
use Rattle.vx_house.specs.Goes.{Goes, Gives, KeepsBy, StageGoes}
use Rattle.vx_house.specs.Scene.{FaultsGoOn, IsBlamed}
use Rattle.vx_house.specs.View.{View, Keeps, KeepsButGroup, IsMoment, IsMomentButGroup, scene}
use Rattle.vx_house.specs.declared.stop.Stop.{Stop}
use Rattle.vx_house.specs.declared.stop.Stop.TheVariants as stops
use Rattle.vx_run.specs.Fed.{KeepWorld, recent}

-- The moment is reached from another by these stages: what follows them follows all.
pub record IsReached {P : Type 0} {ghosts : Ghosts P} (see : P → Seen) (disks : List DiskAt) (done : List Stage) (now : View P ghosts) (m n : Moment) : Type 0 where
  pub is : IsMoment see now n
  pub later : AreLater m.counts n.counts
  pub kept : KeepWorld done → n.world ≡ m.world
  pub runs : (rest : List Stage) (finish : Finish) (views : List Shown) (end : End) (o : Moment) → Runs disks rest finish n views end o → Runs disks (done ++ rest) finish m views end o
  pub short : (rest : List Stage) (o : Moment) → RunsShort disks rest n o → RunsShort disks (done ++ rest) m o

-- these stages are done, and what the recent ones gave is there
pub record HasRun {P : Type 0} {ghosts : Ghosts P} (see : P → Seen) (disks : List DiskAt) (done : List Stage) (old now : View P ghosts) : Type 0 where
  pub keeps : Keeps see now
  pub empty : done ≡ [] → now.house.hand.items ≡ []
  pub gives : AllOf (λ s. Gives see s disks now.house) (recent done)
  pub goes : (m : Moment) → IsMoment see old m → (n : Moment) × IsReached see disks done now m n
  pub faults : FaultsGoOn (scene see old) (scene see now)

-- where the group or the power is lost, the group of the house says nothing
abbrev pub IsMomentBy : {P : Type 0} {ghosts : Ghosts P} → End → (P → Seen) → View P ghosts → Moment → Type 0
IsMomentBy ends.GroupLost see v m = IsMomentButGroup see v m
IsMomentBy (ends.Lost parts) see v m = IsMomentButGroup see v m
IsMomentBy other see v m = IsMoment see v m

-- The stages end the command so.
pub record IsEnded {P : Type 0} {ghosts : Ghosts P} (see : P → Seen) (disks : List DiskAt) (stages : List Stage) (end : End) (now : View P ghosts) (m n : Moment) : Type 0 where
  pub is : IsMomentBy end see now n
  pub later : AreLater m.counts n.counts
  pub runs : (finish : Finish) → Runs disks stages finish m [] end n

pub record HasEnded {P : Type 0} {ghosts : Ghosts P} (see : P → Seen) (disks : List DiskAt) (stages : List Stage) (end : End) (old now : View P ghosts) : Type 0 where
  pub keeps : KeepsBy {T = Unit {0}} see (Err (stops.Ended end)) now
  pub goes : (m : Moment) → IsMoment see old m → (n : Moment) × IsEnded see disks stages end now m n
  pub faults : FaultsGoOn (scene see old) (scene see now)
  pub blamed : IsBlamed end (scene see old) (scene see now)

-- Memory was wanting, and what was begun is left so. Of the group's devices some may be joined.
pub record HasRested {P : Type 0} {ghosts : Ghosts P} (see : P → Seen) (Left : Moment → Moment → Type 0) (old now : View P ghosts) : Type 0 where
  pub keeps : KeepsButGroup see now
  pub goes : Goes see Left old now
  pub faults : FaultsGoOn (scene see old) (scene see now)

-- what a stage does, by its answer
abbrev pub StageEnds : {P : Type 0} {ghosts : Ghosts P} → (P → Seen) → Stage → List DiskAt → Result (Unit {0}) Stop → View P ghosts → View P ghosts → Type 0
StageEnds see s disks (Ok u) old new = StageGoes {T = Unit {0}} see s disks (Ok u) old new
StageEnds see s disks (Err (stops.Ended end)) old new = StageGoes {T = Unit {0}} see s disks (Err (stops.Ended end)) old new
StageEnds see s disks (Err stops.OutOfMemory) old new = HasRested see (Wants s) old new

-- by the answer: all are done, or the command has ended, or memory was wanting
abbrev pub StagesGo : {P : Type 0} {ghosts : Ghosts P} → (P → Seen) → List DiskAt → List Stage → Result (Unit {0}) Stop → View P ghosts → View P ghosts → Type 0
StagesGo see disks stages (Ok u) old new = HasRun see disks stages old new
StagesGo see disks stages (Err (stops.Ended end)) old new = HasEnded see disks stages end old new
StagesGo see disks stages (Err stops.OutOfMemory) old new = HasRested see (RunsShort disks stages) old new
