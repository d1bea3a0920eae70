-- The table keeps what is kept, and the result is the table's.
use Rattle.std.proofs.Common.{subst, sym}
use Rattle.vx_core.specs.declared.stage.Act.{Act}
use Rattle.vx_core.specs.declared.stage.Stage.{Stage}
use Rattle.vx_core.specs.Causes.{CausesFrom}
use Rattle.vx_core.specs.Follow.{AsksPossible, FailsFrom, FollowsFrom, ReadsFrom}
use Rattle.vx_core.specs.Progress.{KeepsForm}
use Rattle.vx_core.specs.Table.{NamesAct}
use Rattle.vx_core.proofs.CauseLaws.{causes}
use Rattle.vx_core.proofs.FailLaws.{fails}
use Rattle.vx_core.proofs.FollowLaws.{follows}
use Rattle.vx_core.proofs.FormLaws.{forms}
use Rattle.vx_core.proofs.Keeps.{keeps}
use Rattle.vx_core.proofs.ActNames.{named}
use Rattle.vx_core.proofs.PossibleLaws.{possible}
use Rattle.vx_core.proofs.ProgressLaws.{progresses}
use Rattle.vx_core.proofs.ReadLaws.{reads}
use Rattle.vx_core.proofs.rules.next.Goals as goal

pub returns-clause-keeps : goal.returns-clause-keeps
returns-clause-keeps c = rw c.decide.ensures (keeps c.args.stage.now c.args.event)

pub returns-clause-named : goal.returns-clause-named
returns-clause-named c = subst (λ (x : Stage × Act). NamesAct x) (sym c.decide.ensures) (named c.args.stage.now c.args.event)

pub returns-clause-form : goal.returns-clause-form
returns-clause-form c =
    subst (λ (x : Stage × Act). KeepsForm c.args.stage.now c.args.event x) (sym c.decide.ensures)
    (λ held formed may. (forms c.args.stage.now c.args.event held formed may, progresses c.args.stage.now c.args.event held formed may))

pub returns-clause-possible : goal.returns-clause-possible
returns-clause-possible c =
    subst (λ (x : Stage × Act). AsksPossible c.args.stage.now c.args.event x) (sym c.decide.ensures) (possible c.args.stage.now c.args.event)

pub returns-clause-follows : goal.returns-clause-follows
returns-clause-follows c =
    subst (λ (x : Stage × Act). FollowsFrom c.args.stage.now c.args.stage.now.phase c.args.event x) (sym c.decide.ensures) (follows c.args.stage.now c.args.event)

pub returns-clause-reads : goal.returns-clause-reads
returns-clause-reads c =
    subst (λ (x : Stage × Act). ReadsFrom c.args.stage.now c.args.stage.now.phase c.args.event x) (sym c.decide.ensures) (reads c.args.stage.now c.args.event)

pub returns-clause-causes : goal.returns-clause-causes
returns-clause-causes c =
    subst (λ (x : Stage × Act). CausesFrom c.args.stage.now c.args.stage.now.phase c.args.event x) (sym c.decide.ensures) (causes c.args.stage.now c.args.event)

pub returns-clause-fails : goal.returns-clause-fails
returns-clause-fails c =
    subst (λ (x : Stage × Act). FailsFrom c.args.stage.now c.args.event x) (sym c.decide.ensures) (fails c.args.stage.now c.args.event)
