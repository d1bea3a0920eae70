use Rattle.std.proofs.Common.{◌∙◌, sym, subst, Result}
use Rattle.vx_house.specs.Goes.{StageGoes}
use Rattle.vx_house.specs.View.{at}
use Rattle.vx_house.specs.declared.stop.Stop.{Stop}
use Rattle.vx_stages.specs.declared.stage.Stage.TheVariants as stages
use Rattle.vx_run.proofs.GateStage.{test_passed, test_failed}
use Rattle.vx_run.proofs.stages.pass.Goals as goal

pub returns-in-Ok-None : goal.returns-in-Ok-None
returns-in-Ok-None g c = record { goes = λ shelf keeps. test_passed g.P.Piece.seen c.args.test c.args.disks.now (at shelf c.args.house.now) keeps c.requires.ready (sym c.in-Ok-None.ensures ∙ c.in-Ok-None.field-0-is) }

pub returns-in-Ok-Some : goal.returns-in-Ok-Some
returns-in-Ok-Some g c = record { goes = λ shelf keeps. subst (λ (r : Result (Unit {0}) Stop). StageGoes g.P.Piece.seen (stages.Gate c.args.test) c.args.disks.now r (at shelf c.args.house.now) (at shelf c.args.house.now)) (sym c.refused.ensures) (test_failed g.P.Piece.seen c.args.test c.args.disks.now (at shelf c.args.house.now) keeps c.requires.ready c.in-Ok-Some.refusal (sym c.in-Ok-Some.ensures ∙ c.in-Ok-Some.field-0-is)) }
