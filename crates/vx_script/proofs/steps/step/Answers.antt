use Rattle.vx_script.proofs.Carry.{carried, step_is}
use Rattle.vx_script.proofs.steps.step.Goals as goal

pub returns-in-Closed : goal.returns-in-Closed
returns-in-Closed c = carried c.closed_step.result _ _ (step_is c.args.reader _ c.args.line.now c.in-Closed.is) c.closed_step.ensures

pub returns-in-Making : goal.returns-in-Making
returns-in-Making c = carried c.making_step.result _ _ (step_is c.args.reader _ c.args.line.now c.in-Making.is) c.making_step.ensures

pub returns-in-Inside : goal.returns-in-Inside
returns-in-Inside c = carried c.inside_step.result _ _ (step_is c.args.reader _ c.args.line.now c.in-Inside.is) c.inside_step.ensures
