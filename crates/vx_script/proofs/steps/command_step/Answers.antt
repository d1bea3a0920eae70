use Rattle.vx_script.proofs.Faults.{command_place}
use Rattle.vx_script.proofs.steps.command_step.Goals as goal

pub returns-in_err-chosen-clause-place : goal.returns-in_err-chosen-clause-place
returns-in_err-chosen-clause-place c = command_place c.args.done c.args.line.now

pub returns-in_default-clause-place : goal.returns-in_default-clause-place
returns-in_default-clause-place c = command_place c.args.done c.args.line.now

pub returns-in_err-form-clause-place : goal.returns-in_err-form-clause-place
returns-in_err-form-clause-place c = command_place c.args.done c.args.line.now

pub returns-in_default-2-clause-place : goal.returns-in_default-2-clause-place
returns-in_default-2-clause-place c = command_place c.args.done c.args.line.now
