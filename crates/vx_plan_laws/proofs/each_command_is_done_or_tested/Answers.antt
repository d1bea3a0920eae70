use Rattle.vx_plan_laws.proofs.Refusals.{done_or_tested}
use Rattle.vx_plan_laws.proofs.each_command_is_done_or_tested.Goals as goal

pub returns : goal.returns
returns c = done_or_tested
