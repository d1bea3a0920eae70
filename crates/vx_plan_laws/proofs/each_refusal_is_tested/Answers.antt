use Rattle.vx_plan_laws.proofs.Refusals.{each_refusal_is_tested as tested}
use Rattle.vx_plan_laws.proofs.each_refusal_is_tested.Goals as goal

pub returns : goal.returns
returns c = tested
