use Rattle.vx_plans.proofs.Complete.{each_plan_is_complete as complete}
use Rattle.vx_plans.proofs.laws.each_plan_is_complete.Goals as goal

pub returns : goal.returns
returns c = complete
