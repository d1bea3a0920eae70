use Rattle.vx_group_volumes.proofs.Rests.{rest_runs_on}
use Rattle.vx_group_volumes.proofs.each_rest_runs_on.Goals as goal

pub returns : goal.returns
returns c = rest_runs_on c.each_pass_runs_on.ensures.settled c.each_pass_runs_on.ensures.cleared
