use Rattle.vx_healed_volumes.proofs.HealingRuns.{healing_runs_on}
use Rattle.vx_healed_volumes.proofs.each_healing_runs_on.Goals as goal

pub returns : goal.returns
returns c = healing_runs_on c.each_pass_runs_on.ensures.settled c.each_pass_runs_on.ensures.copied c.each_pass_runs_on.ensures.cleared
