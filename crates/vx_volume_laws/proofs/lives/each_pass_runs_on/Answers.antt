-- A volume runs on through a pass.
use Rattle.vx_volume_laws.proofs.LivesRun.{each_settling, each_clearing, each_copy}
use Rattle.vx_volume_laws.proofs.lives.each_pass_runs_on.Goals as goal

pub returns-clause-settled : goal.returns-clause-settled
returns-clause-settled c = each_settling c.each_call_is_tracked.ensures

pub returns-clause-cleared : goal.returns-clause-cleared
returns-clause-cleared c = each_clearing c.each_call_is_tracked.ensures

pub returns-clause-copied : goal.returns-clause-copied
returns-clause-copied c = each_copy c.each_call_is_tracked.ensures
