use Rattle.vx_fronts.proofs.Groups.{each_cut, each_failure}
use Rattle.vx_fronts.proofs.laws.each_failure_is_whole.Goals as goal

pub returns-clause-failed : goal.returns-clause-failed
returns-clause-failed c = each_failure

pub returns-clause-cut : goal.returns-clause-cut
returns-clause-cut c = each_cut
