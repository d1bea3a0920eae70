-- A volume runs on when its log gives up a copy.
use Rattle.vx_change_laws.proofs.Yieldings.{yielding_elsewhere, yielding_runs}
use Rattle.vx_change_laws.proofs.each_copy_given_up_runs_on.Goals as goal

pub returns-clause-runs : goal.returns-clause-runs
returns-clause-runs c = yielding_runs c.each_copy_may_go.ensures.stands c.each_copy_may_go.ensures.told

pub returns-clause-elsewhere : goal.returns-clause-elsewhere
returns-clause-elsewhere c = yielding_elsewhere c.each_copy_may_go.ensures.stands c.each_copy_may_go.ensures.told
