-- A volume runs on when it gets another log.
use Rattle.vx_change_laws.proofs.Loggings.{log_change_runs}
use Rattle.vx_change_laws.proofs.each_log_change_runs_on.Goals as goal

pub returns : goal.returns
returns c = log_change_runs
