use Rattle.vx_group_volumes.proofs.Failures.{data_failures, log_failures}
use Rattle.vx_group_volumes.proofs.each_failure_is_own.Goals as goal

pub returns-clause-data : goal.returns-clause-data
returns-clause-data g c = data_failures c.args.running.now c.args.new.now

pub returns-clause-log : goal.returns-clause-log
returns-clause-log g c = log_failures c.args.running.now c.args.new.now
