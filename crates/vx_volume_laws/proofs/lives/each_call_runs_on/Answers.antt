-- A volume runs on through a call.
use Rattle.vx_volume_laws.proofs.LivesRun.{each_read, each_write}
use Rattle.vx_volume_laws.proofs.lives.each_call_runs_on.Goals as goal

pub returns-clause-read : goal.returns-clause-read
returns-clause-read c = each_read c.each_call_is_tracked.ensures

pub returns-clause-written : goal.returns-clause-written
returns-clause-written c = each_write c.each_call_is_tracked.ensures
