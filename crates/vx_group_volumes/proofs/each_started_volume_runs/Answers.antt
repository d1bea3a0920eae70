use Rattle.vx_group_volumes.proofs.Starts.{started_runs}
use Rattle.vx_group_volumes.proofs.each_started_volume_runs.Goals as goal

pub returns : goal.returns
returns g c config good v numbers of form_is started = started_runs config good v numbers c.args.old.now c.args.new.now c.args.running.now of form_is started
