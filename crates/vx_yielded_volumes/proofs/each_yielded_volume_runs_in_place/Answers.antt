use Rattle.vx_yielded_volumes.proofs.Runs.{each_volume_yielded}
use Rattle.vx_yielded_volumes.proofs.each_yielded_volume_runs_in_place.Goals as goal

pub returns : goal.returns
returns g c = each_volume_yielded c.args.running.now c.args.later.now
