use Rattle.vx_joined_volumes.proofs.SwitchRuns.{each_volume_switched}
use Rattle.vx_joined_volumes.proofs.each_switched_volume_runs_in_place.Goals as goal

pub returns : goal.returns
returns g c = each_volume_switched g.P.Piece.seen c.args.running.now c.args.later.now
