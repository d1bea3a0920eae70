use Rattle.vx_yielded_volumes.proofs.Runs.{each_volume_unlogged}
use Rattle.vx_yielded_volumes.proofs.each_unlogged_volume_runs_in_place.Goals as goal

pub returns : goal.returns
returns g c = each_volume_unlogged g.P.Piece.seen c.args.running.now
