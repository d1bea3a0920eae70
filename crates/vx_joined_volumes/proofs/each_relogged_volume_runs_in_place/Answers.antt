use Rattle.vx_joined_volumes.proofs.RelogRuns.{each_volume_relogged}
use Rattle.vx_joined_volumes.proofs.each_relogged_volume_runs_in_place.Goals as goal

pub returns : goal.returns
returns g c = each_volume_relogged g.P.Piece.seen c.args.running.now c.args.later.now
