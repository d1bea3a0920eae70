use Rattle.vx_joined_volumes.proofs.Runs.{each_volume_joined}
use Rattle.vx_joined_volumes.proofs.each_joined_volume_runs_in_place.Goals as goal

pub returns : goal.returns
returns g c = each_volume_joined g.P.Piece.seen c.args.running.now c.args.joined.now
