use Rattle.vx_joined_volumes.proofs.RelogNamed.{each_volume_renamed}
use Rattle.vx_joined_volumes.proofs.each_relogged_volume_is_named.Goals as goal

pub returns : goal.returns
returns g c = each_volume_renamed g.P.Piece.seen c.args.running.now
