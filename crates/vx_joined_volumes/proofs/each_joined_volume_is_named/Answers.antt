use Rattle.vx_joined_volumes.proofs.Named.{each_volume_named}
use Rattle.vx_joined_volumes.proofs.each_joined_volume_is_named.Goals as goal

pub returns : goal.returns
returns g c = each_volume_named g.P.Piece.seen c.args.running.now
