use Rattle.vx_yielded_volumes.proofs.Named.{each_yielded_owner, each_yielding_named}
use Rattle.vx_yielded_volumes.proofs.each_yielded_volume_is_named.Goals as goal

pub returns : goal.returns
returns g c = record { names = each_yielding_named g.P.Piece.seen c.args.running.now; owners = each_yielded_owner g.P.Piece.seen c.args.running.now }
