use Rattle.vx_joined_volumes.proofs.SwitchNamed.{each_owner_switched, each_switch_named}
use Rattle.vx_joined_volumes.proofs.each_switched_volume_is_named.Goals as goal

pub returns : goal.returns
returns g c = record { names = each_switch_named g.P.Piece.seen c.args.running.now; owners = each_owner_switched g.P.Piece.seen c.args.running.now }
