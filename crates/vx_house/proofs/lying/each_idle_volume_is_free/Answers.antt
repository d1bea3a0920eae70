use Rattle.vx_house.proofs.Idle.{idle_free}
use Rattle.vx_house.proofs.lying.each_idle_volume_is_free.Goals as goal

pub returns : goal.returns
returns g c = idle_free g.P.Piece.seen c.args.group.now
