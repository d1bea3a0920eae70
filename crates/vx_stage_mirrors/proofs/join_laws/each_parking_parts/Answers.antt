use Rattle.vx_stage_mirrors.proofs.JoiningParking.{parking_parts}
use Rattle.vx_stage_mirrors.proofs.join_laws.each_parking_parts.Goals as goal

pub returns : goal.returns
returns g c = parking_parts g.P.Piece.seen c.args.old.now c.args.new.now
