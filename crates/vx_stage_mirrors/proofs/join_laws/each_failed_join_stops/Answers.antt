use Rattle.vx_stage_mirrors.proofs.Stopped.{failed_join_stops}
use Rattle.vx_stage_mirrors.proofs.join_laws.each_failed_join_stops.Goals as goal

pub returns : goal.returns
returns g c = failed_join_stops g.P.Piece.seen c.args.house.now c.args.old.now c.args.new.now
