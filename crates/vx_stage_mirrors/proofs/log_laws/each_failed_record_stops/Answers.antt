use Rattle.vx_stage_mirrors.proofs.Unrecorded.{record_stops}
use Rattle.vx_stage_mirrors.proofs.log_laws.each_failed_record_stops.Goals as goal

pub returns : goal.returns
returns g c = record_stops g.P.Piece.seen c.args.house.now c.args.old.now c.args.new.now
