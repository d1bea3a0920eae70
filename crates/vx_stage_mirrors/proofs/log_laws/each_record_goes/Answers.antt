use Rattle.vx_stage_mirrors.proofs.Recorded.{record_goes}
use Rattle.vx_stage_mirrors.proofs.log_laws.each_record_goes.Goals as goal

pub returns : goal.returns
returns g c = record_goes g.P.Piece.seen c.args.house.now c.args.old.now c.args.new.now
