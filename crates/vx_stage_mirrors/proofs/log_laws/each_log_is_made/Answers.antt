use Rattle.vx_stage_mirrors.proofs.LogMade.{log_made}
use Rattle.vx_stage_mirrors.proofs.log_laws.each_log_is_made.Goals as goal

pub returns : goal.returns
returns g c = log_made c.each_piece_ends.ensures.ends c.each_piece_ends.ensures.counts c.args.house.now c.args.old.now c.args.new.now
