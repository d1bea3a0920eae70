-- A running volume whose records are committed goes on with another log.
use Rattle.vx_stage_mirrors.proofs.RelogMoments.{relog_goes}
use Rattle.vx_stage_mirrors.proofs.log_laws.each_relog_goes.Goals as goal

pub returns : goal.returns
returns g c = relog_goes c.each_piece_ends.ensures.ends c.each_piece_ends.ensures.counts c.args.house.now c.args.old.now c.args.new.now
