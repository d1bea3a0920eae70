use Rattle.vx_stage_mirrors.proofs.JoiningMoments.{join_goes}
use Rattle.vx_stage_mirrors.proofs.join_laws.each_join_goes_on.Goals as goal

pub returns : goal.returns
returns g c = join_goes g.P.Piece.seen c.each_piece_ends.ensures.ends c.each_piece_ends.ensures.counts c.each_joining_runs_on.ensures c.args.house.now c.args.old.now c.args.new.now
