use Rattle.vx_stage_mirrors.proofs.LogUnmade.{log_unmade}
use Rattle.vx_stage_mirrors.proofs.log_laws.each_log_is_unmade.Goals as goal

pub returns : goal.returns
returns g c = log_unmade g.P.Piece.seen c.each_piece_ends.ensures.ends c.each_piece_ends.ensures.counts c.args.house.now c.args.old.now c.args.new.now
