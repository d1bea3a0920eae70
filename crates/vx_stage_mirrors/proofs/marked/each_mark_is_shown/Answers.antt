use Rattle.vx_stage_mirrors.proofs.Shown.{mark_shown}
use Rattle.vx_stage_mirrors.proofs.marked.each_mark_is_shown.Goals as goal

pub returns : goal.returns
returns g c = mark_shown g.P.Piece.seen c.args.before.now c.args.after.now
