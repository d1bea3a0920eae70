use Rattle.vx_stage_mirrors.proofs.Sound.{marked_volume_sound}
use Rattle.vx_stage_mirrors.proofs.marked.each_marked_volume_is_sound.Goals as goal

pub returns : goal.returns
returns g c = marked_volume_sound g.P.Piece.seen c.each_left_volume_stands.ensures.leaving c.args.before.now c.args.after.now
