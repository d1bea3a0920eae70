use Rattle.vx_stage_mirrors.proofs.Sound.{shown_sound}
use Rattle.vx_stage_mirrors.proofs.marked.each_shown_plex_is_sound.Goals as goal

pub returns : goal.returns
returns g c = shown_sound g.P.Piece.seen c.each_left_volume_stands.ensures.leaving c.args.running.now
