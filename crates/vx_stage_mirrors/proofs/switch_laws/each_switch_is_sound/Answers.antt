use Rattle.vx_stage_mirrors.proofs.SwitchSound.{switch_sound}
use Rattle.vx_stage_mirrors.proofs.switch_laws.each_switch_is_sound.Goals as goal

pub returns : goal.returns
returns g c = switch_sound g.P.Piece.seen c.each_left_volume_stands.ensures.leaving c.each_left_volume_stands.ensures.stop c.args.running.now
