use Rattle.vx_sound.proofs.Wants.{each_run_left_off_keeps_devices_sound as proved}
use Rattle.vx_sound.proofs.each_run_left_off_keeps_devices_sound.Goals as goal

pub returns : goal.returns
returns c = proved
