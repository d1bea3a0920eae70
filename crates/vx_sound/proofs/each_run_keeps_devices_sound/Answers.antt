use Rattle.vx_sound.proofs.Steps.{each_run_keeps_devices_sound as proved}
use Rattle.vx_sound.proofs.each_run_keeps_devices_sound.Goals as goal

pub returns : goal.returns
returns c = proved
