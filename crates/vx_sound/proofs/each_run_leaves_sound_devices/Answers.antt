use Rattle.vx_sound.proofs.Steps.{each_run_leaves_sound_devices as proved}
use Rattle.vx_sound.proofs.each_run_leaves_sound_devices.Goals as goal

pub returns : goal.returns
returns c = proved
