use Rattle.vx_sound.proofs.Steps.{each_step_keeps_the_world_sound as proved}
use Rattle.vx_sound.proofs.each_step_keeps_the_world_sound.Goals as goal

pub returns : goal.returns
returns c = proved
