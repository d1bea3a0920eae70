use Rattle.vx_sound.proofs.Wants.{each_want_keeps_the_world_sound as proved}
use Rattle.vx_sound.proofs.each_want_keeps_the_world_sound.Goals as goal

pub returns : goal.returns
returns c = proved
