use Rattle.vx_sound_volumes.proofs.Leavings.{each_leaving}
use Rattle.vx_sound_volumes.proofs.each_leaving_leaves_volumes_sound.Goals as goal

pub returns : goal.returns
returns c = each_leaving
