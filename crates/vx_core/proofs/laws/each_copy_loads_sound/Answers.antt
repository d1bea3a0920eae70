use Rattle.vx_core.proofs.RecoveryLaws.{each_copy_loads_sound}
use Rattle.vx_core.proofs.laws.each_copy_loads_sound.Goals as goal

pub returns : goal.returns
returns c = each_copy_loads_sound
