use Rattle.vx_volume_laws.proofs.LivesLeft.{each_running_forgets}
use Rattle.vx_volume_laws.proofs.lives.each_running_forgets.Goals as goal

pub returns : goal.returns
returns c = each_running_forgets
