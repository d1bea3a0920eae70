use Rattle.vx_volume_laws.proofs.LivesLeft.{each_settling_settles}
use Rattle.vx_volume_laws.proofs.lives.each_settling_settles.Goals as goal

pub returns : goal.returns
returns c = each_settling_settles
