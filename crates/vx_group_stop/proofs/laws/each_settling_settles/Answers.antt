use Rattle.vx_group_stop.proofs.Passes.{settling_settles}
use Rattle.vx_group_stop.proofs.laws.each_settling_settles.Goals as goal

pub returns : goal.returns
returns c = settling_settles
