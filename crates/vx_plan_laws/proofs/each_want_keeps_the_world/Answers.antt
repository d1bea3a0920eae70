use Rattle.vx_plan_laws.proofs.Wanting.{each_want_keeps_the_world as kept}
use Rattle.vx_plan_laws.proofs.each_want_keeps_the_world.Goals as goal

pub returns : goal.returns
returns c = kept
