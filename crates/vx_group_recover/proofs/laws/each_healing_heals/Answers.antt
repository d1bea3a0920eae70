use Rattle.vx_group_recover.proofs.Healings.{healing_heals}
use Rattle.vx_group_recover.proofs.laws.each_healing_heals.Goals as goal

pub returns : goal.returns
returns c = healing_heals
