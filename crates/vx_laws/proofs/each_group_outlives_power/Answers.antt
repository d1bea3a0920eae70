use Rattle.vx_laws.proofs.Survival.{each_group_outlives_power}
use Rattle.vx_laws.proofs.each_group_outlives_power.Goals as goal

pub returns : goal.returns
returns c = each_group_outlives_power
