use Rattle.vx_group_start.proofs.Missed.{fresh_missed}
use Rattle.vx_group_start.proofs.laws.each_fresh_region_is_missed.Goals as goal

pub returns : goal.returns
returns c = fresh_missed
