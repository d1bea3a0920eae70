use Rattle.vx_new_volume_laws.proofs.Growth.{each_longer}
use Rattle.vx_new_volume_laws.proofs.laws.each_start_is_longer_by_its_growth.Goals as goal

pub returns : goal.returns
returns c = each_longer c.each_change_restates.ensures.start
