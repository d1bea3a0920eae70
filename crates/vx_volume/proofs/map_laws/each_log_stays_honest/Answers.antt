use Rattle.vx_volume.proofs.Honest.{setting_stays}
use Rattle.vx_volume.proofs.map_laws.each_log_stays_honest.Goals as goal

pub returns : goal.returns
returns c = setting_stays
