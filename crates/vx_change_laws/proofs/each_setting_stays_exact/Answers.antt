-- A log stays exact when a map is set.
use Rattle.vx_change_laws.proofs.Exactness.{setting_exact}
use Rattle.vx_change_laws.proofs.each_setting_stays_exact.Goals as goal

pub returns : goal.returns
returns c = setting_exact c.each_setting_stands.ensures.marks
