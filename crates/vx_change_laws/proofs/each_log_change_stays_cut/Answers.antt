-- Regions are cut where they are dead when a volume gets another log.
use Rattle.vx_change_laws.proofs.Loggings.{log_change_cut}
use Rattle.vx_change_laws.proofs.each_log_change_stays_cut.Goals as goal

pub returns : goal.returns
returns c = log_change_cut
