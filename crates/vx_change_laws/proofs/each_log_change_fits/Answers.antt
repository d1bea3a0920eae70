-- Owners fit when a volume gets another log.
use Rattle.vx_change_laws.proofs.Loggings.{log_change_fits}
use Rattle.vx_change_laws.proofs.each_log_change_fits.Goals as goal

pub returns : goal.returns
returns c = log_change_fits
