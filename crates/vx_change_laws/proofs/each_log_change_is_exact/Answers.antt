-- The log that a volume gets is exact.
use Rattle.vx_change_laws.proofs.Loggings.{log_change_exact}
use Rattle.vx_change_laws.proofs.each_log_change_is_exact.Goals as goal

pub returns : goal.returns
returns c = log_change_exact
