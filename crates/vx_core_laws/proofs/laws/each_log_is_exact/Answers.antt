use Rattle.vx_core_laws.proofs.Exactly.{each_log_is_exact}
use Rattle.vx_core_laws.proofs.laws.each_log_is_exact.Goals as goal

pub returns : goal.returns
returns c = each_log_is_exact
