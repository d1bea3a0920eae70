use Rattle.vx_volume_laws.proofs.Logs.{each_log_is_left_exact}
use Rattle.vx_volume_laws.proofs.each_log_is_left_exact.Goals as goal

pub returns : goal.returns
returns c = each_log_is_left_exact
