use Rattle.vx_group_volumes.proofs.Unlogged.{passed_failed}
use Rattle.vx_group_volumes.proofs.each_passed_log_has_failed.Goals as goal

pub returns : goal.returns
returns c = passed_failed
