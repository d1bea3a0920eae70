-- The new logs are used.
use Rattle.vx_group_edits.proofs.DcosGiven.{new_log_used}
use Rattle.vx_group_edits.proofs.dcos.each_new_log_is_used.Goals as goal

pub returns : goal.returns
returns c = new_log_used
