use Rattle.vx_yielded_volumes.proofs.Edits.{each_log_taken_out}
use Rattle.vx_yielded_volumes.proofs.each_log_is_taken_out.Goals as goal

pub returns : goal.returns
returns c = each_log_taken_out
