use Rattle.vx_yielded_volumes.proofs.Edits.{each_log_leaving_keeps, each_log_leaving_own}
use Rattle.vx_yielded_volumes.proofs.each_log_leaving_keeps_others.Goals as goal

pub returns : goal.returns
returns c = record { own = each_log_leaving_own; others = each_log_leaving_keeps }
