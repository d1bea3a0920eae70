use Rattle.std.proofs.Common.{inr}
use Rattle.std.proofs.lemmas.Result.{err_from_is_err_and}
use Rattle.vx_stage_recovery.proofs.ending.end_open.Goals as goal

pub returns-in_err-record_start : goal.returns-in_err-record_start
returns-in_err-record_start g c =
    let p = err_from_is_err_and c.from_residual.result c.from_residual.ensures.1 in
    record { ends = rw (p.1, p.2) (inr (record { next = c.in-Ok.next; planned = c.in-Ok.ensures.planned; records = c.in_err-record_start.ensures.ends })) }
