use Rattle.std.proofs.lemmas.Result.{err_from_is_err_and}
use Rattle.vx_stage_changes.proofs.Texts.{long_unplanned}
use Rattle.vx_stage_changes.proofs.planning.planned_growing.Goals as goal

pub returns-in_err-text-clause-unplanned : goal.returns-in_err-text-clause-unplanned
returns-in_err-text-clause-unplanned c =
    let p = err_from_is_err_and c.from_residual-in_err-text.result c.from_residual-in_err-text.ensures.1 in
    rw (p.1, p.2) (long_unplanned c.args.more c.args.edits.now c.args.config.now c.in_ok-config.config c.in_err-text.field-0.0 c.in_ok-config.ensures.edited c.in_err-text.ensures.long)
