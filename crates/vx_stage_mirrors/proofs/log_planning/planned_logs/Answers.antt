use Rattle.std.proofs.lemmas.Result.{IfErr-weaker}
use Rattle.vx_stages.specs.Logging.{AreLogsUnplanned}
use Rattle.vx_stage_changes.specs.Planning.{IsUnplanned}
use Rattle.vx_stage_mirrors.specs.Planned.{EndsAs}
use Rattle.vx_stage_mirrors.proofs.Edits.{unplanned_so}
use Rattle.vx_stage_mirrors.proofs.log_planning.planned_logs.Goals as goal

pub returns-clause-unplanned : goal.returns-clause-unplanned
returns-clause-unplanned c =
    let config = c.args.config.now in
    let vol = c.args.vol.now in
    let new = c.args.new.now in
    let edits = c.prepare_edits-edits.result in
    IfErr-weaker c.planned.result (IsUnplanned edits config) (EndsAs (AreLogsUnplanned config c.args.good vol new))
    (unplanned_so config c.args.good vol new c.in_ok-laid.laid c.in_ok-laid.ensures.laid edits c.prepare_edits-edits.ensures) c.planned.ensures.unplanned
