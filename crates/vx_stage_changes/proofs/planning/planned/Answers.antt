use Rattle.std.proofs.lemmas.Result.{IfErr-weaker}
use Rattle.vx_stage_changes.specs.Planning.{IsUnplanned, IsUnplannedBy}
use Rattle.vx_stage_changes.proofs.Texts.{plain_unplanned}
use Rattle.vx_stage_changes.proofs.planning.planned.Goals as goal

pub returns-clause-unplanned : goal.returns-clause-unplanned
returns-clause-unplanned c =
    IfErr-weaker c.planned_growing.result (IsUnplannedBy 0 c.args.edits.now c.args.config.now) (IsUnplanned c.args.edits.now c.args.config.now) (plain_unplanned c.args.edits.now c.args.config.now) c.planned_growing.ensures.unplanned
