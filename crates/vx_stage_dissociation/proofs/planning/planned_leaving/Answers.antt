use Rattle.std.proofs.lemmas.Result.{IfErr-weaker}
use Rattle.vx_stages.specs.Logging.{AreEditsRefused}
use Rattle.vx_stage_changes.specs.Planning.{IsUnplanned}
use Rattle.vx_stage_mirrors.specs.Planned.{EndsAs}
use Rattle.vx_stages.specs.Leaving.{leaving_edits}
use Rattle.vx_stage_dissociation.proofs.Tests.{unplanned_as}
use Rattle.vx_stage_dissociation.proofs.planning.planned_leaving.Goals as goal

pub returns-clause-unplanned : goal.returns-clause-unplanned
returns-clause-unplanned c =
    let config = c.args.config.now in
    let meant = leaving_edits c.args.remove c.args.plex.now in
    let edits = c.leaving_edits-edits.result in
    IfErr-weaker c.planned.result (IsUnplanned edits config) (EndsAs (AreEditsRefused config meant)) (unplanned_as config edits meant c.leaving_edits-edits.ensures) c.planned.ensures.unplanned
