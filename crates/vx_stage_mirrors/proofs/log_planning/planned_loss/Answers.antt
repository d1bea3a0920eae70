use Rattle.std.proofs.Common.{rules, ◌≡◌, ◌∙◌, Some}
use Rattle.std.proofs.lemmas.Result.{IfErr-weaker}
use Rattle.vx_objects.specs.Config.{objects_of}
use Rattle.vx_new_volumes.specs.Mirrors.{lowest_plex}
use Rattle.vx_stage_changes.specs.Planning.{IsUnplanned}
use Rattle.vx_stage_mirrors.specs.Planned.{EndsAs}
use Rattle.vx_stage_mirrors.specs.PlannedLogs.{IsLossUnplanned}
use Rattle.vx_stage_mirrors.proofs.Edits.{loss_unplanned}
use Rattle.vx_stage_mirrors.proofs.log_planning.planned_loss.Goals as goal

pub returns-clause-unplanned : goal.returns-clause-unplanned
returns-clause-unplanned c =
    let config = c.args.config.now in
    let vol = c.args.vol.now in
    let plex = c.unwrap-plex.result in
    let there : lowest_plex vol.name (objects_of config) ≡ Some plex = search rules in
    IfErr-weaker c.planned.result (IsUnplanned c.deref-2.result.now config) (EndsAs (IsLossUnplanned config vol c.args.dco))
    (loss_unplanned config vol c.args.dco plex there c.deref-2.result.now (c.deref-2.ensures.value ∙ c.in-Ok-unprepare_edits.ensures)) c.planned.ensures.unplanned
