use Rattle.std.proofs.Common.{rules, ◌≡◌, ◌∙◌, true}
use Rattle.vx_stages.specs.Starting.{may_start}
use Rattle.vx_stage_volumes.proofs.StartFine.{refused_planned}
use Rattle.vx_stage_volumes.proofs.starting.planned_start.Goals as goal

pub returns-clause-refused : goal.returns-clause-refused
returns-clause-refused c =
    let may : may_start c.args.vol.now.state ≡ true = search rules in
    refused_planned c.args.config.now c.args.good c.args.vol.now may c.each_change_is_fine.ensures.start
    c.requires.of c.in_ok-test_early.ensures.passes
    c.deref.result.now (c.deref.ensures.value ∙ c.in-Ok.ensures) c.planned.result c.planned.ensures.unplanned
