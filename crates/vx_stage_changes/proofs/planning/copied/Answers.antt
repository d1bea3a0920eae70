use Rattle.std.proofs.Common.{◌∙◌}
use Rattle.vx_stage_changes.proofs.Texts.{copied_is}
use Rattle.vx_stage_changes.proofs.planning.copied.Goals as goal

pub returns-in-Ok : goal.returns-in-Ok
returns-in-Ok c = copied_is c.args.config.now c.in-Ok.copy c.deref.result.now (c.deref.ensures.value ∙ c.in_ok-all.ensures) c.in-Ok.ensures.made
