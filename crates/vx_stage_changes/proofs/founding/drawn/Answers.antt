use Rattle.std.proofs.Common.{◌∙◌}
use Rattle.vx_stage_changes.proofs.NewConfig.{is_drawn}
use Rattle.vx_stage_changes.proofs.founding.drawn.Goals as goal

pub returns : goal.returns
returns g c = is_drawn c.args.dg.now c.args.disks.now c.deref.result.now c.in-Ok.config c.in-Ok-text_of.text.items (c.deref.ensures.value ∙ c.in_ok-records.ensures) c.in-Ok.ensures.made c.in-Ok-text_of.ensures.text
