use Rattle.vx_stage_changes.proofs.Short.{group_short}
use Rattle.vx_stage_changes.proofs.joining.name_is_short.Goals as goal

pub returns : goal.returns
returns c = group_short c.args.config.now c.len-bytes.ensures.form
