use Rattle.vx_group_edits.proofs.Changed.{removal_keeps}
use Rattle.vx_group_edits.proofs.edits.each_removal_keeps.Goals as goal

pub returns : goal.returns
returns c = removal_keeps
