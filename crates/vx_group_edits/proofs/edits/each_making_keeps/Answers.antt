use Rattle.vx_group_edits.proofs.Added.{making_keeps}
use Rattle.vx_group_edits.proofs.edits.each_making_keeps.Goals as goal

pub returns : goal.returns
returns c = making_keeps
