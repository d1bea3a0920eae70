use Rattle.vx_group_edits.proofs.Added.{joining_keeps}
use Rattle.vx_group_edits.proofs.edits.each_joining_keeps.Goals as goal

pub returns : goal.returns
returns c = joining_keeps
