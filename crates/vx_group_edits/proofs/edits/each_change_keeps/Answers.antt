use Rattle.vx_group_edits.proofs.Commands.{change_keeps}
use Rattle.vx_group_edits.proofs.edits.each_change_keeps.Goals as goal

pub returns : goal.returns
returns c = change_keeps
