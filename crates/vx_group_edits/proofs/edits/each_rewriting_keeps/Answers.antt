use Rattle.vx_group_edits.proofs.Added.{rewriting_keeps}
use Rattle.vx_group_edits.proofs.edits.each_rewriting_keeps.Goals as goal

pub returns : goal.returns
returns c = rewriting_keeps
