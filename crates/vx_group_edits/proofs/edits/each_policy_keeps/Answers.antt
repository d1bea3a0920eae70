use Rattle.vx_group_edits.proofs.Changed.{policy_keeps}
use Rattle.vx_group_edits.proofs.edits.each_policy_keeps.Goals as goal

pub returns : goal.returns
returns c = policy_keeps
