use Rattle.vx_joined_volumes.proofs.SwitchEdits.{each_state_set}
use Rattle.vx_joined_volumes.proofs.each_state_is_set.Goals as goal

pub returns : goal.returns
returns c = each_state_set
