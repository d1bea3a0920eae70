use Rattle.vx_group_stop.proofs.Marks.{rest_is_settled}
use Rattle.vx_group_stop.proofs.laws.each_rest_is_settled.Goals as goal

pub returns : goal.returns
returns c = rest_is_settled
