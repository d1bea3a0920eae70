use Rattle.vx_group_stop.proofs.Passes.{clear_leaves_rest}
use Rattle.vx_group_stop.proofs.laws.each_clear_leaves_rest.Goals as goal

pub returns : goal.returns
returns c = clear_leaves_rest
