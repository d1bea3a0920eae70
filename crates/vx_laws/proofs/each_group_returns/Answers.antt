use Rattle.vx_laws.proofs.Returns.{each_group_returns}
use Rattle.vx_laws.proofs.each_group_returns.Goals as goal

pub returns : goal.returns
returns c = each_group_returns
