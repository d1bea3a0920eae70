use Rattle.vx_laws.proofs.Returns.{each_whole_group_comes_back}
use Rattle.vx_laws.proofs.each_whole_group_comes_back.Goals as goal

pub returns : goal.returns
returns c = each_whole_group_comes_back
