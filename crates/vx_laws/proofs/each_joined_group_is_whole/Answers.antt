use Rattle.vx_laws.proofs.Joins.{each_joined_group_is_whole}
use Rattle.vx_laws.proofs.each_joined_group_is_whole.Goals as goal

pub returns : goal.returns
returns c = each_joined_group_is_whole
