use Rattle.vx_laws.proofs.Joins.{each_made_group_is_whole}
use Rattle.vx_laws.proofs.each_made_group_is_whole.Goals as goal

pub returns : goal.returns
returns c = each_made_group_is_whole
