-- A free map is one that nothing of the volume has.
use Rattle.vx_group_edits.proofs.Each.{is_free}
use Rattle.vx_group_edits.proofs.mirrors.each_free_map_is_free.Goals as goal

pub returns : goal.returns
returns c = is_free
