use Rattle.vx_new_volume_laws.proofs.Asked.{each_read_volume_is_asked}
use Rattle.vx_new_volume_laws.proofs.laws.each_read_volume_is_asked.Goals as goal

pub returns : goal.returns
returns c = each_read_volume_is_asked
