use Rattle.vx_volume_laws.proofs.Volumes.{each_volume_is_left}
use Rattle.vx_volume_laws.proofs.each_volume_is_left.Goals as goal

pub returns : goal.returns
returns c = each_volume_is_left
