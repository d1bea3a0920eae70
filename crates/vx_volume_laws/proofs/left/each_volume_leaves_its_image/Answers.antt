use Rattle.vx_volume_laws.proofs.Leavings.{volume_leaves}
use Rattle.vx_volume_laws.proofs.left.each_volume_leaves_its_image.Goals as goal

pub returns : goal.returns
returns c = volume_leaves
