use Rattle.vx_volume_laws.proofs.LeftOpenings.{opened_is_over}
use Rattle.vx_volume_laws.proofs.left.each_opened_volume_is_over_its_image.Goals as goal

pub returns : goal.returns
returns c = opened_is_over
