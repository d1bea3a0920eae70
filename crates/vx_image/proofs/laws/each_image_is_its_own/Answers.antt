use Rattle.vx_image.proofs.Own.{image_own}
use Rattle.vx_image.proofs.laws.each_image_is_its_own.Goals as goal

pub returns : goal.returns
returns c = image_own
