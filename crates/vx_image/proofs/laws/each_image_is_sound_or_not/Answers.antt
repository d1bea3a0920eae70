use Rattle.vx_image.proofs.Deciding.{image_decided}
use Rattle.vx_image.proofs.laws.each_image_is_sound_or_not.Goals as goal

pub returns : goal.returns
returns c = image_decided
