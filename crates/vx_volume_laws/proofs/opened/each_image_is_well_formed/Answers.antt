use Rattle.vx_volume_laws.proofs.OpenedImages.{well_formed}
use Rattle.vx_volume_laws.proofs.opened.each_image_is_well_formed.Goals as goal

pub returns : goal.returns
returns c = well_formed
