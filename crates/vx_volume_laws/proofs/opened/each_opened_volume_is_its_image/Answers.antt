use Rattle.vx_volume_laws.proofs.OpenedImages.{opened_is, opened_stands}
use Rattle.vx_volume_laws.proofs.opened.each_opened_volume_is_its_image.Goals as goal

pub returns-clause-image : goal.returns-clause-image
returns-clause-image c = opened_is

pub returns-clause-stands : goal.returns-clause-stands
returns-clause-stands c = opened_stands
