use Rattle.vx_moments.proofs.OtherVolumes.{other_image, volumes_sound}
use Rattle.vx_moments.proofs.laws.each_other_image_stays.Goals as goal

pub returns-clause-same : goal.returns-clause-same
returns-clause-same c = other_image

pub returns-clause-sound : goal.returns-clause-sound
returns-clause-sound c = volumes_sound
