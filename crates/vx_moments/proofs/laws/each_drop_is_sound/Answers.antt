use Rattle.vx_moments.proofs.Drops.{drop_sound, drop_stands}
use Rattle.vx_moments.proofs.laws.each_drop_is_sound.Goals as goal

pub returns-clause-sound : goal.returns-clause-sound
returns-clause-sound c = drop_sound

pub returns-clause-stands : goal.returns-clause-stands
returns-clause-stands c = drop_stands
