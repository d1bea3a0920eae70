use Rattle.vx_readings.proofs.Images.{reading_sound}
use Rattle.vx_readings.proofs.each_reading_is_as_sound.Goals as goal

pub returns : goal.returns
returns c = reading_sound
