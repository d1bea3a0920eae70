use Rattle.vx_readings.proofs.Texts.{one_reading}
use Rattle.vx_readings.proofs.each_text_has_one_reading.Goals as goal

pub returns : goal.returns
returns c = one_reading
