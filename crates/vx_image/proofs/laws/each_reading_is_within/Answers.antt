use Rattle.vx_image.proofs.Readings.{read_stands, read_within}
use Rattle.vx_image.proofs.laws.each_reading_is_within.Goals as goal

pub returns-clause-own : goal.returns-clause-own
returns-clause-own c = read_stands

pub returns-clause-within : goal.returns-clause-within
returns-clause-within c = read_within
