use Rattle.vx_started.proofs.PartWrites.{part_read, part_missed}
use Rattle.vx_started.proofs.part.read_part.Goals as goal

pub returns-clause-read : goal.returns-clause-read
returns-clause-read g c = λ n contents inside told. part_read n c.args.region c.args.span _ _ _ _ c.draw-part.result c.draw-part.ensures.drawn contents inside told c.read_behind-outcome.ensures.same

pub returns-clause-missed : goal.returns-clause-missed
returns-clause-missed g c = λ n values. part_missed n c.args.region c.args.span _ _ _ _ c.draw-part.result c.draw-part.ensures.drawn values c.read_behind-outcome.ensures.same
