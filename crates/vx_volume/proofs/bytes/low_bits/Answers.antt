use Rattle.vx_volume.proofs.LowBits.{low_part}
use Rattle.vx_volume.proofs.bytes.low_bits.Goals as goal

pub returns-then-count-lt8 : goal.returns-then-count-lt8
returns-then-count-lt8 c = λ k low. low_part c.args.byte c.args.count k c.if-count-lt8.true
