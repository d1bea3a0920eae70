use Rattle.vx_mask.proofs.MaskLemmas.{has-lowest}
use Rattle.vx_picker.proofs.picker.preferred.Goals as goal

pub returns-else-contains-clause-member : goal.returns-else-contains-clause-member
returns-else-contains-clause-member c = rw c.first.ensures (has-lowest c.args.mask c.requires c.ranges.mask.fits)
