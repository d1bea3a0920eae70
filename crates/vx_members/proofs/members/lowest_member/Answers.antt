use Rattle.vx_mask.proofs.MaskLemmas.{has-lowest}
use Rattle.vx_members.proofs.members.lowest_member.Goals as goal

pub returns-clause-member : goal.returns-clause-member
returns-clause-member c = λ some. rw c.first.ensures (has-lowest c.args.mask some c.ranges.mask.fits)
