use Rattle.vx_members.proofs.HighestMember.{none_above, top_member}
use Rattle.vx_members.proofs.members.highest_member.Goals as goal

pub returns-clause-member : goal.returns-clause-member
returns-clause-member c = top_member c.args.mask c.saturating_sub.result c.saturating_sub.ensures c.ranges.mask.fits

pub returns-clause-highest : goal.returns-clause-highest
returns-clause-highest c = none_above c.args.mask c.saturating_sub.result c.saturating_sub.ensures c.ranges.mask.fits
