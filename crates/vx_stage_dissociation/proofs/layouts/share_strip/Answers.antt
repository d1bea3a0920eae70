use Rattle.vx_stage_dissociation.proofs.YieldStrips.{answered}
use Rattle.vx_stage_dissociation.proofs.layouts.share_strip.Goals as goal

pub returns : goal.returns
returns c = answered c.args.one.now c.args.other.now c.strips.result.now c.strips-2.result.now c.strips.ensures c.strips-2.ensures c.begin_alike.result c.begin_alike.ensures
