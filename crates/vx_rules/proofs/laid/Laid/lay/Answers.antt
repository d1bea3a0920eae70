use Rattle.vx_rules.proofs.Placement.{laid_more}
use Rattle.vx_rules.proofs.laid.Laid.lay.Goals as goal

pub returns : goal.returns
returns c = λ done laid sector apart. laid_more _ _ done c.args.extent.now laid sector apart c.in_ok-insert.ensures.updates.0
