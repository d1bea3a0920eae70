use Rattle.vx_group_volumes.proofs.Reasons.{rest_reason}
use Rattle.vx_group_volumes.proofs.each_rest_has_reason.Goals as goal

pub returns : goal.returns
returns g c = rest_reason c.args.old.now c.args.new.now
