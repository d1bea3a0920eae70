use Rattle.vx_group_calls.proofs.Sources.{tell_still}
use Rattle.vx_group_calls.proofs.laws.each_call_tells.Goals as goal

pub returns : goal.returns
returns g c = tell_still c.args.old.now c.args.new.now
