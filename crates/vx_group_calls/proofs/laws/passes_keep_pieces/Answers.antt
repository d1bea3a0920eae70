use Rattle.vx_group_calls.proofs.Failures.{clearing_gone, copying_gone, settling_gone}
use Rattle.vx_group_calls.proofs.Service.{gone_stays}
use Rattle.vx_group_calls.proofs.laws.passes_keep_pieces.Goals as goal

pub returns-clause-settled : goal.returns-clause-settled
returns-clause-settled g c result ends follows = gone_stays c.args.old.now c.args.new.now follows (settling_gone _ _ result ends)

pub returns-clause-cleared : goal.returns-clause-cleared
returns-clause-cleared g c result ends follows = gone_stays c.args.old.now c.args.new.now follows (clearing_gone _ _ result ends)

pub returns-clause-copied : goal.returns-clause-copied
returns-clause-copied g c map result ends follows = gone_stays c.args.old.now c.args.new.now follows (copying_gone map _ _ result ends)
