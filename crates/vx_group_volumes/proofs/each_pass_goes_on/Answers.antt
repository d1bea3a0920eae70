use Rattle.vx_group_volumes.proofs.Passes.{copies_go_on, rest_goes_on}
use Rattle.vx_group_volumes.proofs.each_pass_goes_on.Goals as goal

pub returns-clause-copied : goal.returns-clause-copied
returns-clause-copied g c = copies_go_on c.args.old.now c.args.new.now

pub returns-clause-rested : goal.returns-clause-rested
returns-clause-rested g c = rest_goes_on c.args.old.now c.args.new.now
