use Rattle.vx_healed_volumes.proofs.HealingReasons.{healing_goes_on, healing_reason}
use Rattle.vx_healed_volumes.proofs.each_healing_goes_on.Goals as goal

pub returns-clause-places : goal.returns-clause-places
returns-clause-places g c = healing_goes_on c.args.old.now c.args.new.now

pub returns-clause-reason : goal.returns-clause-reason
returns-clause-reason g c = healing_reason c.args.old.now c.args.new.now
