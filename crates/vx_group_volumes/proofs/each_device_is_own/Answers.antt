use Rattle.vx_group_volumes.proofs.Devices.{cut_own, failed_own, held_own}
use Rattle.vx_group_volumes.proofs.each_device_is_own.Goals as goal

pub returns-clause-held : goal.returns-clause-held
returns-clause-held g c = held_own c.args.running.now

pub returns-clause-failed : goal.returns-clause-failed
returns-clause-failed g c = failed_own c.args.running.now

pub returns-clause-cut : goal.returns-clause-cut
returns-clause-cut g c = cut_own c.args.running.now
