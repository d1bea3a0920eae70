use Rattle.vx_group_volumes.proofs.Called.{any_cut, any_order, each_disk_on, held_change}
use Rattle.vx_group_volumes.proofs.each_call_changes_its_own.Goals as goal

pub returns-clause-sectors : goal.returns-clause-sectors
returns-clause-sectors c = held_change

pub returns-clause-order : goal.returns-clause-order
returns-clause-order c = any_order

pub returns-clause-cut : goal.returns-clause-cut
returns-clause-cut c = any_cut

pub returns-clause-disks : goal.returns-clause-disks
returns-clause-disks c = each_disk_on
