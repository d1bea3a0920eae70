use Rattle.vx_group_volumes.proofs.Taken.{disks_by, log_changes, log_counts}
use Rattle.vx_group_volumes.proofs.each_log_changes_only.Goals as goal

pub returns-clause-disks : goal.returns-clause-disks
returns-clause-disks c = disks_by

pub returns-clause-world : goal.returns-clause-world
returns-clause-world c = log_changes

pub returns-clause-counts : goal.returns-clause-counts
returns-clause-counts c = log_counts
