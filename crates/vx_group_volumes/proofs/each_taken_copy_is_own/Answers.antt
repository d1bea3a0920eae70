use Rattle.vx_group_volumes.proofs.Taken.{device_own, log_copy, sector_own}
use Rattle.vx_group_volumes.proofs.each_taken_copy_is_own.Goals as goal

pub returns-clause-sectors : goal.returns-clause-sectors
returns-clause-sectors c = sector_own

pub returns-clause-devices : goal.returns-clause-devices
returns-clause-devices c = device_own

pub returns-clause-plexes : goal.returns-clause-plexes
returns-clause-plexes c = log_copy
