use Rattle.vx_fronts.proofs.Joined.{disks_tell, joined_parted, joined_whole, parts_once}
use Rattle.vx_fronts.proofs.laws.each_joined_disk_is_whole.Goals as goal

pub returns-clause-parted : goal.returns-clause-parted
returns-clause-parted c = joined_parted

pub returns-clause-whole : goal.returns-clause-whole
returns-clause-whole c = joined_whole

pub returns-clause-tell : goal.returns-clause-tell
returns-clause-tell c = disks_tell

pub returns-clause-once : goal.returns-clause-once
returns-clause-once c = parts_once
