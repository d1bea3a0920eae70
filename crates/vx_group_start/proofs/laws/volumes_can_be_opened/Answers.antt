use Rattle.vx_group_start.proofs.Parted.{behind_once, disks_numbered, volumes_free}
use Rattle.vx_group_start.proofs.laws.volumes_can_be_opened.Goals as goal

pub returns-clause-numbered : goal.returns-clause-numbered
returns-clause-numbered c = disks_numbered

pub returns-clause-once : goal.returns-clause-once
returns-clause-once c = behind_once

pub returns-clause-free : goal.returns-clause-free
returns-clause-free c = volumes_free
