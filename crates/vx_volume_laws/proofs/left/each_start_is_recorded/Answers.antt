use Rattle.vx_volume_laws.proofs.Recordings.{each_plain_start_is_recorded, each_start_is_recorded}
use Rattle.vx_volume_laws.proofs.left.each_start_is_recorded.Goals as goal

pub returns-clause-logged : goal.returns-clause-logged
returns-clause-logged c = each_start_is_recorded

pub returns-clause-plain : goal.returns-clause-plain
returns-clause-plain c = each_plain_start_is_recorded
