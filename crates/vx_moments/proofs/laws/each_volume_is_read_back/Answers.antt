use Rattle.vx_moments.proofs.VolumesRead.{each_volume_is_read_back, each_volume_read_stands}
use Rattle.vx_moments.proofs.laws.each_volume_is_read_back.Goals as goal

pub returns-clause-within : goal.returns-clause-within
returns-clause-within c = each_volume_is_read_back

pub returns-clause-stands : goal.returns-clause-stands
returns-clause-stands c = each_volume_read_stands
