use Rattle.vx_volume_laws.proofs.Copies.{each_copy_is_tracked, each_whole_copy_is_tracked}
use Rattle.vx_volume_laws.proofs.each_copy_is_tracked.Goals as goal

pub returns-clause-stopped : goal.returns-clause-stopped
returns-clause-stopped c = each_copy_is_tracked

pub returns-clause-done : goal.returns-clause-done
returns-clause-done c = each_whole_copy_is_tracked
