use Rattle.std.proofs.Common.{length}
use Rattle.vx_stage_gates.proofs.groups.+volume_in.Given as goal

abbrev pub decreases-volume_in : goal.decreases-volume_in
decreases-volume_in l = length l.volumes.now
