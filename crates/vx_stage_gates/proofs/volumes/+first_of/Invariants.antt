use Rattle.std.proofs.Common.{length}
use Rattle.vx_stage_gates.proofs.volumes.+first_of.Given as goal

abbrev pub decreases-first_of : goal.decreases-first_of
decreases-first_of g l = length l.volumes.now
