use Rattle.std.proofs.Common.{length}
use Rattle.vx_stage_volumes.proofs.numbering.+number_at.Given as goal

abbrev pub decreases-number_at : goal.decreases-number_at
decreases-number_at g l = length l.disks.now
