use Rattle.std.proofs.Common.{length}
use Rattle.vx_stage_volumes.proofs.naming.+names_at.Given as goal

abbrev pub decreases-names_at : goal.decreases-names_at
decreases-names_at g l = length l.disks.now
