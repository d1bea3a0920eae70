use Rattle.std.proofs.Common.{length}
use Rattle.vx_stage_gates.proofs.groups.+relates.Given as goal

abbrev pub decreases-relates : goal.decreases-relates
decreases-relates l = length l.snaps.now
