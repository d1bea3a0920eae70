use Rattle.std.proofs.Common.{length}
use Rattle.vx_stage_recovery.proofs.seeing.+see_all.Given as goal

abbrev pub decreases-see_all : goal.decreases-see_all
decreases-see_all g l = length l.names.now
