use Rattle.std.proofs.Common.{length}
use Rattle.vx_stage_import.proofs.checking.+first_started.Given as goal

abbrev pub decreases-first_started : goal.decreases-first_started
decreases-first_started g l = length l.vols.now
