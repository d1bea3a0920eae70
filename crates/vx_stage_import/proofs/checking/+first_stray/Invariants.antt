use Rattle.std.proofs.Common.{length}
use Rattle.vx_stage_import.proofs.checking.+first_stray.Given as goal

abbrev pub decreases-first_stray : goal.decreases-first_stray
decreases-first_stray g l = length l.found.now
