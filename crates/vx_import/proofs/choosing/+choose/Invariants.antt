use Rattle.std.proofs.Common.{length}
use Rattle.vx_import.proofs.choosing.+choose.Given as goal

abbrev pub decreases-choose : goal.decreases-choose
decreases-choose g l = length l.found.now
