use Rattle.std.proofs.Common.{length}
use Rattle.vx_copies.proofs.writing.+any_good.Given as goal

abbrev pub decreases-any_good : goal.decreases-any_good
decreases-any_good g l = length l.disks.now
