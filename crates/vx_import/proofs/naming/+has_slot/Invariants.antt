use Rattle.std.proofs.Common.{length}
use Rattle.vx_import.proofs.naming.+has_slot.Given as goal

abbrev pub decreases-has_slot : goal.decreases-has_slot
decreases-has_slot g l = length l.found.now
