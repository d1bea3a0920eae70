use Rattle.std.proofs.Common.{length}
use Rattle.vx_stage_import.proofs.naming.+says_slot.Given as goal

abbrev pub decreases-says_slot : goal.decreases-says_slot
decreases-says_slot l = length l.attrs.now
