use Rattle.std.proofs.Common.{length}
use Rattle.vx_copies.proofs.writing.+good_slots.Given as goal

abbrev pub decreases-good_slots : goal.decreases-good_slots
decreases-good_slots g l = length l.disks.now
