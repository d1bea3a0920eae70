use Rattle.std.proofs.Common.{length}
use Rattle.vx_import.proofs.naming.+first_damage.Given as goal

abbrev pub decreases-first_damage : goal.decreases-first_damage
decreases-first_damage g l = length l.found.now
