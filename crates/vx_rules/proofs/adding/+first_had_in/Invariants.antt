use Rattle.std.proofs.Common.{length}
use Rattle.vx_rules.proofs.adding.+first_had_in.Given as goal

abbrev pub decreases-first_had_in : goal.decreases-first_had_in
decreases-first_had_in l = length l.added.now
