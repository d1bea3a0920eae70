use Rattle.std.proofs.Common.{◌≤◌, ◌-◌}
use Rattle.vx_stage_volumes.proofs.numbering.spare_number.Given as goal

abbrev pub invariant-numbers : goal.invariant-numbers
invariant-numbers g l = l.fn.from ≤ l.number

abbrev pub decreases-numbers : goal.decreases-numbers
decreases-numbers g l = 4294967295 - l.number
