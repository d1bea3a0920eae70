use Rattle.std.proofs.Common.{◌<◌, ◌≤◌, ◌-◌, length, take}
use Rattle.vx_copies.specs.Lists.{AllOf}
use Rattle.vx_stage_import.specs.Places.{slots_of}
use Rattle.vx_stage_import.proofs.placing.place_of.Given as goal

abbrev pub invariant-slots : goal.invariant-slots
invariant-slots g l = record {
  most : l.i ≤ length l.found;
  lower : AllOf (λ n. n < l.slot) (take l.i (slots_of l.found));
}

abbrev pub decreases-slots : goal.decreases-slots
decreases-slots g l = length l.found - l.i
