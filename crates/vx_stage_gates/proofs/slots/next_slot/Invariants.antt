use Rattle.std.proofs.Common.{◌≡◌, ℕ, ◌<◌, ◌≤◌, ◌-◌, true}
use Rattle.vx_stage_gates.proofs.Lowest.{has_slot}
use Rattle.vx_stage_gates.proofs.slots.next_slot.Given as goal

abbrev pub invariant-slots : goal.invariant-slots
invariant-slots l = record {
  low : l.slot ≤ 32;
  taken : (k : ℕ) → k < l.slot → has_slot k l.config ≡ true;
}

abbrev pub decreases-slots : goal.decreases-slots
decreases-slots l = 32 - l.slot
