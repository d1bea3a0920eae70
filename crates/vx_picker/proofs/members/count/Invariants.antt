use Rattle.std.proofs.Common.{◌≡◌, ◌≤◌}
use Rattle.vx_picker.specs.Picks.{members_below}
use Rattle.vx_picker.proofs.members.count.Given as goal

abbrev pub invariant-loop-map : goal.invariant-loop-map
invariant-loop-map l = (l.members ≡ members_below l.mask l.map) × (l.members ≤ l.map)
