use Rattle.std.proofs.Common.{◌≡◌, nat_le, true}
use Rattle.vx_rules.specs.Below.{all_below}
use Rattle.vx_rules.specs.Maps.{map_uses}
use Rattle.vx_rules.proofs.maps.maps_differ.Given as goal

abbrev pub invariant-loop-map : goal.invariant-loop-map
invariant-loop-map l = all_below l.map (λ m. nat_le (map_uses l.all l.vol m) 1) ≡ true
