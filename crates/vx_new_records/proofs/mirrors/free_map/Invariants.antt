use Rattle.std.proofs.Common.{◌≡◌, ◌-◌}
use Rattle.vx_new_volumes.specs.Mirrors.{free_map_from, free_map}
use Rattle.vx_new_records.proofs.mirrors.free_map.Given as goal

abbrev pub invariant-loop-map : goal.invariant-loop-map
invariant-loop-map l = free_map_from (30 - l.map) l.map l.group l.vol ≡ free_map l.group l.vol
