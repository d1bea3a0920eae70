use Rattle.std.proofs.Common.{◌≡◌, ◌<◌, ℕ, min, get_or, take}
use Rattle.vx_rules.specs.Maps.{map_uses}
use Rattle.vx_rules.proofs.uses.uses_of_maps.Given as goal

abbrev pub invariant-loop-object : goal.invariant-loop-object
invariant-loop-object l = (m : ℕ) → m < 30 → get_or l.uses m 0 ≡ min 255 (map_uses (take l.object-index l.all) l.vol m)
