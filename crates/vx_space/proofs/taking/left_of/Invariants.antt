use Rattle.std.proofs.Common.{◌≡◌, ◌++◌, drop}
use Rattle.vx_space.specs.Extents.{left}
use Rattle.vx_space.proofs.taking.left_of.Given as goal

abbrev pub invariant-loop-extent : goal.invariant-loop-extent
invariant-loop-extent l = l.found.items ++ left l.disk l.lacking (drop l.extent-index l.extents) ≡ left l.disk l.count l.extents
