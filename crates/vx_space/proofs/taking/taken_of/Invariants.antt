use Rattle.std.proofs.Common.{◌≡◌, ◌++◌, drop}
use Rattle.vx_space.specs.Extents.{taken}
use Rattle.vx_space.proofs.taking.taken_of.Given as goal

abbrev pub invariant-loop-extent : goal.invariant-loop-extent
invariant-loop-extent l = l.found.items ++ taken l.disk l.lacking (drop l.extent-index l.extents) ≡ taken l.disk l.count l.extents
