use Rattle.std.proofs.Common.{◌≡◌, ◌+◌, drop}
use Rattle.vx_space.specs.Extents.{total}
use Rattle.vx_space.proofs.taking.total_of.Given as goal

abbrev pub invariant-loop-extent : goal.invariant-loop-extent
invariant-loop-extent l = l.total + total l.disk (drop l.extent-index l.extents) ≡ total l.disk l.extents
