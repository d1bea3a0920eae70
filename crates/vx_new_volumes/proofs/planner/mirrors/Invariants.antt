use Rattle.std.proofs.Common.{◌≡◌, ◌-◌, []}
use Rattle.vx_new_volumes.specs.Steps.{repeated}
use Rattle.vx_new_volumes.specs.Rule.{mirror}
use Rattle.vx_new_volumes.proofs.planner.mirrors.Given as goal

abbrev pub invariant-loop : goal.invariant-loop
invariant-loop l = repeated (mirror l.request) (l.request.mirrors - l.counter) l.done.items l.disks.items l.free ≡ repeated (mirror l.request) l.request.mirrors [] l.initial.disks.items l.initial.free
