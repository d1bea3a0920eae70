use Rattle.std.proofs.Common.{◌≡◌, ◌-◌, []}
use Rattle.vx_new_volumes.specs.Steps.{place, repeated}
use Rattle.vx_new_volumes.proofs.place.places.Given as goal

abbrev pub invariant-loop : goal.invariant-loop
invariant-loop l = repeated (place l.need) (l.count - l.counter) l.done.items l.disks.items l.free ≡ repeated (place l.need) l.count [] l.initial.disks.items l.initial.free
