use Rattle.std.proofs.Common.{◌≡◌, length}
use Rattle.vx_shelf.specs.MemShelf.{are_devices}
use Rattle.vx_shelf.proofs.mem_shelf.MemShelf.accepts.Given as goal

abbrev pub invariant-loop-rest : goal.invariant-loop-rest
invariant-loop-rest l = are_devices l.devices ≡ are_devices l.rest

abbrev pub decreases-loop-rest : goal.decreases-loop-rest
decreases-loop-rest l = length l.rest
