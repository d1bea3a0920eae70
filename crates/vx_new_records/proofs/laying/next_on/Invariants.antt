use Rattle.std.proofs.Common.{◌≡◌, drop}
use Rattle.vx_new_volumes.specs.Laying.{next_on}
use Rattle.vx_new_records.proofs.laying.next_on.Given as goal

abbrev pub invariant-loop-next : goal.invariant-loop-next
invariant-loop-next l = next_on (drop l.next-index l.nexts) l.disk ≡ next_on l.nexts l.disk
