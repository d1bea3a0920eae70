use Rattle.std.proofs.Common.{◌≡◌, ◌-◌, suc, length}
use Rattle.vx_new_volumes.specs.Naming.{free_name, next_name}
use Rattle.vx_new_records.proofs.naming.next_name.Given as goal

abbrev pub invariant-loop : goal.invariant-loop
invariant-loop l = free_name (suc (length l.known.names.items) - l.counter) l.known.names.items l.stem l.number ≡ next_name l.known.names.items l.stem l.from
