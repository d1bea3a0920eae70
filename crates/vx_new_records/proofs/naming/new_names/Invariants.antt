use Rattle.std.proofs.Common.{◌≡◌, ◌-◌, []}
use Rattle.vx_new_volumes.specs.Naming.{names_behind}
use Rattle.vx_new_records.proofs.naming.new_names.Given as goal

abbrev pub invariant-loop : goal.invariant-loop
invariant-loop l =
    names_behind (l.count - l.counter) l.names.items l.known.names.items l.stem l.from ≡ names_behind l.count [] l.known.names.items l.stem 1
