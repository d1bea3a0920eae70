use Rattle.std.proofs.Common.{◌≡◌, ◌++◌, take, drop}
use Rattle.vx_new_volumes.specs.Laying.{with_next}
use Rattle.vx_new_records.proofs.laying.set_next.Given as goal

abbrev pub invariant-loop-index : goal.invariant-loop-index
invariant-loop-index l = record {
  same : l.nexts.items ≡ l.initial.nexts.items;
  goes_on : take l.index l.nexts.items ++ with_next l.disk l.number (drop l.index l.nexts.items) ≡ with_next l.disk l.number l.nexts.items;
}
