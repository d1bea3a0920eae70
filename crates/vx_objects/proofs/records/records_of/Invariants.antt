use Rattle.std.proofs.Common.{◌≡◌, ◌++◌, true, drop, map}
use Rattle.std.specs.List.{list_all}
use Rattle.vx_objects.specs.Printed.{has_record, record_of}
use Rattle.vx_objects.proofs.records.records_of.Given as goal

abbrev pub invariant-loop-object : goal.invariant-loop-object
invariant-loop-object l = record {
  fit : list_all has_record (drop l.object-index l.all) ≡ true;
  made : l.records.items ++ map record_of (drop l.object-index l.all) ≡ map record_of l.all;
}
