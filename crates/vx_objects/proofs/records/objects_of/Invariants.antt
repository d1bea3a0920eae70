use Rattle.std.proofs.Common.{take}
use Rattle.vx_objects.specs.Printed.{AreReadAs}
use Rattle.vx_objects.proofs.records.objects_of.Given as goal

abbrev pub invariant-loop-entry : goal.invariant-loop-entry
invariant-loop-entry l = record {
  read : AreReadAs (take l.entry-index l.records) l.all.items;
}
