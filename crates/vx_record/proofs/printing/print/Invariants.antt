use Rattle.std.proofs.Common.{◌≡◌, ◌++◌, take}
use Rattle.vx_record.specs.Grammar.{AreRecords, records_text}
use Rattle.vx_record.proofs.printing.print.Given as goal

abbrev pub invariant-loop-record : goal.invariant-loop-record
invariant-loop-record l = record {
  text : l.out.items ≡ l.fn.out.items ++ records_text (take l.record-index l.records);
  form : AreRecords (take l.record-index l.records);
}
