use Rattle.std.proofs.Common.{◌≡◌, ◌+◌, ◌-◌, ◌≤◌, ◌++◌, length, drop}
use Rattle.vx_record.specs.Grammar.{AreRecords, lines, records_lines}
use Rattle.vx_record.proofs.reading.read.Given as goal

abbrev pub invariant-loop-at : goal.invariant-loop-at
invariant-loop-at l = record {
  inside : l.at ≤ length l.text;
  lines : lines l.text ≡ records_lines l.records.items ++ lines (drop l.at l.text);
  valid : AreRecords l.records.items;
  count : l.line ≡ length (records_lines l.records.items) + 1;
}

abbrev pub decreases-loop-at : goal.decreases-loop-at
decreases-loop-at l = length l.text - l.at
