use Rattle.std.proofs.Common.{◌≡◌, ◌+◌, ◌++◌, drop}
use Rattle.vx_layout.specs.Columns.{column_length}
use Rattle.vx_layout.specs.Ends.{ends_of}
use Rattle.vx_layout.proofs.column.Column.from_vec.Given as goal

abbrev pub invariant-loop-strip : goal.invariant-loop-strip
invariant-loop-strip l = record {
  size : l.end + column_length (drop l.strip-index l.strip-items) ≡ column_length l.fn.strips.items;
  ends : l.ends.items ++ ends_of l.end (drop l.strip-index l.strip-items) ≡ ends_of 0 l.fn.strips.items;
}
