use Rattle.std.proofs.Common.{◌≡◌, ℕ, ◌+◌, ◌-◌, ◌<◌, ◌≤◌, ◌++◌, List, Some, vec_len}
use Rattle.vx_base.specs.Counts.{later_count}
use Rattle.vx_run.specs.Top.{longest}
use Rattle.vx_run.proofs.source.read_all.Given as goal

-- what was read so far, and what is left
abbrev pub invariant-reads : goal.invariant-reads
invariant-reads g l = record {
  told : (bytes : List ℕ) → g.A.Source.left l.fn.source ≡ Some bytes → (rest : List ℕ) × (g.A.Source.left l.source ≡ Some rest) × (bytes ≡ l.all.items ++ rest);
  few : vec_len l.all ≤ longest;
  buffer : 0 < vec_len l.buffer;
  passed : g.A.Source.passed l.source ≤ g.A.Source.passed l.fn.source + vec_len l.all;
  passed_all : later_count (g.A.Source.passed l.fn.source) (vec_len l.all) ≤ g.A.Source.passed l.source;
  later : g.A.Source.faults l.fn.source ≤ g.A.Source.faults l.source;
  quiet : g.A.Source.faults l.source ≡ g.A.Source.faults l.fn.source;
}

abbrev pub decreases-reads : goal.decreases-reads
decreases-reads g l = longest + 1 - vec_len l.all
