use Rattle.std.proofs.Common.{◌≤◌, ◌+◌, ◌-◌}
use Rattle.vx_layout.specs.Runs.{IsRun, AreRuns}
use Rattle.vx_layout.proofs.RunLemmas.{IsLastApart}
use Rattle.vx_layout.proofs.layout.Layout.runs_of.Given as goal

abbrev pub invariant-loop-open : goal.invariant-loop-open
invariant-loop-open l = record {
  runs : AreRuns l.self.unit l.self.columns l.fn.span.start l.open.block l.runs.items;
  last : IsLastApart l.runs.items l.open;
  run : IsRun l.self.unit l.self.columns l.open;
  inside : l.open.block + l.open.count ≤ l.end;
}

abbrev pub decreases-loop-open : goal.decreases-loop-open
decreases-loop-open l = l.end - (l.open.block + l.open.count)
