use Rattle.std.proofs.Common.{◌≡◌, ◌<◌, ℕ, None}
use Rattle.vx_layout.specs.Columns.{column_at, sector_at}
use Rattle.vx_layout.proofs.layout.Layout.block_at.Given as goal

-- the columns before have nothing there
abbrev pub invariant-loop-column : goal.invariant-loop-column
invariant-loop-column l = (k : ℕ) → k < l.column → sector_at (column_at l.self.columns k) l.place ≡ None
