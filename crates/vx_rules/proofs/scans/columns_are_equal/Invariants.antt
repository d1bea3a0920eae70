use Rattle.std.proofs.Common.{◌≡◌, ◌==◌, ◌&&◌, true}
use Rattle.vx_rules.specs.Below.{all_below}
use Rattle.vx_rules.specs.Columns.{column_begins, column_length}
use Rattle.vx_rules.proofs.scans.columns_are_equal.Given as goal

abbrev pub invariant-loop-col : goal.invariant-loop-col
invariant-loop-col l = all_below l.col (λ c. column_begins l.all l.plex.name c && column_length l.all l.plex.name c == column_length l.all l.plex.name 0) ≡ true
