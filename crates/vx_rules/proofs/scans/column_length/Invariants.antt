use Rattle.std.proofs.Common.{◌≡◌, ◌<◌, drop}
use Rattle.std.specs.List.{fold}
use Rattle.vx_rules.specs.Columns.{end_with, column_length}
use Rattle.vx_rules.proofs.scans.column_length.Given as goal

abbrev pub invariant-loop-object : goal.invariant-loop-object
invariant-loop-object l = (fold (end_with l.plex l.col) l.end (drop l.object-index l.all) ≡ column_length l.all l.plex l.col) × (l.end < 36893488147419103232)
