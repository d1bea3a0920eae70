use Rattle.std.proofs.Common.{◌≡◌, ◌==◌, ◌&&◌, true, List}
use Rattle.vx_config_parts.specs.declared.object.Object.{Object}
use Rattle.vx_rules.specs.Below.{all_below}
use Rattle.vx_rules.specs.Columns.{column_length}
use Rattle.vx_rules.specs.Indexed.{IsIndexed, column_is_whole}
use Rattle.vx_rules.proofs.columns.Columns.all_are.Given as goal

abbrev pub invariant-loop-col : goal.invariant-loop-col
invariant-loop-col l = (all : List Object) → IsIndexed all l.self.map → all_below l.col (λ c. column_is_whole all l.plex.name c && column_length all l.plex.name c == l.length) ≡ true
