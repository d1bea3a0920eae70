use Rattle.std.proofs.Common.{rules, sym, arith}
use Rattle.vx_rules.proofs.Below.{all_below_fails}
use Rattle.vx_rules.proofs.scans.columns_are_equal.Goals as goal

pub returns-then-not-column_is : goal.returns-then-not-column_is
returns-then-not-column_is c = sym (all_below_fails _ c.loop-col.col c.args.plex.now.ncol (omega arith) (search rules))
