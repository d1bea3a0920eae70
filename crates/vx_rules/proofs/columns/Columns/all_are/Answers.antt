use Rattle.std.proofs.Common.{sym, ◌∙◌, arith}
use Rattle.vx_rules.proofs.Below.{all_below_fails}
use Rattle.vx_rules.proofs.columns.Columns.all_are.Goals as goal

pub returns-then-not-is_whole : goal.returns-then-not-is_whole
returns-then-not-is_whole c = λ all indexed. sym (all_below_fails _ c.loop-col.col c.args.plex.now.ncol (omega arith) (sym (c.is_whole.ensures all indexed) ∙ c.if-not-is_whole.true))
