use Rattle.std.proofs.Common.{arith}
use Rattle.vx_script_words.proofs.Lines.{items_fail}
use Rattle.vx_script_words.proofs.line.items.Goals as goal

pub returns-in-Err : goal.returns-in-Err
returns-in-Err c = items_fail c.in-Err.stop c.args.form.now c.loop-part.part-index _ _ _ _ (omega arith) c.in-Err.ensures c.loop-part.invariant
