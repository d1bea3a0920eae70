use Rattle.std.proofs.Common.{◌+◌, arith}
use Rattle.std.proofs.lemmas.Grind.{common_steps}
use Rattle.vx_script.proofs.Splits.{lines_start, take_rest, split_here, split_end}
use Rattle.vx_script.proofs.lines.split_line.Goals as goal

pub loop-n-init : goal.loop-n-init
loop-n-init c = lines_start c.args.text.now

pub returns-then-b-eq10-clause-lines : goal.returns-then-b-eq10-clause-lines
returns-then-b-eq10-clause-lines c =
    split_here c.args.text.now _ c.loop-n.n (omega arith) c.if-b-eq10.true (take_rest c.args.text.now (c.loop-n.n + 1)) c.loop-n.invariant

pub returns-clause-lines : goal.returns-clause-lines
returns-clause-lines c =
    split_end c.args.text.now _ c.loop-n.n c.requires (omega arith) (grind (arith, common_steps)) c.loop-n.invariant
