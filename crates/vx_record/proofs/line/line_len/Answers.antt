use Rattle.std.proofs.Common.{◌+◌, arith}
use Rattle.std.proofs.lemmas.List.Sums.{prefix_len-le-length}
use Rattle.vx_record.proofs.ReadLines.{first_line, is_other}
use Rattle.vx_record.proofs.line.line_len.Goals as goal

pub returns-then-front-text-clause-first : goal.returns-then-front-text-clause-first
returns-then-front-text-clause-first c = λ some. first_line c.args.text.now (c.front_len-front.result + 1) some (omega (arith, c.front_len-front.ensures))

pub returns-else-front-text-clause-inside : goal.returns-else-front-text-clause-inside
returns-else-front-text-clause-inside c = omega (arith, c.front_len-front.ensures, prefix_len-le-length (is_other 10) c.args.text.now)

pub returns-else-front-text-clause-first : goal.returns-else-front-text-clause-first
returns-else-front-text-clause-first c = λ some. first_line c.args.text.now c.front_len-front.result some (omega (arith, c.front_len-front.ensures, prefix_len-le-length (is_other 10) c.args.text.now))
