use Rattle.std.proofs.Common.{arith}
use Rattle.std.proofs.lemmas.List.Sums.{prefix_len-le-length}
use Rattle.vx_names.specs.Number.{is_digit}
use Rattle.vx_names.proofs.length.numeral_front.Goals as goal

pub returns-else-begins_with-clause-inside : goal.returns-else-begins_with-clause-inside
returns-else-begins_with-clause-inside c = omega (arith, c.digits_front.ensures, prefix_len-le-length is_digit c.args.word.now)
