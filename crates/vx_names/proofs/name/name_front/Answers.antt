use Rattle.std.proofs.Common.{arith}
use Rattle.std.proofs.lemmas.List.Sums.{prefix_len-le-length}
use Rattle.vx_names.specs.Form.{is_name_byte}
use Rattle.vx_names.proofs.name.name_front.Goals as goal

pub returns-then-begins_well-clause-inside : goal.returns-then-begins_well-clause-inside
returns-then-begins_well-clause-inside c = omega (arith, prefix_len-le-length is_name_byte c.args.word.now)
