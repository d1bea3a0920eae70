use Rattle.std.proofs.Common.{arith}
use Rattle.vx_names.proofs.Numbers.{decimal_name, decimal_short}
use Rattle.vx_names.proofs.Padding.{padded_word}
use Rattle.vx_names.proofs.name.Name.number.Goals as goal

pub invariant_of-result : goal.invariant_of-result
invariant_of-result c =
    rw (c.copy_from_slice.ensures.after, c.as_bytes-digits.ensures.value, c.format.ensures.text)
    (padded_word _ (decimal_short c.args.number (omega arith)) (decimal_name c.args.number (omega arith)))
