use Rattle.std.proofs.Common.{arith}
use Rattle.vx_new_volumes.proofs.Numbers.{small, row_some, row_most, column_most}
use Rattle.vx_new_volumes.proofs.length.column_length.Goals as goal

pub overflow_sub-rows : goal.overflow_sub-rows
overflow_sub-rows c = let some = row_some c.args.request.now c.requires in omega (arith, some)

pub overflow_add-rows : goal.overflow_add-rows
overflow_add-rows c =
    let most = row_most c.args.request.now c.requires in
    let length = (small c.args.request.now c.requires).length in
    omega (arith, most, length)

pub nonzero_div-rows : goal.nonzero_div-rows
nonzero_div-rows c = let some = row_some c.args.request.now c.requires in omega (arith, some)

pub overflow_mul-result : goal.overflow_mul-result
overflow_mul-result c = let most = column_most c.args.request.now c.requires in omega (arith, most)
