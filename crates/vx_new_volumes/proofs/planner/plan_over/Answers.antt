use Rattle.std.proofs.Common.{arith}
use Rattle.std.proofs.lemmas.Nat.{mul-le}
use Rattle.vx_new_volumes.proofs.Numbers.{small}
use Rattle.vx_new_volumes.proofs.planner.plan_over.Goals as goal

pub overflow_mul-needed : goal.overflow_mul-needed
overflow_mul-needed c =
    let s = small c.args.request.now c.requires in
    let le = mul-le c.args.request.now.mirrors c.args.request.now.ncol 8 16 s.mirrors s.few in
    omega (arith, le)
