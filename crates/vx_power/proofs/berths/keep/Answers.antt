use Rattle.std.proofs.Common.{ap}
use Rattle.vx_power.proofs.BerthLemmas.{gone_set, has_set}
use Rattle.vx_power.proofs.berths.keep.Goals as goal

pub returns-clause-gone : goal.returns-clause-gone
returns-clause-gone c =
    let found = rw c.as_slice.ensures.value at c.in-Some.ensures in
    let berth = c.index_mut-berth.result.now in
    gone_set c.args.berths.now.items c.args.name.now c.in-Some.i (berth.0, c.args.wire) berth found.1 (ap (λ b. b.0) c.index_mut-berth.ensures.value)

pub returns-clause-same : goal.returns-clause-same
returns-clause-same c =
    let berth = c.index_mut-berth.result.now in
    has_set c.args.berths.now.items c.in-Some.i (berth.0, c.args.wire) berth (ap (λ b. b.0) c.index_mut-berth.ensures.value)
