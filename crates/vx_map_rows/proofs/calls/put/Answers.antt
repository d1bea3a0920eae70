use Rattle.std.proofs.Common.{rules, ◌≡◌, ◌≢◌, ◌<◌, ◌^◌, true}
use Rattle.std.specs.Prelude.{nat_lt}
use Rattle.vx_map_rows.proofs.Masks.{map_below}
use Rattle.vx_map_rows.proofs.calls.put.Goals as goal

pub mark-requires : goal.mark-requires
mark-requires c =
    let known : nat_lt c.args.region c.args.store.now.base.shape.regions ≡ true = search rules in
    let small : c.args.bits < 2 ^ 32 = search rules in
    let some : c.args.bits ≢ 0 = search rules in
    record { known = known; maps = λ k there. map_below c.args.bits 32 k small there; some = some }

pub unmark-requires : goal.unmark-requires
unmark-requires c =
    let known : nat_lt c.args.region c.args.store.now.base.shape.regions ≡ true = search rules in
    let small : c.args.bits < 2 ^ 32 = search rules in
    let some : c.args.bits ≢ 0 = search rules in
    record { known = known; maps = λ k there. map_below c.args.bits 32 k small there; some = some }
