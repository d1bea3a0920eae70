use Rattle.std.proofs.Common.{rules, ◌≡◌, []}
use Rattle.vx_volume_rows.proofs.Parts.{none_behind, opened_parted}
use Rattle.vx_volume_rows.proofs.parted.opened.Goals as goal

pub closed-requires : goal.closed-requires
closed-requires c =
    let none : c.from_vec-pool.result.items.items ≡ [] = search rules in
    opened_parted _ _ _ c.open_group.new.pool.items.items c.in_ok-pool.pool.items.items c.in_ok-pool.ensures (c.open_group.ensures.same [] (none_behind _ c.from_vec-pool.result.items.items none c.requires))
