use Rattle.std.proofs.Common.{rules, ◌≡◌, [], refl}
use Rattle.vx_volume_rows.proofs.Parts.{none_behind, opened_parted}
use Rattle.vx_volume_rows.proofs.rows.opened.Goals as goal

pub started-requires-clause-disks : goal.started-requires-clause-disks
started-requires-clause-disks c = rw c.deref-2.ensures.value ((rw c.deref-else-not-differ.ensures.value at c.are_group_disks.ensures) c.if-not-are_group_disks.false)

pub started-requires-clause-parted : goal.started-requires-clause-parted
started-requires-clause-parted c =
    let none : c.from_vec-pool.result.items.items ≡ [] = search rules in
    opened_parted _ _ _ c.open_group.new.pool.items.items c.open_group.new.pool.items.items refl (c.open_group.ensures.same [] (none_behind _ c.from_vec-pool.result.items.items none c.requires))
