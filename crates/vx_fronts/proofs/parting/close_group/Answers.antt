use Rattle.std.proofs.Common.{rules, ◌≡◌, sym, subst, map}
use Rattle.vx_copies.specs.Disks.{disk_seen}
use Rattle.vx_copies.specs.Lists.{AllOf}
use Rattle.vx_fronts.specs.Parted.{IsWhole}
use Rattle.vx_fronts.proofs.Alive.{group_same}
use Rattle.vx_fronts.proofs.Steps.{counts_again, none, none_seen, on_ok, same_alone, seen_parts, whole_again}
use Rattle.vx_fronts.proofs.parting.close_group.Goals as goal

pub returns-clause-same : goal.returns-clause-same
returns-clause-same g c =
    let old : c.swap_disks-disks.result.items ≡ c.args.group.now.disks.items = search rules in
    let new : c.swap_disks-none.new.self.disks.items ≡ c.part_disks-disks.result.0.items = search rules in
    same_alone g.P.Piece.seen c.each_piece_ends.ensures.ends c.each_piece_ends.ensures.counts c.args.group.now.disks.items c.swap_disks-none.new.self.disks.items _ _ c.requires.parted
    (seen_parts g.P.Piece.seen c.swap_disks-disks.result.items c.part_disks-disks.result.0.items c.args.group.now.disks.items c.swap_disks-none.new.self.disks.items _ _ old new c.part_disks-disks.ensures.parts)

pub returns-clause-closed : goal.returns-clause-closed
returns-clause-closed g c =
    let new : c.swap_disks-none.new.self.disks.items ≡ c.part_disks-disks.result.0.items = search rules in
    on_ok c.part_disks-disks.result.1 _ _ (λ all. subst (λ ds. AllOf IsWhole (map (disk_seen g.P.Piece.seen) ds)) (sym new) all) c.part_disks-disks.ensures.formed

pub returns-clause-empty : goal.returns-clause-empty
returns-clause-empty g c = on_ok c.part_disks-disks.result.1 _ _ (λ all. none_seen g.P.Piece.seen c.part_disks-disks.new.pool.items.items (none _ _ _ _ (returns-clause-same g c) all)) (returns-clause-closed g c)

pub returns-clause-counts : goal.returns-clause-counts
returns-clause-counts g c = on_ok c.part_disks-disks.result.1 _ _ (λ all. counts_again _ _ _ _ (returns-clause-same g c) all) (returns-clause-closed g c)

pub returns-clause-whole : goal.returns-clause-whole
returns-clause-whole g c = on_ok c.part_disks-disks.result.1 _ _ (λ all. whole_again _ _ _ _ (returns-clause-same g c) all) (returns-clause-closed g c)

pub returns-clause-alive : goal.returns-clause-alive
returns-clause-alive g c =
    let old : c.swap_disks-disks.result.items ≡ c.args.group.now.disks.items = search rules in
    let new : c.swap_disks-none.new.self.disks.items ≡ c.part_disks-disks.result.0.items = search rules in
    group_same g.P.Piece.seen c.args.group.now c.swap_disks-none.new.self (search rules) (search rules) (search rules)
    ((seen_parts g.P.Piece.seen c.swap_disks-disks.result.items c.part_disks-disks.result.0.items c.args.group.now.disks.items c.swap_disks-none.new.self.disks.items _ _ old new c.part_disks-disks.ensures.parts).disks)
