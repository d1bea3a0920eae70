use Rattle.std.proofs.Common.{rules, ◌≡◌, sym, subst, map}
use Rattle.vx_copies.specs.Disks.{disk_seen}
use Rattle.vx_copies.specs.Lists.{AllOf}
use Rattle.vx_fronts.specs.Parted.{IsCutShort}
use Rattle.vx_fronts.proofs.Alive.{group_same}
use Rattle.vx_fronts.proofs.Steps.{on_ok, same_devices, seen_parts}
use Rattle.vx_fronts.proofs.parting.open_group.Goals as goal

pub returns-clause-parts : goal.returns-clause-parts
returns-clause-parts g c =
    let old : c.swap_disks-disks.result.items ≡ c.args.group.now.disks.items = search rules in
    let new : c.swap_disks-none.new.self.disks.items ≡ c.part_disks-disks.result.0.items = search rules in
    seen_parts g.P.Piece.seen c.swap_disks-disks.result.items c.part_disks-disks.result.0.items c.args.group.now.disks.items c.swap_disks-none.new.self.disks.items _ _ old new c.part_disks-disks.ensures.parts

pub returns-clause-same : goal.returns-clause-same
returns-clause-same g c = λ lent parted.
    let old : c.swap_disks-disks.result.items ≡ c.args.group.now.disks.items = search rules in
    let new : c.swap_disks-none.new.self.disks.items ≡ c.part_disks-disks.result.0.items = search rules in
    same_devices g.P.Piece.seen c.each_piece_ends.ensures.ends c.each_piece_ends.ensures.counts lent c.args.group.now.disks.items c.swap_disks-none.new.self.disks.items _ _ parted
    (seen_parts g.P.Piece.seen c.swap_disks-disks.result.items c.part_disks-disks.result.0.items c.args.group.now.disks.items c.swap_disks-none.new.self.disks.items _ _ old new c.part_disks-disks.ensures.parts)

pub returns-clause-opened : goal.returns-clause-opened
returns-clause-opened g c =
    let new : c.swap_disks-none.new.self.disks.items ≡ c.part_disks-disks.result.0.items = search rules in
    on_ok c.part_disks-disks.result.1 _ _ (λ all. subst (λ ds. AllOf IsCutShort (map (disk_seen g.P.Piece.seen) ds)) (sym new) all) c.part_disks-disks.ensures.formed

pub returns-clause-alive : goal.returns-clause-alive
returns-clause-alive g c =
    let old : c.swap_disks-disks.result.items ≡ c.args.group.now.disks.items = search rules in
    let new : c.swap_disks-none.new.self.disks.items ≡ c.part_disks-disks.result.0.items = search rules in
    group_same g.P.Piece.seen c.args.group.now c.swap_disks-none.new.self (search rules) (search rules) (search rules)
    ((seen_parts g.P.Piece.seen c.swap_disks-disks.result.items c.part_disks-disks.result.0.items c.args.group.now.disks.items c.swap_disks-none.new.self.disks.items _ _ old new c.part_disks-disks.ensures.parts).disks)
