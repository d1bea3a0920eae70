use Rattle.std.proofs.Common.{◌∙◌, Some, map, sym, ap}
use Rattle.vx_house.specs.Holders.{disk_holder, group_holders}
use Rattle.vx_house.proofs.Returns.{disks_each, disks_apart}
use Rattle.vx_house.proofs.giving.give_group.Goals as goal

pub give_disks-requires-clause-each : goal.give_disks-requires-clause-each
give_disks-requires-clause-each g c κs within = disks_each g.S.P.Piece.seen c.args.house.now _
    (ap (map (disk_holder g.S.P.Piece.seen)) c.deport.ensures ∙ c.in-Ok.ensures.closed ∙ ap (group_holders g.S.P.Piece.seen) (sym c.in-Some.is ∙ c.take.ensures.value))
    (g.S.Shelf.held c.args.shelf.now) c.requires.held.each

pub give_disks-requires-clause-apart : goal.give_disks-requires-clause-apart
give_disks-requires-clause-apart g c κs within = disks_apart g.S.P.Piece.seen c.args.house.now _
    (ap (map (disk_holder g.S.P.Piece.seen)) c.deport.ensures ∙ c.in-Ok.ensures.closed ∙ ap (group_holders g.S.P.Piece.seen) (sym c.in-Some.is ∙ c.take.ensures.value))
    c.requires.held.apart
