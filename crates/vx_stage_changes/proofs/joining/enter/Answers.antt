use Rattle.std.proofs.Common.{◌∷◌, [], subst}
use Rattle.vx_objects.specs.declared.edit.Edit.TheVariants.{AddDisk}
use Rattle.vx_stages.specs.Records.{disk_record}
use Rattle.vx_stage_changes.specs.Planning.{IsPlanned}
use Rattle.vx_stage_changes.proofs.Room.{has_room, offers_none, is_fresh, join_ends}
use Rattle.vx_stage_changes.proofs.joining.enter.Goals as goal

pub add-requires-clause-room : goal.add-requires-clause-room
add-requires-clause-room g c κs within = has_room g.P.Piece.seen c.in-Some.slot c.args.group.now c.requires.kept c.in-Some.ensures

pub add-requires-clause-fresh : goal.add-requires-clause-fresh
add-requires-clause-fresh g c κs within =
    rw c.disk_for.ensures (is_fresh g.P.Piece.seen c.args.pair.now c.in-Some.slot c.sectors-sectors.result c.args.taken c.args.group.now c.requires.kept c.sectors-sectors.ensures c.in-Some.ensures.low
    (c.fits.ensures.more c.if-not-fits.false) (c.fits.ensures.most c.if-not-fits.false) (c.fits.ensures.short c.if-not-fits.false) c.name_is_short.ensures)

pub add-requires-clause-none : goal.add-requires-clause-none
add-requires-clause-none g c κs within = rw c.disk_for.ensures (offers_none c.args.group.now.base.name (g.P.Piece.seen c.args.taken.piece).told c.requires.blank)

pub returns-clause-ends : goal.returns-clause-ends
returns-clause-ends g c =
    join_ends g.P.Piece.seen c.args.pair.now c.args.taken c.disk_for.result c.in-Some.slot c.in-Ok.next c.args.group.now c.add.new.group c.add.result c.disk_for.ensures c.in-Some.ensures
    (is_fresh g.P.Piece.seen c.args.pair.now c.in-Some.slot c.sectors-sectors.result c.args.taken c.args.group.now c.requires.kept c.sectors-sectors.ensures c.in-Some.ensures.low
    (c.fits.ensures.more c.if-not-fits.false) (c.fits.ensures.most c.if-not-fits.false) (c.fits.ensures.short c.if-not-fits.false) c.name_is_short.ensures)
    (subst (λ n. IsPlanned (AddDisk (disk_record c.args.pair.now c.in-Some.slot n) ∷ []) c.args.group.now.config c.in-Ok.next) c.sectors-sectors.ensures c.in-Ok.ensures.planned) c.add.ensures.ends
