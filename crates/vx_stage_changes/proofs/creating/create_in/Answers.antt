use Rattle.std.proofs.Common.{arith}
use Rattle.vx_stage_changes.proofs.Enlistment.{all_unwritten, unfounded_long}
use Rattle.vx_stage_changes.proofs.creating.create_in.Goals as goal

pub found-requires-clause-unwritten : goal.found-requires-clause-unwritten
found-requires-clause-unwritten g c κs within =
    let few = rw c.in-Ok.ensures.disks at c.in-Ok.ensures.few in
    rw c.in-Ok.ensures.disks (all_unwritten g.P.Piece.seen 0 c.args.hand.now.items c.args.pairs.now (omega (arith, few)) c.requires.blank)

pub give_back-requires-clause-room : goal.give_back-requires-clause-room
give_back-requires-clause-room g c κs within =
    let long = unfounded_long g.P.Piece.seen c.args.dg.now c.in-Err.field-0.stop c.in-Ok.disks.items c.in-Err.field-0.disks.items c.in-Err.ensures.ends in
    let room = c.in-Ok.ensures.room in omega (arith, long, room)
