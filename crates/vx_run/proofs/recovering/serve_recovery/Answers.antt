use Rattle.vx_plans.specs.Steps.{DoesRecover}
use Rattle.vx_recovery.specs.Going.{RecoversShort}
use Rattle.vx_house.specs.Scene.{shelved}
use Rattle.vx_house.proofs.Ends.{whole_kept}
use Rattle.vx_run.proofs.CommandEnds.{over_ends}
use Rattle.vx_run.proofs.Recovered.{recovery_done, recovery_ended, recovery_holds, recovery_short, recovery_whole}
use Rattle.vx_run.proofs.recovering.serve_recovery.Goals as goal

pub recover-requires-clause-held : goal.recover-requires-clause-held
recover-requires-clause-held g c κs within = (shelved g.S.Shelf.free g.S.Shelf.held g.S.Shelf.counted g.S.Shelf.faults c.args.shelf.now, c.requires.keeps.devices)

pub over-requires-clause-held : goal.over-requires-clause-held
over-requires-clause-held g c κs within = (c.in-Ok.ensures.goes (shelved g.S.Shelf.free g.S.Shelf.held g.S.Shelf.counted g.S.Shelf.faults c.args.shelf.now) c.requires.keeps.devices).keeps.devices

pub over-requires-clause-whole : goal.over-requires-clause-whole
over-requires-clause-whole g c κs within = whole_kept g.S.P.Piece.seen c.recover.new.house.group (c.in-Ok.ensures.goes (shelved g.S.Shelf.free g.S.Shelf.held g.S.Shelf.counted g.S.Shelf.faults c.args.shelf.now) c.requires.keeps.devices).keeps.house.group

pub over-requires-in-Err-Ended-clause-held : goal.over-requires-in-Err-Ended-clause-held
over-requires-in-Err-Ended-clause-held g c κs within = recovery_holds g.S.P.Piece.seen c.args.group c.args.vol c.recover.new.views.items _ _ c.in-Err-Ended.field-0 (c.in-Err-Ended.ensures.goes (shelved g.S.Shelf.free g.S.Shelf.held g.S.Shelf.counted g.S.Shelf.faults c.args.shelf.now) c.requires.keeps.devices)

pub over-requires-in-Err-Ended-clause-whole : goal.over-requires-in-Err-Ended-clause-whole
over-requires-in-Err-Ended-clause-whole g c κs within = recovery_whole g.S.P.Piece.seen c.args.group c.args.vol c.recover.new.views.items _ _ c.in-Err-Ended.field-0 (c.in-Err-Ended.ensures.goes (shelved g.S.Shelf.free g.S.Shelf.held g.S.Shelf.counted g.S.Shelf.faults c.args.shelf.now) c.requires.keeps.devices)

pub rest-requires-clause-held : goal.rest-requires-clause-held
rest-requires-clause-held g c κs within = recovery_holds g.S.P.Piece.seen c.args.group c.args.vol c.recover.new.views.items _ _ c.in-Err-OutOfMemory.field-0 (c.in-Err-OutOfMemory.ensures.goes (shelved g.S.Shelf.free g.S.Shelf.held g.S.Shelf.counted g.S.Shelf.faults c.args.shelf.now) c.requires.keeps.devices)

pub returns-in-Ok : goal.returns-in-Ok
returns-in-Ok g c = record {
  goes = over_ends g.S.P.Piece.seen (DoesRecover c.args.group c.args.vol) (RecoversShort c.args.vol) c.over.result c.from_vec.result c.done.result _ _ _ c.over.ensures.told c.over.ensures.left c.over.ensures.held_up
      (λ left. rw (c.done.ensures, c.from_vec.ensures)
      (recovery_done g.S.P.Piece.seen c.args.group c.args.vol c.recover.new.views.items _ _ _
      (c.in-Ok.ensures.goes (shelved g.S.Shelf.free g.S.Shelf.held g.S.Shelf.counted g.S.Shelf.faults c.args.shelf.now) c.requires.keeps.devices) (rw c.done.ensures at left)));
}

pub returns-in-Err-Ended : goal.returns-in-Err-Ended
returns-in-Err-Ended g c = record {
  goes = over_ends g.S.P.Piece.seen (DoesRecover c.args.group c.args.vol) (RecoversShort c.args.vol) c.over-in-Err-Ended.result c.from_vec-in-Err-Ended.result c.in-Err-Ended.end _ _ _ c.over-in-Err-Ended.ensures.told c.over-in-Err-Ended.ensures.left c.over-in-Err-Ended.ensures.held_up
      (λ left. rw c.from_vec-in-Err-Ended.ensures
      (recovery_ended g.S.P.Piece.seen c.args.group c.args.vol c.recover.new.views.items _ _ c.in-Err-Ended.end _
      (rw c.in-Err-Ended.field-0-is at c.in-Err-Ended.ensures.goes (shelved g.S.Shelf.free g.S.Shelf.held g.S.Shelf.counted g.S.Shelf.faults c.args.shelf.now) c.requires.keeps.devices) left));
}

pub returns-in-Err-OutOfMemory : goal.returns-in-Err-OutOfMemory
returns-in-Err-OutOfMemory g c = record {
  goes = rw c.rest.ensures.refused
      (recovery_short g.S.P.Piece.seen c.args.group c.args.vol c.recover.new.views.items _ _ _
      (rw c.in-Err-OutOfMemory.field-0-is at c.in-Err-OutOfMemory.ensures.goes (shelved g.S.Shelf.free g.S.Shelf.held g.S.Shelf.counted g.S.Shelf.faults c.args.shelf.now) c.requires.keeps.devices)
      c.rest.ensures.left);
}
