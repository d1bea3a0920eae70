use Rattle.std.specs.Prelude.{◌≡◌, ◌⊎◌}
use Rattle.vx_plans.specs.Steps.{Runs, RunsShort}
use Rattle.vx_run.proofs.CommandEnds.{can_show, done_goes, ended_goes, ended_from, over_ends, rested_from, rested_goes, world_kept, unshown_goes}
use Rattle.vx_run.proofs.planning.serve_plan.Goals as goal

pub show-requires-after_bounds : goal.show-requires-after_bounds
show-requires-after_bounds g c κs within = can_show g.S.P.Piece.seen c.args.disks.now c.args.plan.now.stages c.args.plan.now.finish _ _ c.requires.sound.shows (rw c.as_slice.ensures at c.in-Ok.ensures.go)

pub returns-in-Ok-show : goal.returns-in-Ok-show
returns-in-Ok-show g c = record {
  goes = over_ends g.S.P.Piece.seen (λ m views end n. Runs c.args.disks.now c.args.plan.now.stages c.args.plan.now.finish m views end n) (λ m n. (n.world ≡ m.world) ⊎ RunsShort c.args.disks.now c.args.plan.now.stages m n) c.over.result c.in-Ok-show.views c.done.result _ _ _ c.over.ensures.told c.over.ensures.left c.over.ensures.held_up
      (λ left. rw c.done.ensures (done_goes g.S.P.Piece.seen c.args.disks.now c.args.plan.now.stages c.args.plan.now.finish c.in-Ok-show.views _ _ _ (rw c.as_slice.ensures at c.in-Ok.ensures.go) c.in-Ok-show.ensures.shows (rw c.done.ensures at left)));
}

pub returns-in-Err : goal.returns-in-Err
returns-in-Err g c = record {
  goes = rw c.rest.ensures.refused
      (unshown_goes g.S.P.Piece.seen c.args.disks.now c.args.plan.now.stages c.args.plan.now.finish _ _ _ (rw c.as_slice.ensures at c.in-Ok.ensures.go) (world_kept c.args.plan.now.stages c.args.plan.now.finish c.in-Err.ensures.wants c.requires.sound.kept) c.rest.ensures.left);
}

pub returns-in-Err-Ended : goal.returns-in-Err-Ended
returns-in-Err-Ended g c = record {
  goes = over_ends g.S.P.Piece.seen (λ m views end n. Runs c.args.disks.now c.args.plan.now.stages c.args.plan.now.finish m views end n) (λ m n. (n.world ≡ m.world) ⊎ RunsShort c.args.disks.now c.args.plan.now.stages m n) c.over-in-Err-Ended.result c.from_vec.result c.in-Err-Ended.end _ _ _ c.over-in-Err-Ended.ensures.told c.over-in-Err-Ended.ensures.left c.over-in-Err-Ended.ensures.held_up
      (λ left. rw (c.from_vec.ensures, c.new.ensures.items)
      (ended_goes g.S.P.Piece.seen c.args.disks.now c.args.plan.now.stages c.args.plan.now.finish c.in-Err-Ended.end _ _ _
      (ended_from g.S.P.Piece.seen c.args.disks.now c.args.plan.now.stages _ c.as_slice.ensures _ _ c.in-Err-Ended.field-0 c.in-Err-Ended.end c.in-Err-Ended.field-0-is c.in-Err-Ended.ensures.go)
      left));
}

pub returns-in-Err-OutOfMemory : goal.returns-in-Err-OutOfMemory
returns-in-Err-OutOfMemory g c = record {
  goes = rw c.rest-in-Err-OutOfMemory.ensures.refused
      (rested_goes g.S.P.Piece.seen c.args.disks.now c.args.plan.now.stages c.args.plan.now.finish _ _ _ _
      (rested_from g.S.P.Piece.seen c.args.disks.now c.args.plan.now.stages _ c.as_slice.ensures _ _ c.in-Err-OutOfMemory.field-0 c.in-Err-OutOfMemory.field-0-is c.in-Err-OutOfMemory.ensures.go)
      c.rest-in-Err-OutOfMemory.ensures.left);
}
