use Rattle.std.proofs.Common.{take}
use Rattle.vx_run.specs.Runs.{HasRun}
use Rattle.vx_house.specs.Scene.{shelved}
use Rattle.vx_house.specs.View.{at}
use Rattle.vx_run.proofs.running.run_stages.Given as goal

-- the stages so far are done
abbrev pub invariant-loop-stage : goal.invariant-loop-stage
invariant-loop-stage g l = record {
  run : HasRun g.S.P.Piece.seen l.disks (take l.stage-index l.stages) (at (shelved g.S.Shelf.free g.S.Shelf.held g.S.Shelf.counted g.S.Shelf.faults l.fn.shelf) l.fn.house) (at (shelved g.S.Shelf.free g.S.Shelf.held g.S.Shelf.counted g.S.Shelf.faults l.shelf) l.house);
}
