use Rattle.std.proofs.Common.{◌≡◌, sym, subst}
use Rattle.vx_run.specs.Runs.{HasRested}
use Rattle.vx_house.specs.Scene.{shelved}
use Rattle.vx_house.specs.View.{at}
use Rattle.vx_run.proofs.GateStage.{group_let_go, group_stays}
use Rattle.vx_run.proofs.stages.let_go.Goals as goal

pub returns-in-Ok : goal.returns-in-Ok
returns-in-Ok g c = record { goes = group_let_go g.S.P.Piece.seen c.args.disks.now (shelved g.S.Shelf.free g.S.Shelf.held g.S.Shelf.counted g.S.Shelf.faults c.args.shelf.now) (shelved g.S.Shelf.free g.S.Shelf.held g.S.Shelf.counted g.S.Shelf.faults c.give_group.new.shelf) c.args.house.now c.give_group.new.house c.requires.keeps c.in-Ok.ensures.gives }

pub returns-in-Err : goal.returns-in-Err
returns-in-Err g c = record {
  goes = subst (λ s. HasRested g.S.P.Piece.seen (λ m n. n.world ≡ m.world) (at (shelved g.S.Shelf.free g.S.Shelf.held g.S.Shelf.counted g.S.Shelf.faults c.args.shelf.now) c.args.house.now) (at (shelved g.S.Shelf.free g.S.Shelf.held g.S.Shelf.counted g.S.Shelf.faults s) c.give_group.new.house)) (sym c.in-Err.ensures.shelf)
      (group_stays g.S.P.Piece.seen (shelved g.S.Shelf.free g.S.Shelf.held g.S.Shelf.counted g.S.Shelf.faults c.args.shelf.now) c.args.house.now c.give_group.new.house c.args.disks.now c.requires.ready c.requires.keeps c.in-Err.ensures.kept);
}
