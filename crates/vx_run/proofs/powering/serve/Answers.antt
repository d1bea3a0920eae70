use Rattle.vx_house.specs.Scene.{shelved}
use Rattle.vx_house.specs.View.{at}
use Rattle.vx_run.proofs.Powers.{uncut_step}
use Rattle.vx_run.proofs.powering.serve.Goals as goal

pub returns-in-None-clause-goes : goal.returns-in-None-clause-goes
returns-in-None-clause-goes g c place =
    uncut_step g.S.P.Piece.seen place c.args.command.now (at (shelved g.S.Shelf.free g.S.Shelf.held g.S.Shelf.counted g.S.Shelf.faults c.args.shelf.now) c.args.house.now) c.execute.result (at (shelved g.S.Shelf.free g.S.Shelf.held g.S.Shelf.counted g.S.Shelf.faults c.execute.new.shelf) c.execute.new.house) c.in-None.is (c.execute.ensures.goes place)
