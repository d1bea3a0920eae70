use Rattle.std.proofs.Common.{◌∙◌, sym, subst}
use Rattle.vx_plans.specs.Steps.{Does, LeavesOff}
use Rattle.vx_house.specs.Scene.{shelved}
use Rattle.vx_house.specs.View.{at}
use Rattle.vx_run.specs.Serving.{CommandEnds}
use Rattle.vx_run.proofs.Powers.{cut_step, gets_power, same_shelved}
use Rattle.vx_run.proofs.powering.serve_cut.Goals as goal

pub returns-clause-goes : goal.returns-clause-goes
returns-clause-goes g c place =
    cut_step g.S.P.Piece.seen place c.args.command.now (at (shelved g.S.Shelf.free g.S.Shelf.held g.S.Shelf.counted g.S.Shelf.faults c.args.shelf.now) c.args.house.now) (shelved g.S.Shelf.free g.S.Shelf.held g.S.Shelf.counted g.S.Shelf.faults c.set-2.new.self) (shelved g.S.Shelf.free g.S.Shelf.held g.S.Shelf.counted g.S.Shelf.faults c.restore.new.self) c.execute-result.new.house (g.S.PowerShelf.gone c.set-2.new.self)
    (gets_power g.S.Shelf.free g.S.Shelf.held g.S.Shelf.counted g.S.Shelf.faults c.set-2.new.self c.restore.new.self (g.S.PowerShelf.gone c.set-2.new.self) c.restore.ensures.back c.restore.ensures.held c.restore.ensures.counted c.restore.ensures.faults)
    c.args.writes c.execute-result.result c.requires.cut
    (subst (λ s. CommandEnds g.S.P.Piece.seen (Does place c.args.command.now) (LeavesOff c.args.command.now) c.execute-result.result (at s c.args.house.now) (at (shelved g.S.Shelf.free g.S.Shelf.held g.S.Shelf.counted g.S.Shelf.faults c.set-2.new.self) c.execute-result.new.house)) ((same_shelved g.S.Shelf.free g.S.Shelf.held g.S.Shelf.counted g.S.Shelf.faults c.drawn.new.self c.set.new.self c.set.ensures.free c.set.ensures.held c.set.ensures.counted c.set.ensures.faults) ∙ (same_shelved g.S.Shelf.free g.S.Shelf.held g.S.Shelf.counted g.S.Shelf.faults c.args.shelf.now c.drawn.new.self c.drawn.ensures.free c.drawn.ensures.held c.drawn.ensures.counted c.drawn.ensures.faults))
    (subst (λ s. CommandEnds g.S.P.Piece.seen (Does place c.args.command.now) (LeavesOff c.args.command.now) c.execute-result.result (at (shelved g.S.Shelf.free g.S.Shelf.held g.S.Shelf.counted g.S.Shelf.faults c.set.new.self) c.args.house.now) (at s c.execute-result.new.house)) (sym (same_shelved g.S.Shelf.free g.S.Shelf.held g.S.Shelf.counted g.S.Shelf.faults c.execute-result.new.shelf c.set-2.new.self c.set-2.ensures.free c.set-2.ensures.held c.set-2.ensures.counted c.set-2.ensures.faults)) (c.execute-result.ensures.goes place)))
