use Rattle.std.proofs.Common.{arith, subst}
use Rattle.std.proofs.lemmas.List.{take_all}
use Rattle.std.proofs.lemmas.Result.{err_from_is_err_and}
use Rattle.vx_house.specs.Scene.{shelved}
use Rattle.vx_stage_devices.specs.Seeks.{Seeks}
use Rattle.vx_stage_devices.proofs.Searches.{next_seeks, next_ends}
use Rattle.vx_stage_devices.proofs.searching.look_through.Goals as goal

pub loop-name-preserved : goal.loop-name-preserved
loop-name-preserved g c = next_seeks c.args.dg.now c.args.names.now c.requires c.loop-name.name-index c.name-item.result (omega arith) c.name-item.is
    (shelved g.S.Shelf.free g.S.Shelf.held g.S.Shelf.counted g.S.Shelf.faults c.args.shelf.now) (shelved g.S.Shelf.free g.S.Shelf.held g.S.Shelf.counted g.S.Shelf.faults c.loop-name.shelf) (shelved g.S.Shelf.free g.S.Shelf.held g.S.Shelf.counted g.S.Shelf.faults c.look_under.new.shelf)
    c.loop-name.invariant (c.in_ok-look_under.ensures {u = tt})

pub returns-in_err-look_under : goal.returns-in_err-look_under
returns-in_err-look_under g c =
    let p = err_from_is_err_and c.from_residual.result c.from_residual.ensures.1 in
    rw (p.1, p.2) (next_ends c.args.dg.now c.args.names.now c.requires c.loop-name.name-index c.name-item.result (omega arith) c.name-item.is
    (shelved g.S.Shelf.free g.S.Shelf.held g.S.Shelf.counted g.S.Shelf.faults c.args.shelf.now) (shelved g.S.Shelf.free g.S.Shelf.held g.S.Shelf.counted g.S.Shelf.faults c.loop-name.shelf) (shelved g.S.Shelf.free g.S.Shelf.held g.S.Shelf.counted g.S.Shelf.faults c.look_under.new.shelf)
    c.loop-name.invariant c.in_err-look_under.field-0.0 (c.in_err-look_under.ensures {u = tt}))

pub returns : goal.returns
returns g c = subst (λ ns. Seeks c.args.dg.now ns (shelved g.S.Shelf.free g.S.Shelf.held g.S.Shelf.counted g.S.Shelf.faults c.args.shelf.now) (shelved g.S.Shelf.free g.S.Shelf.held g.S.Shelf.counted g.S.Shelf.faults c.loop-name.shelf))
    (take_all c.loop-name.name-index c.args.names.now (omega arith)) c.loop-name.invariant
