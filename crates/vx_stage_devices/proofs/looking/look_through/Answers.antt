use Rattle.std.proofs.Common.{arith, rules, add-one}
use Rattle.std.proofs.lemmas.Result.{err_from_is_err_and}
use Rattle.vx_stage_devices.specs.Looks.{IsReadBlank}
use Rattle.vx_stage_devices.proofs.Passes.{passed_holds, passed_more, passed_all, passed_stops}
use Rattle.vx_stage_devices.proofs.looking.look_through.Goals as goal

pub look_at-requires-after_bounds : goal.look_at-requires-after_bounds
look_at-requires-after_bounds g c = λ _ _.
    passed_holds (IsReadBlank g.P.Piece.seen) _ c.loop-taken.taken-index c.args.hand.now c.loop-taken.hand c.taken-item.result c.loop-taken.invariant (omega arith) c.requires

pub returns-in_err-look_at : goal.returns-in_err-look_at
returns-in_err-look_at g c =
    let p = err_from_is_err_and c.from_residual.result c.from_residual.ensures.1 in
    rw (p.1, p.2) (passed_stops g.P.Piece.seen c.in_err-look_at.field-0.0 c.loop-taken.taken-index c.args.hand.now c.loop-taken.hand c.taken-item.result c.look_at.new.taken c.loop-taken.invariant (omega arith) (c.in_err-look_at.ensures {u = tt}))

pub loop-taken-preserved : goal.loop-taken-preserved
loop-taken-preserved g c = rw add-one
    (passed_more (IsReadBlank g.P.Piece.seen) c.loop-taken.taken-index c.args.hand.now c.loop-taken.hand c.taken-item.result c.look_at.new.taken c.loop-taken.invariant (omega arith) (search rules))

pub returns : goal.returns
returns g c = passed_all (IsReadBlank g.P.Piece.seen) c.loop-taken.taken-index c.args.hand.now c.loop-taken.hand c.loop-taken.invariant (omega arith)
