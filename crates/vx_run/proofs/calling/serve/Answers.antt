use Rattle.std.proofs.Common.{sym, subst}
use Rattle.std.specs.Prelude.{IfOk}
use Rattle.vx_run.specs.Calling.{IsServedBy}
use Rattle.vx_run.proofs.Among.{both_ok}
use Rattle.vx_run.proofs.calling.serve.Goals as goal

pub returns-in-Read-clause-served : goal.returns-in-Read-clause-served
returns-in-Read-clause-served g c = subst (λ call. IfOk c.read.result (λ end. IsServedBy g.P.Piece.seen call end c.args.started.now c.read.new.self)) (sym c.in-Read.is)
    (both_ok c.read.result _ _ _ (λ end h cause. record { lives = λ v shape. h c.in-Read.vol v shape; cause = cause; calls = c.read.ensures.calls; kept = c.read.ensures.kept; same = c.read.ensures.same }) c.read.ensures.served c.read.ensures.cause)

pub returns-in-Fill-clause-served : goal.returns-in-Fill-clause-served
returns-in-Fill-clause-served g c = subst (λ call. IfOk c.fill.result (λ end. IsServedBy g.P.Piece.seen call end c.args.started.now c.fill.new.self)) (sym c.in-Fill.is)
    (both_ok c.fill.result _ _ _ (λ end h cause. record { lives = λ v shape. h c.in-Fill.vol v shape; cause = cause; calls = c.fill.ensures.calls; kept = c.fill.ensures.kept; same = c.fill.ensures.same }) c.fill.ensures.served c.fill.ensures.cause)

pub returns-in-Data-clause-served : goal.returns-in-Data-clause-served
returns-in-Data-clause-served g c = subst (λ call. IfOk c.write.result (λ end. IsServedBy g.P.Piece.seen call end c.args.started.now c.write.new.self)) (sym c.in-Data.is)
    (both_ok c.write.result _ _ _ (λ end h cause. record { lives = λ v shape. h c.in-Data.vol v shape; cause = cause; calls = c.write.ensures.calls; kept = c.write.ensures.kept; same = c.write.ensures.same }) c.write.ensures.served c.write.ensures.cause)
