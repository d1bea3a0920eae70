use Rattle.std.proofs.Common.{Bool}
use Rattle.std.proofs.lemmas.Result.{err_from_is_err_and, on_err_weaker}
use Rattle.vx_house.proofs.Ends.{keeps_but_group}
use Rattle.vx_run.proofs.Runs.{both_ok, on_short, one_run, one_partly, served_left, unserved_left, unserved_partly, unwritten_partly}
use Rattle.vx_run.proofs.lines.one_line.Goals as goal

pub returns-in_err-answer-clause-keeps : goal.returns-in_err-answer-clause-keeps
returns-in_err-answer-clause-keeps g c =
    let p = err_from_is_err_and c.from_residual.result c.from_residual.ensures.1 in
    rw (p.1, p.2) (unserved_left g.S.P.Piece.seen Bool c.in_err-answer.field-0.0 0 c.args.command.now _ _ (c.in_err-answer.ensures.goes 0))

pub returns-in_err-answer-clause-partly : goal.returns-in_err-answer-clause-partly
returns-in_err-answer-clause-partly g c =
    let p = err_from_is_err_and c.from_residual.result c.from_residual.ensures.1 in
    rw (p.1, p.2) (unserved_partly g.S.P.Piece.seen Bool c.in_err-answer.field-0.0 c.args.command.now _ _ (g.B.Sink.taken c.args.sink.now) c.in_err-answer.ensures.goes)

-- a device came back without its power
pub returns-then-has_gone-clause-keeps : goal.returns-then-has_gone-clause-keeps
returns-then-has_gone-clause-keeps g c = record { keeps = keeps_but_group g.S.P.Piece.seen _ (c.in_ok-answer.ensures.goes 0).keeps; empty = (c.in_ok-answer.ensures.goes 0).empty }

pub returns-then-has_gone-clause-partly : goal.returns-then-has_gone-clause-partly
returns-then-has_gone-clause-partly g c place = unwritten_partly g.S.P.Piece.seen place c.args.command.now c.in_ok-answer.answer _ _ (g.B.Sink.taken c.args.sink.now) (c.in_ok-answer.ensures.goes place)

pub returns-clause-keeps : goal.returns-clause-keeps
returns-clause-keeps g c = served_left g.S.P.Piece.seen c.write_line.result _ (c.in_ok-answer.ensures.goes 0).keeps (c.in_ok-answer.ensures.goes 0).empty c.write_line.ensures.kinds

pub returns-clause-run : goal.returns-clause-run
returns-clause-run g c =
    both_ok c.write_line.result _ _ c.write_line.ensures.fine c.write_line.ensures.written
    (λ fine is written place. one_run g.S.P.Piece.seen place c.args.command.now c.in_ok-answer.answer _ _ (g.B.Sink.taken c.args.sink.now) (g.B.Sink.taken c.write_line.new.sink) fine (c.in_ok-answer.ensures.goes place) written is)

pub returns-clause-partly : goal.returns-clause-partly
returns-clause-partly g c =
    on_short _ c.write_line.result (on_err_weaker c.write_line.result
    (λ written place. one_partly g.S.P.Piece.seen place c.args.command.now c.in_ok-answer.answer _ _ (g.B.Sink.taken c.args.sink.now) (g.B.Sink.taken c.write_line.new.sink) (c.in_ok-answer.ensures.goes place) written)
    c.write_line.ensures.partly)
