use Rattle.std.proofs.Common.{ℕ, ◌-◌, subst}
use Rattle.vx_cell.specs.Calls.{region_of, HasRun}
use Rattle.vx_cell.proofs.EndPhases.{resumed}
use Rattle.vx_cell.proofs.cell.Cell.resume.Goals as goal

pub returns-in-Busy-clause-ended : goal.returns-in-Busy-clause-ended
returns-in-Busy-clause-ended g c =
    let from = c.args.at - c.args.self.now.span.start in
    resumed c.args.self.now.stage.phase c.in-Busy.work
    (record { at = from; into = c.args.into.now; from = c.args.from.now; scratch = c.args.scratch.now }) (region_of g.P.Piece.seen c.args.self.now (g.M.Marker.log c.args.log.now))
    (region_of g.P.Piece.seen c.run-ran.new.self (g.M.Marker.log c.run-ran.new.log)) (record { at = from; into = c.run-ran.new.into; from = c.args.from.now; scratch = c.run-ran.new.scratch })
    c.run-ran.result.act c.run-ran.result.first c.done_of.result c.skipped_of.result c.answer.result c.in-Busy.is
    (subst (λ (n : ℕ). HasRun c.in-Busy.work.job (record { at = n; into = c.args.into.now; from = c.args.from.now; scratch = c.args.scratch.now }) (region_of g.P.Piece.seen c.args.self.now (g.M.Marker.log c.args.log.now))
    (region_of g.P.Piece.seen c.run-ran.new.self (g.M.Marker.log c.run-ran.new.log)) c.run-ran.result.act c.run-ran.result.first
    (record { at = n; into = c.run-ran.new.into; from = c.args.from.now; scratch = c.run-ran.new.scratch })) c.saturating_sub-from_start.ensures c.run-ran.ensures.ran)
    c.done_of.ensures c.skipped_of.ensures c.answer.ensures
