use Rattle.std.proofs.Common.{◌-◌, []}
use Rattle.vx_core.specs.declared.stage.Job.TheVariants.{Read}
use Rattle.vx_cell.specs.Calls.{region_of}
use Rattle.vx_cell.proofs.EndPhases.{call_ended, not_dead}
use Rattle.vx_cell.proofs.cell.Cell.read.Goals as goal

pub returns-clause-ended : goal.returns-clause-ended
returns-clause-ended g c =
    call_ended _ _ Read (record { at = c.args.at - c.args.self.now.span.start; into = c.args.into.now; from = []; scratch = c.args.scratch.now }) (region_of g.P.Piece.seen c.args.self.now (g.M.Marker.log c.args.log.now)) _
    (record { at = c.args.at - c.args.self.now.span.start; into = c.run-ran.new.into; from = []; scratch = c.run-ran.new.scratch }) c.run-ran.result.act c.run-ran.result.first c.answer.result
    (not_dead c.is_dead.result c.args.self.now.stage.phase c.if-is_dead.false c.is_dead.ensures.alive) c.run-ran.ensures.ran c.answer.ensures
