use Rattle.std.proofs.Common.{[], true, false, Bool, Result, sym, subst}
use Rattle.vx_core.specs.declared.stage.Job.TheVariants.{Copy}
use Rattle.vx_cell.specs.declared.fault.CellFault.{CellFault}
use Rattle.vx_cell.specs.Calls.{region_of, CopyLeaves}
use Rattle.vx_cell.proofs.EndPhases.{quiet_ended, not_dead}
use Rattle.vx_cell.proofs.Starts.{copy_left}
use Rattle.vx_cell.proofs.cell.Cell.copy_to.Goals as goal

pub returns-clause-ended : goal.returns-clause-ended
returns-clause-ended g c =
    quiet_ended true false (Copy c.args.map) 0 [] c.args.scratch.now (region_of g.P.Piece.seen c.args.self.now (g.M.Marker.log c.args.log.now)) _
    c.run-ran.new.into c.run-ran.new.scratch c.run-ran.result.act c.run-ran.result.first c.answer.result
    (not_dead c.is_dead.result c.args.self.now.stage.phase c.if-is_dead.false c.is_dead.ensures.alive) c.run-ran.ensures.ran c.answer.ensures

pub returns-clause-marks : goal.returns-clause-marks
returns-clause-marks g c =
    subst (λ (r : Result Bool CellFault). CopyLeaves c.args.map c.args.self.now.stage c.run-ran.new.self.stage r) (sym c.answer.ensures)
    (copy_left _ (region_of g.P.Piece.seen c.args.self.now (g.M.Marker.log c.args.log.now)) (region_of g.P.Piece.seen c.run-ran.new.self (g.M.Marker.log c.run-ran.new.log)) _ c.run-ran.result.first c.requires.idle c.args.map c.run-ran.result.act c.run-ran.ensures.ran)
