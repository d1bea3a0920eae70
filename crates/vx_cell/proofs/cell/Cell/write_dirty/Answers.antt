use Rattle.std.proofs.Common.{◌-◌}
use Rattle.vx_core.specs.declared.stage.Job.TheVariants.{Write}
use Rattle.vx_cell.specs.Calls.{region_of}
use Rattle.vx_cell.proofs.EndPhases.{quiet_ended, not_dead}
use Rattle.vx_cell.proofs.cell.Cell.write_dirty.Goals as goal

pub returns-clause-ended : goal.returns-clause-ended
returns-clause-ended g c =
    quiet_ended _ _ Write (c.args.at - c.args.self.now.span.start) c.args.from.now c.args.scratch.now (region_of g.P.Piece.seen c.args.self.now (g.M.Marker.log c.args.log.now)) _
    c.run-ran.new.into c.run-ran.new.scratch c.run-ran.result.act c.run-ran.result.first c.answer.result
    (not_dead c.is_dead.result c.args.self.now.stage.phase c.if-is_dead.false c.is_dead.ensures.alive) c.run-ran.ensures.ran c.answer.ensures
