use Rattle.std.proofs.Common.{ℕ, ◌-◌, [], Result, subst}
use Rattle.vx_cell.specs.declared.fault.CellFault.{CellFault}
use Rattle.vx_cell.specs.Calls.{region_of, WriteEnds}
use Rattle.vx_cell.proofs.Entries.{write_alone, write_and_clear}
use Rattle.vx_cell.proofs.cell.Cell.write.Goals as goal

pub returns-in-Ok-clause-ended : goal.returns-in-Ok-clause-ended
returns-in-Ok-clause-ended g c =
    write_and_clear c.in-Ok.number (record { at = c.args.at - c.args.self.now.span.start; into = []; from = c.args.from.now; scratch = c.args.scratch.now }) (region_of g.P.Piece.seen c.args.self.now (g.M.Marker.log c.args.log.now))
    (region_of g.P.Piece.seen c.write_dirty-written.new.self (g.M.Marker.log c.write_dirty-written.new.log)) (region_of g.P.Piece.seen c.clear_after.new.self (g.M.Marker.log c.clear_after.new.log))
    (record { at = c.args.at - c.args.self.now.span.start; into = []; from = c.args.from.now; scratch = c.write_dirty-written.new.scratch }) c.clear_after.new.scratch c.write_dirty-written.result c.clear_after.result
    c.in-Ok.is c.requires.own c.write_dirty-written.ensures.ended c.clear_after.ensures.cleared

pub returns-in_default-clause-ended : goal.returns-in_default-clause-ended
returns-in_default-clause-ended g c =
    subst (λ (r : Result ℕ CellFault). WriteEnds (record { at = c.args.at - c.args.self.now.span.start; into = []; from = c.args.from.now; scratch = c.args.scratch.now }) (region_of g.P.Piece.seen c.args.self.now (g.M.Marker.log c.args.log.now)) (region_of g.P.Piece.seen c.write_dirty-written.new.self (g.M.Marker.log c.write_dirty-written.new.log)) (record { at = c.args.at - c.args.self.now.span.start; into = []; from = c.args.from.now; scratch = c.write_dirty-written.new.scratch }) r) c.in-Ok.is
    (write_alone (record { at = c.args.at - c.args.self.now.span.start; into = []; from = c.args.from.now; scratch = c.args.scratch.now }) (region_of g.P.Piece.seen c.args.self.now (g.M.Marker.log c.args.log.now)) (region_of g.P.Piece.seen c.write_dirty-written.new.self (g.M.Marker.log c.write_dirty-written.new.log)) (record { at = c.args.at - c.args.self.now.span.start; into = []; from = c.args.from.now; scratch = c.write_dirty-written.new.scratch }) c.write_dirty-written.result c.requires.own c.write_dirty-written.ensures.ended)

pub returns-in_default-2-clause-ended : goal.returns-in_default-2-clause-ended
returns-in_default-2-clause-ended g c =
    write_alone (record { at = c.args.at - c.args.self.now.span.start; into = []; from = c.args.from.now; scratch = c.args.scratch.now }) (region_of g.P.Piece.seen c.args.self.now (g.M.Marker.log c.args.log.now)) (region_of g.P.Piece.seen c.write_dirty-written.new.self (g.M.Marker.log c.write_dirty-written.new.log)) (record { at = c.args.at - c.args.self.now.span.start; into = []; from = c.args.from.now; scratch = c.write_dirty-written.new.scratch }) c.write_dirty-written.result c.requires.own c.write_dirty-written.ensures.ended
