use Rattle.vx_cell.specs.Running.{IsRunning}
use Rattle.vx_cell.specs.Calls.{region_of, KeepsCell}
use Rattle.vx_cell.proofs.Measure.{phase_steps}
use Rattle.vx_cell.proofs.cell.Cell.run.Given as goal

abbrev pub invariant-loop-self : goal.invariant-loop-self
invariant-loop-self g l =
    record {
      running : IsRunning l.fn.job
          (record { at = l.fn.at; into = l.fn.into; from = l.fn.from; scratch = l.fn.scratch })
          (region_of g.P.Piece.seen l.fn.self (g.M.Marker.log l.fn.log))
          (region_of g.P.Piece.seen l.self (g.M.Marker.log l.log))
          l.first l.act
          (record { at = l.fn.at; into = l.into; from = l.fn.from; scratch = l.scratch });
      same : KeepsCell l.fn.self l.self;
      follows : g.M.Marker.follows l.fn.log l.log;
    }

abbrev pub decreases-loop-self : goal.decreases-loop-self
decreases-loop-self g l = phase_steps l.self.stage.phase
