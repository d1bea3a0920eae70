use Rattle.std.proofs.Common.{ℕ, ap, ◌∙◌}
use Rattle.vx_mask.specs.Mask.{has, union}
use Rattle.vx_mask.proofs.MaskLemmas.{has-zero}
use Rattle.vx_core.specs.declared.stage.Stage.{Stage}
use Rattle.vx_cell.specs.declared.cell.Cell.{Cell}
use Rattle.vx_group_stop.proofs.Marks.{marks_more}
use Rattle.vx_group_stop.proofs.quiescing.marks_of.Goals as goal

pub loop-cell-init : goal.loop-cell-init
loop-cell-init g c = has-zero

pub loop-cell-preserved : goal.loop-cell-preserved
loop-cell-preserved g c k =
    ap (λ (mask : ℕ). has mask k) c.with-marks.ensures
    ∙ ap (λ (stage : Stage). has (union c.loop-cell.marks stage.bits) k) c.stage.ensures
    ∙ marks_more (λ (cell : Cell g.row.P.Denot). cell.stage.bits) c.loop-cell.marks k c.loop-cell.cell-index c.args.cells.now c.cell-item.result (c.loop-cell.invariant k) c.loop-cell-test.true c.cell-item.is
