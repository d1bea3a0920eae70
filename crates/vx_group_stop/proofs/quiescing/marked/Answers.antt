use Rattle.std.proofs.Common.{◌∙◌, List, ap, sym}
use Rattle.std.specs.List.{list_any}
use Rattle.vx_mask.specs.Mask.{has}
use Rattle.vx_cell.specs.Changes.{CellSeen, cell_seen}
use Rattle.vx_group_stop.proofs.Marks.{any_of_map}
use Rattle.vx_group_stop.proofs.quiescing.marked.Goals as goal

pub returns : goal.returns
returns g c k =
    c.marks_of.ensures k
    ∙ sym (any_of_map (λ (cell : CellSeen). has cell.stage.bits k) (cell_seen g.P.Piece.seen) c.cells.result.now)
    ∙ ap (λ (cells : List CellSeen). list_any (λ cell. has cell.stage.bits k) cells) c.cells.ensures
