-- The marks of the regions so far.
use Rattle.std.proofs.Common.{◌≡◌, ℕ, take}
use Rattle.std.specs.List.{list_any}
use Rattle.vx_mask.specs.Mask.{has}
use Rattle.vx_cell.specs.Changes.{cell_seen}
use Rattle.vx_group_stop.proofs.quiescing.marks_of.Given as goal

abbrev pub invariant-loop-cell : goal.invariant-loop-cell
invariant-loop-cell g l = (k : ℕ) → has l.marks k ≡ list_any (λ cell. has (cell_seen g.P.Piece.seen cell).stage.bits k) (take l.cell-index l.cells)
