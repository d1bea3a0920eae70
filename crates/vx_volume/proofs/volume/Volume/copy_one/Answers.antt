-- One region of a volume is copied.
use Rattle.std.proofs.Common.{◌*◌, rules, refl, ap, sym, ◌∙◌}
use Rattle.vx_volume.specs.Passes.{IsCopiedAt}
use Rattle.vx_volume.proofs.Regions.{copied_left}
use Rattle.vx_volume.proofs.Steps.{cell_below, cell_changes, cell_ready, cell_size, cell_volume}
use Rattle.vx_volume.proofs.volume.Volume.copy_one.Goals as goal

pub copy_cell-requires-clause-ready : goal.copy_cell-requires-clause-ready
copy_cell-requires-clause-ready g c κs within =
    cell_ready g.P.Piece.seen c.args.self.now.cells.items _ c.args.region c.index_mut-cell.result.now c.requires.whole (search rules) c.index_mut-cell.ensures.value

pub copy_cell-requires-clause-bytes : goal.copy_cell-requires-clause-bytes
copy_cell-requires-clause-bytes g c κs within = c.region_bytes-bytes.ensures ∙ ap (λ n. 512 * n) (sym (cell_size g.P.Piece.seen c.args.self.now.cells.items _ c.args.region c.index_mut-cell.result.now c.requires.whole (search rules) c.index_mut-cell.ensures.value))

pub returns-clause-copies : goal.returns-clause-copies
returns-clause-copies g c =
    cell_changes g.P.Piece.seen c.args.self.now.cells.items _ c.args.region c.index_mut-cell.result.now c.requires.whole (search rules) c.index_mut-cell.ensures.value
    c.copy_cell.new.cell _ _ (search rules)
    (copied_left _ _ (cell_ready g.P.Piece.seen c.args.self.now.cells.items _ c.args.region c.index_mut-cell.result.now c.requires.whole (search rules) c.index_mut-cell.ensures.value) _ (cell_below g.P.Piece.seen c.args.self.now.cells.items _ c.args.region c.index_mut-cell.result.now c.requires.whole (search rules) c.index_mut-cell.ensures.value) c.copy_cell.ensures.copied)
    _ refl (IsCopiedAt c.args.map c.copy_cell.result) c.copy_cell.ensures.copied

pub returns-clause-whole : goal.returns-clause-whole
returns-clause-whole g c =
    cell_volume g.P.Piece.seen c.args.self.now.cells.items _ c.args.region c.index_mut-cell.result.now c.requires.whole (search rules) c.index_mut-cell.ensures.value
    c.copy_cell.new.cell _ _ (search rules)
    (copied_left _ _ (cell_ready g.P.Piece.seen c.args.self.now.cells.items _ c.args.region c.index_mut-cell.result.now c.requires.whole (search rules) c.index_mut-cell.ensures.value) _ (cell_below g.P.Piece.seen c.args.self.now.cells.items _ c.args.region c.index_mut-cell.result.now c.requires.whole (search rules) c.index_mut-cell.ensures.value) c.copy_cell.ensures.copied)
