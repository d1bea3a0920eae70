-- The mark of one region is taken away.
use Rattle.std.proofs.Common.{◌*◌, rules, refl, ap, sym, ◌∙◌}
use Rattle.vx_volume.specs.Passes.{IsClearedAt}
use Rattle.vx_volume.specs.Loop.{stop_of}
use Rattle.vx_volume.proofs.Regions.{cleared_left}
use Rattle.vx_volume.proofs.Steps.{cell_below, cell_changes, cell_ready, cell_size, cell_volume}
use Rattle.vx_volume.proofs.volume.Volume.clear_one.Goals as goal

pub clear_cell-requires-clause-ready : goal.clear_cell-requires-clause-ready
clear_cell-requires-clause-ready g c κs within =
    cell_ready g.P.Piece.seen c.args.self.now.cells.items _ c.args.region c.index_mut-cell.result.now c.requires.whole (search rules) c.index_mut-cell.ensures.value

pub clear_cell-requires-clause-bytes : goal.clear_cell-requires-clause-bytes
clear_cell-requires-clause-bytes g c κs within = c.region_bytes-bytes.ensures ∙ ap (λ n. 512 * n) (sym (cell_size g.P.Piece.seen c.args.self.now.cells.items _ c.args.region c.index_mut-cell.result.now c.requires.whole (search rules) c.index_mut-cell.ensures.value))

pub returns-clause-clears : goal.returns-clause-clears
returns-clause-clears g c =
    cell_changes g.P.Piece.seen c.args.self.now.cells.items _ c.args.region c.index_mut-cell.result.now c.requires.whole (search rules) c.index_mut-cell.ensures.value
    c.clear_cell.new.cell _ _ (search rules)
    (cleared_left _ _ (cell_ready g.P.Piece.seen c.args.self.now.cells.items _ c.args.region c.index_mut-cell.result.now c.requires.whole (search rules) c.index_mut-cell.ensures.value) _ (cell_below g.P.Piece.seen c.args.self.now.cells.items _ c.args.region c.index_mut-cell.result.now c.requires.whole (search rules) c.index_mut-cell.ensures.value) c.clear_cell.ensures.cleared)
    _ refl (IsClearedAt (stop_of c.clear_cell.result)) c.clear_cell.ensures.cleared

pub returns-clause-whole : goal.returns-clause-whole
returns-clause-whole g c =
    cell_volume g.P.Piece.seen c.args.self.now.cells.items _ c.args.region c.index_mut-cell.result.now c.requires.whole (search rules) c.index_mut-cell.ensures.value
    c.clear_cell.new.cell _ _ (search rules)
    (cleared_left _ _ (cell_ready g.P.Piece.seen c.args.self.now.cells.items _ c.args.region c.index_mut-cell.result.now c.requires.whole (search rules) c.index_mut-cell.ensures.value) _ (cell_below g.P.Piece.seen c.args.self.now.cells.items _ c.args.region c.index_mut-cell.result.now c.requires.whole (search rules) c.index_mut-cell.ensures.value) c.clear_cell.ensures.cleared)
