-- One region of a volume is settled.
use Rattle.std.proofs.Common.{◌*◌, rules, refl, ap, sym, ◌∙◌}
use Rattle.vx_volume.specs.Passes.{IsSettledAt}
use Rattle.vx_volume.specs.Loop.{stop_of}
use Rattle.vx_volume.proofs.Regions.{settled_left}
use Rattle.vx_volume.proofs.Steps.{cell_below, cell_changes, cell_ready, cell_size, cell_volume}
use Rattle.vx_volume.proofs.volume.Volume.settle_one.Goals as goal

pub settle_cell-requires-clause-ready : goal.settle_cell-requires-clause-ready
settle_cell-requires-clause-ready g c κs within =
    cell_ready g.P.Piece.seen c.args.self.now.cells.items _ c.args.region c.index_mut-cell.result.now c.requires.whole (search rules) c.index_mut-cell.ensures.value

pub settle_cell-requires-clause-bytes : goal.settle_cell-requires-clause-bytes
settle_cell-requires-clause-bytes g c κs within = c.region_bytes-bytes.ensures ∙ ap (λ n. 512 * n) (sym (cell_size g.P.Piece.seen c.args.self.now.cells.items _ c.args.region c.index_mut-cell.result.now c.requires.whole (search rules) c.index_mut-cell.ensures.value))

pub returns-clause-settles : goal.returns-clause-settles
returns-clause-settles g c =
    cell_changes g.P.Piece.seen c.args.self.now.cells.items _ c.args.region c.index_mut-cell.result.now c.requires.whole (search rules) c.index_mut-cell.ensures.value
    c.settle_cell.new.cell _ _ (search rules)
    (settled_left _ _ (cell_ready g.P.Piece.seen c.args.self.now.cells.items _ c.args.region c.index_mut-cell.result.now c.requires.whole (search rules) c.index_mut-cell.ensures.value) _ (cell_below g.P.Piece.seen c.args.self.now.cells.items _ c.args.region c.index_mut-cell.result.now c.requires.whole (search rules) c.index_mut-cell.ensures.value) c.settle_cell.ensures.settled)
    _ refl (IsSettledAt (stop_of c.settle_cell.result)) c.settle_cell.ensures.settled

pub returns-clause-whole : goal.returns-clause-whole
returns-clause-whole g c =
    cell_volume g.P.Piece.seen c.args.self.now.cells.items _ c.args.region c.index_mut-cell.result.now c.requires.whole (search rules) c.index_mut-cell.ensures.value
    c.settle_cell.new.cell _ _ (search rules)
    (settled_left _ _ (cell_ready g.P.Piece.seen c.args.self.now.cells.items _ c.args.region c.index_mut-cell.result.now c.requires.whole (search rules) c.index_mut-cell.ensures.value) _ (cell_below g.P.Piece.seen c.args.self.now.cells.items _ c.args.region c.index_mut-cell.result.now c.requires.whole (search rules) c.index_mut-cell.ensures.value) c.settle_cell.ensures.settled)
