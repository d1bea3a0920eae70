-- Blocks of one region are read, and its part is told.
use Rattle.std.proofs.Common.{◌*◌, length, rules, sym, ap, ◌∙◌, arith}
use Rattle.vx_core.specs.declared.stage.Stage.{Stage}
use Rattle.vx_volume.specs.Calls.{IsRead}
use Rattle.vx_volume.specs.Log.{log_seen}
use Rattle.vx_volume.specs.Loop.{stop_of}
use Rattle.vx_volume.proofs.Ranges.{in_span}
use Rattle.vx_volume.proofs.Regions.{read_left}
use Rattle.vx_volume.proofs.Steps.{cell_changes, cell_fresh, cell_ready, cell_size, cell_start, cell_told, cell_volume, region_inside}
use Rattle.vx_volume.proofs.volume.Volume.read_span.Goals as goal

pub read_cell-outcome-requires-clause-ready : goal.read_cell-outcome-requires-clause-ready
read_cell-outcome-requires-clause-ready g c κs within = cell_ready g.P.Piece.seen c.args.self.now.cells.items _ c.region_of-region.result c.index_mut-cell.result.now c.requires.whole (region_inside g.P.Piece.seen c.args.self.now.cells.items _ c.region_of-region.result c.requires.whole c.region_of-region.ensures.below) c.index_mut-cell.ensures.value

pub read_cell-outcome-requires-clause-bytes : goal.read_cell-outcome-requires-clause-bytes
read_cell-outcome-requires-clause-bytes g c κs within = c.region_bytes-bytes.ensures ∙ ap (λ n. 512 * n) (sym (cell_size g.P.Piece.seen c.args.self.now.cells.items _ c.region_of-region.result c.index_mut-cell.result.now c.requires.whole (region_inside g.P.Piece.seen c.args.self.now.cells.items _ c.region_of-region.result c.requires.whole c.region_of-region.ensures.below) c.index_mut-cell.ensures.value))

pub read_cell-outcome-requires-clause-range : goal.read_cell-outcome-requires-clause-range
read_cell-outcome-requires-clause-range g c κs within =
    in_span _ c.args.span c.region_of-region.result _ _ _ c.requires.one c.region_of-region.ensures.value (cell_start g.P.Piece.seen c.args.self.now.cells.items _ c.region_of-region.result c.index_mut-cell.result.now c.requires.whole (region_inside g.P.Piece.seen c.args.self.now.cells.items _ c.region_of-region.result c.requires.whole c.region_of-region.ensures.below) c.index_mut-cell.ensures.value) (cell_size g.P.Piece.seen c.args.self.now.cells.items _ c.region_of-region.result c.index_mut-cell.result.now c.requires.whole (region_inside g.P.Piece.seen c.args.self.now.cells.items _ c.region_of-region.result c.requires.whole c.region_of-region.ensures.below) c.index_mut-cell.ensures.value) c.requires.bytes

pub read_cell-outcome-requires-clause-number : goal.read_cell-outcome-requires-clause-number
read_cell-outcome-requires-clause-number g c κs within =
    omega (arith, cell_fresh g.P.Piece.seen c.args.self.now.cells.items _ c.region_of-region.result c.index_mut-cell.result.now c.requires.whole (region_inside g.P.Piece.seen c.args.self.now.cells.items _ c.region_of-region.result c.requires.whole c.region_of-region.ensures.below) c.index_mut-cell.ensures.value _ c.region_of-region.ensures.value c.requires.fresh, c.requires.fresh.bound)

pub returns-clause-reads : goal.returns-clause-reads
returns-clause-reads g c =
    cell_changes g.P.Piece.seen c.args.self.now.cells.items _ c.region_of-region.result c.index_mut-cell.result.now c.requires.whole (region_inside g.P.Piece.seen c.args.self.now.cells.items _ c.region_of-region.result c.requires.whole c.region_of-region.ensures.below) c.index_mut-cell.ensures.value c.read_cell-outcome.new.cell _ _ (search rules) (read_left _ _ (cell_ready g.P.Piece.seen c.args.self.now.cells.items _ c.region_of-region.result c.index_mut-cell.result.now c.requires.whole (region_inside g.P.Piece.seen c.args.self.now.cells.items _ c.region_of-region.result c.requires.whole c.region_of-region.ensures.below) c.index_mut-cell.ensures.value) _ (cell_fresh g.P.Piece.seen c.args.self.now.cells.items _ c.region_of-region.result c.index_mut-cell.result.now c.requires.whole (region_inside g.P.Piece.seen c.args.self.now.cells.items _ c.region_of-region.result c.requires.whole c.region_of-region.ensures.below) c.index_mut-cell.ensures.value _ c.region_of-region.ensures.value c.requires.fresh) c.read_cell-outcome.ensures.read) _ c.region_of-region.ensures.value (IsRead c.args.span c.read_cell-outcome.new.into (stop_of c.read_cell-outcome.result)) c.read_cell-outcome.ensures.read

pub returns-clause-told : goal.returns-clause-told
returns-clause-told g c =
    cell_told g.P.Piece.seen c.args.self.now.cells.items _ c.region_of-region.result c.index_mut-cell.result.now c.requires.whole (region_inside g.P.Piece.seen c.args.self.now.cells.items _ c.region_of-region.result c.requires.whole c.region_of-region.ensures.below) c.index_mut-cell.ensures.value c.read_cell-outcome.new.cell (log_seen g.P.Piece.seen c.read_cell-outcome.new.log) (length c.read_cell-outcome.new.scratch.items) (search rules) (read_left _ _ (cell_ready g.P.Piece.seen c.args.self.now.cells.items _ c.region_of-region.result c.index_mut-cell.result.now c.requires.whole (region_inside g.P.Piece.seen c.args.self.now.cells.items _ c.region_of-region.result c.requires.whole c.region_of-region.ensures.below) c.index_mut-cell.ensures.value) _ (cell_fresh g.P.Piece.seen c.args.self.now.cells.items _ c.region_of-region.result c.index_mut-cell.result.now c.requires.whole (region_inside g.P.Piece.seen c.args.self.now.cells.items _ c.region_of-region.result c.requires.whole c.region_of-region.ensures.below) c.index_mut-cell.ensures.value _ c.region_of-region.ensures.value c.requires.fresh) c.read_cell-outcome.ensures.read) _ c.region_of-region.ensures.value c.stage-phase.result.phase c.part_of.result _ _ (ap (λ (s : Stage). s.phase) c.stage-phase.ensures) c.part_of.ensures c.tell.ensures.parts

pub returns-clause-whole : goal.returns-clause-whole
returns-clause-whole g c = cell_volume g.P.Piece.seen c.args.self.now.cells.items _ c.region_of-region.result c.index_mut-cell.result.now c.requires.whole (region_inside g.P.Piece.seen c.args.self.now.cells.items _ c.region_of-region.result c.requires.whole c.region_of-region.ensures.below) c.index_mut-cell.ensures.value c.read_cell-outcome.new.cell _ _ (search rules) (read_left _ _ (cell_ready g.P.Piece.seen c.args.self.now.cells.items _ c.region_of-region.result c.index_mut-cell.result.now c.requires.whole (region_inside g.P.Piece.seen c.args.self.now.cells.items _ c.region_of-region.result c.requires.whole c.region_of-region.ensures.below) c.index_mut-cell.ensures.value) _ (cell_fresh g.P.Piece.seen c.args.self.now.cells.items _ c.region_of-region.result c.index_mut-cell.result.now c.requires.whole (region_inside g.P.Piece.seen c.args.self.now.cells.items _ c.region_of-region.result c.requires.whole c.region_of-region.ensures.below) c.index_mut-cell.ensures.value _ c.region_of-region.ensures.value c.requires.fresh) c.read_cell-outcome.ensures.read)
