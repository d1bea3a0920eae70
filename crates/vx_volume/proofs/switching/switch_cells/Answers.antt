-- The plex goes on or off in the cells one after the other.
use Rattle.std.proofs.Common.{◌≡◌, ◌<◌, true, length, arith, rules, subst, sym}
use Rattle.std.proofs.lemmas.List.{length-map}
use Rattle.vx_cell.specs.Changes.{CellSeen, cell_seen, has_other}
use Rattle.vx_pages.proofs.Rounds.{ends, goes_on, still}
use Rattle.vx_volume.specs.Switching.{IsSwitched}
use Rattle.vx_volume.specs.Volume.{cells_seen, no_cell}
use Rattle.vx_volume.proofs.switching.switch_cells.Goals as goal

pub switch_cell-requires-after_bounds : goal.switch_cell-requires-after_bounds
switch_cell-requires-after_bounds g c κs within off =
    let e = length-map c.args.cells.now.items (cell_seen g.P.Piece.seen) in
    let f = c.loop-index.invariant.size in
    let lt : c.loop-index.index < length c.loop-index.cells.items = omega (arith, c.len-index-end.ensures, f, c.args.cells.now.ok.0) in
    subst (λ (x : CellSeen). has_other x.stage c.args.map ≡ true)
    (sym (still no_cell (cell_seen g.P.Piece.seen) (λ i. IsSwitched c.args.map c.args.on) (cells_seen g.P.Piece.seen c.args.cells.now.items) c.loop-index.cells.items c.loop-index.index c.index_mut-cell.result.now lt c.index_mut-cell.ensures.value c.loop-index.invariant.went))
    (c.requires off c.loop-index.index (omega (arith, e, f, lt)))

pub loop-index-preserved : goal.loop-index-preserved
loop-index-preserved g c =
    let lt : c.loop-index.index < length c.loop-index.cells.items = let f = c.loop-index.invariant.size in omega (arith, c.len-index-end.ensures, f, c.args.cells.now.ok.0) in
    record {
      went = goes_on no_cell (cell_seen g.P.Piece.seen) (λ i. IsSwitched c.args.map c.args.on) (cells_seen g.P.Piece.seen c.args.cells.now.items) c.loop-index.cells.items c.loop-index.index c.index_mut-cell.result.now c.switch_cell.new.cell lt c.index_mut-cell.ensures.value c.loop-index.invariant.went c.switch_cell.ensures;
      size = search rules;
    }

pub returns : goal.returns
returns g c =
    ends no_cell (λ i. IsSwitched c.args.map c.args.on) c.loop-index.index (cells_seen g.P.Piece.seen c.args.cells.now.items) (cells_seen g.P.Piece.seen c.loop-index.cells.items)
    (let e = length-map c.args.cells.now.items (cell_seen g.P.Piece.seen) in omega (arith, e, c.len-index-end.ensures, c.args.cells.now.ok.0))
    c.loop-index.invariant.went
