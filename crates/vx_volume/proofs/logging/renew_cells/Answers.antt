-- The cells are renewed one after the other.
use Rattle.std.proofs.Common.{◌<◌, length, arith, rules}
use Rattle.std.proofs.lemmas.List.{length-map}
use Rattle.vx_cell.specs.Changes.{IsRenewed, cell_seen}
use Rattle.vx_pages.proofs.Rounds.{ends, goes_on}
use Rattle.vx_volume.specs.Volume.{cells_seen, no_cell}
use Rattle.vx_volume.proofs.logging.renew_cells.Goals as goal

pub loop-index-preserved : goal.loop-index-preserved
loop-index-preserved g c =
    let lt : c.loop-index.index < length c.loop-index.cells.items = let f = c.loop-index.invariant.size in omega (arith, c.len-index-end.ensures, f, c.args.cells.now.ok.0) in
    record {
      went = goes_on no_cell (cell_seen g.P.Piece.seen) (λ i. IsRenewed c.args.logged) (cells_seen g.P.Piece.seen c.args.cells.now.items) c.loop-index.cells.items c.loop-index.index c.index_mut-cell.result.now c.renew.new.self lt c.index_mut-cell.ensures.value c.loop-index.invariant.went c.renew.ensures;
      size = search rules;
    }

pub returns : goal.returns
returns g c =
    ends no_cell (λ i. IsRenewed c.args.logged) c.loop-index.index (cells_seen g.P.Piece.seen c.args.cells.now.items) (cells_seen g.P.Piece.seen c.loop-index.cells.items)
    (let e = length-map c.args.cells.now.items (cell_seen g.P.Piece.seen) in omega (arith, e, c.len-index-end.ensures, c.args.cells.now.ok.0))
    c.loop-index.invariant.went
