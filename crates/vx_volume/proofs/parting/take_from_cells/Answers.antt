-- The plex is taken out of the cells one after the other.
use Rattle.std.proofs.Common.{◌<◌, ◌∙◌, List, ap, arith, length, rules, map as map_list}
use Rattle.std.proofs.lemmas.List.{length-map, take_all}
use Rattle.vx_cell.specs.Changes.{CellSeen, cell_seen}
use Rattle.vx_cell.specs.Parting.{LosesPlex, pieces_of}
use Rattle.vx_pages.proofs.Rounds.{ends, goes_on, inside_old, still}
use Rattle.vx_volume.specs.Volume.{cells_seen, no_cell}
use Rattle.vx_volume.proofs.Partings.{runs_on}
use Rattle.vx_volume.proofs.parting.take_from_cells.Goals as goal

pub loop-index-preserved : goal.loop-index-preserved
loop-index-preserved g c =
    let old : List CellSeen = cells_seen g.P.Piece.seen c.args.cells.now.items in
    let lt : c.loop-index.index < length c.loop-index.cells.items = let f = c.loop-index.invariant.size in omega (arith, c.len-index-end.ensures, f, c.args.cells.now.ok.0) in
    record {
      went = goes_on no_cell (cell_seen g.P.Piece.seen) (λ i. LosesPlex c.args.map) old c.loop-index.cells.items c.loop-index.index c.index_mut-cell.result.now c.lose_plex.new.self lt c.index_mut-cell.ensures.value c.loop-index.invariant.went c.lose_plex.ensures.loses;
      size = search rules;
      runs = runs_on g.P.Piece.seen (λ cell. pieces_of c.args.map cell.plexes) old c.loop-index.index c.loop-index.runs.items c.push_reserved.new.self.items c.lose_plex.result
          (inside_old no_cell (cell_seen g.P.Piece.seen) (λ i. LosesPlex c.args.map) old c.loop-index.cells.items c.loop-index.index lt c.loop-index.invariant.went)
          c.push_reserved.ensures.items
          (c.lose_plex.ensures.pieces ∙ ap (λ (x : CellSeen). pieces_of c.args.map x.plexes) (still no_cell (cell_seen g.P.Piece.seen) (λ i. LosesPlex c.args.map) old c.loop-index.cells.items c.loop-index.index c.index_mut-cell.result.now lt c.index_mut-cell.ensures.value c.loop-index.invariant.went))
          c.loop-index.invariant.runs;
      count = search rules;
      room = search rules;
    }

pub returns-clause-loses : goal.returns-clause-loses
returns-clause-loses g c =
    ends no_cell (λ i. LosesPlex c.args.map) c.loop-index.index (cells_seen g.P.Piece.seen c.args.cells.now.items) (cells_seen g.P.Piece.seen c.loop-index.cells.items)
    (let e = length-map c.args.cells.now.items (cell_seen g.P.Piece.seen) in omega (arith, e, c.len-index-end.ensures, c.args.cells.now.ok.0))
    c.loop-index.invariant.went

pub returns-clause-runs : goal.returns-clause-runs
returns-clause-runs g c =
    let old : List CellSeen = cells_seen g.P.Piece.seen c.args.cells.now.items in
    c.loop-index.invariant.runs
    ∙ ap (λ (xs : List CellSeen). map_list (λ cell. pieces_of c.args.map cell.plexes) xs)
    (take_all c.loop-index.index old (let e = length-map c.args.cells.now.items (cell_seen g.P.Piece.seen) in omega (arith, e, c.len-index-end.ensures, c.args.cells.now.ok.0)))
