-- The cells get their marks one after the other.
use Rattle.std.proofs.Common.{◌<◌, ◌∙◌, Bool, length, arith, rules, subst, sym}
use Rattle.std.proofs.lemmas.List.{length-map}
use Rattle.std.proofs.lemmas.List.Elements.{All-get_or, All-set}
use Rattle.vx_cell.specs.declared.cell.Cell.{Cell}
use Rattle.vx_cell.specs.Changes.{HasRoom, cell_seen}
use Rattle.vx_pages.proofs.Rounds.{ends, goes_on, starts}
use Rattle.vx_volume.specs.Changing.{IsRemarked}
use Rattle.vx_volume.specs.Log.{log_seen}
use Rattle.vx_volume.specs.Volume.{cells_seen, no_cell}
use Rattle.vx_volume.proofs.changing.remark_cells.Goals as goal

pub loop-index-init : goal.loop-index-init
loop-index-init g c =
    record {
      went = starts no_cell (λ r. IsRemarked c.args.map c.args.lost ((log_seen g.P.Piece.seen c.args.log.now).claims r c.args.map)) (cells_seen g.P.Piece.seen c.args.cells.now.items);
      size = search rules;
      room = λ alive room. room;
    }

pub loop-index-preserved : goal.loop-index-preserved
loop-index-preserved g c =
    let lt : c.loop-index.index < length c.loop-index.cells.items = let f = c.loop-index.invariant.size in omega (arith, c.len-index-end.ensures, f, c.args.cells.now.ok.0) in
    record {
      went = goes_on no_cell (cell_seen g.P.Piece.seen) (λ r. IsRemarked c.args.map c.args.lost ((log_seen g.P.Piece.seen c.args.log.now).claims r c.args.map)) (cells_seen g.P.Piece.seen c.args.cells.now.items)
          c.loop-index.cells.items c.loop-index.index c.index_mut-cell.result.now c.remark_cell.new.cell lt c.index_mut-cell.ensures.value c.loop-index.invariant.went
          (subst (λ (on : Bool). IsRemarked c.args.map c.args.lost on (cell_seen g.P.Piece.seen c.index_mut-cell.result.now) (cell_seen g.P.Piece.seen c.remark_cell.new.cell))
          (c.contains-on.ensures ∙ c.marked.ensures c.args.map) c.remark_cell.ensures.marks);
      size = search rules;
      room = λ alive was.
          let each = c.loop-index.invariant.room alive was in
          All-set HasRoom c.loop-index.cells.items c.loop-index.index c.remark_cell.new.cell
          (c.remark_cell.ensures.room alive (subst (λ (x : Cell _). HasRoom x) (sym c.index_mut-cell.ensures.value) (All-get_or HasRoom c.loop-index.cells.items c.loop-index.index c.index_mut-cell.result.now lt each))) each;
    }

pub returns-clause-marks : goal.returns-clause-marks
returns-clause-marks g c =
    ends no_cell (λ r. IsRemarked c.args.map c.args.lost ((log_seen g.P.Piece.seen c.args.log.now).claims r c.args.map)) c.loop-index.index (cells_seen g.P.Piece.seen c.args.cells.now.items) (cells_seen g.P.Piece.seen c.loop-index.cells.items)
    (let e = length-map c.args.cells.now.items (cell_seen g.P.Piece.seen) in omega (arith, e, c.len-index-end.ensures, c.args.cells.now.ok.0))
    c.loop-index.invariant.went

pub returns-clause-room : goal.returns-clause-room
returns-clause-room g c = c.loop-index.invariant.room
