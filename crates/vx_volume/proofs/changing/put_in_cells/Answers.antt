-- The plex is put into the cells, the last first.
use Rattle.std.proofs.Common.{◌≡◌, ◌+◌, ◌-◌, ◌<◌, ◌∙◌, List, [], ◌∷◌, ◌++◌, arith, length, map, rules, subst, sym}
use Rattle.vx_piece.specs.Seen.{Seen}
use Rattle.vx_cell.specs.Changes.{cell_seen}
use Rattle.vx_pages.specs.Items.{item_at}
use Rattle.vx_volume.specs.Changing.{HasGot, runs_seen}
use Rattle.vx_volume.specs.Volume.{cells_seen, no_cell}
use Rattle.vx_volume.proofs.Downwards.{comes_on, rest_length, room_below, run_before, run_last}
use Rattle.vx_volume.proofs.changing.put_in_cells.Goals as goal

pub putting-preserved : goal.putting-preserved
putting-preserved g c =
    let last : c.putting.left.items ≡ c.pop.new.self.items ++ c.in-Some.pieces ∷ [] = c.in-Some.ensures.items in
    let long : length c.putting.left.items ≡ length c.pop.new.self.items + 1 = rest_length c.putting.left.items c.pop.new.self.items c.in-Some.pieces last in
    let next : c.putting.index ≡ (c.putting.index - 1) + 1 = omega (arith, long, c.putting.invariant.left, c.putting.left.ok.0) in
    let lt : c.putting.index - 1 < length c.putting.cells.items = omega (arith, next, c.putting.invariant.low) in
    let here : c.putting.index - 1 ≡ length c.pop.new.self.items = omega (arith, long, c.putting.invariant.left, c.putting.left.ok.0) in
    let run : map g.P.Piece.seen c.in-Some.pieces.items ≡ item_at [] (runs_seen g.P.Piece.seen c.args.plexes.items) (c.putting.index - 1) =
    sym (run_last g.P.Piece.seen c.putting.left.items c.pop.new.self.items c.in-Some.pieces last (c.putting.index - 1) here) ∙ c.putting.invariant.runs (c.putting.index - 1) (omega (arith, next)) in
    record {
      came = comes_on no_cell (cell_seen g.P.Piece.seen) (λ r. HasGot c.args.map (item_at [] (runs_seen g.P.Piece.seen c.args.plexes.items) r)) (cells_seen g.P.Piece.seen c.args.cells.now.items)
          c.putting.cells.items c.putting.index (c.putting.index - 1) c.index_mut-cell.result.now c.put_in_cell.new.cell next lt c.index_mut-cell.ensures.value c.putting.invariant.came
          (subst (λ (pieces : List Seen). HasGot c.args.map pieces (cell_seen g.P.Piece.seen c.index_mut-cell.result.now) (cell_seen g.P.Piece.seen c.put_in_cell.new.cell)) run c.put_in_cell.ensures);
      left = search rules;
      size = search rules;
      low = search rules;
      runs = λ r less.
          run_before g.P.Piece.seen c.putting.left.items c.pop.new.self.items c.in-Some.pieces last r (omega (arith, less, here)) ∙ c.putting.invariant.runs r (omega (arith, less, next));
      room = room_below c.putting.cells.items c.putting.index (c.putting.index - 1) c.put_in_cell.new.cell next c.putting.invariant.room;
    }
