-- The pieces of the volume are those of its cells and of its log.
use Rattle.std.proofs.Common.{◌+◌, ◌≤◌, List, length, ap, arith, subst, sym}
use Rattle.std.specs.Prelude.{vec_capacity, vec_len}
use Rattle.std.proofs.lemmas.List.{length-append}
use Rattle.vx_piece.specs.Seen.{Seen}
use Rattle.vx_volume.specs.Volume.{VolumeSeen}
use Rattle.vx_lending.specs.RegionPieces.{all_pieces, cell_plexes}
use Rattle.vx_lending.specs.Logs.{log_copies, log_pieces}
use Rattle.vx_lending.proofs.Held.{held_are}
use Rattle.vx_group_start.proofs.closing.reserve_volume.Goals as goal

pub returns-in-Ok-clause-room : goal.returns-in-Ok-clause-room
returns-in-Ok-clause-room g c =
    let cells = c.into_cells-cells.result.1.items in
    let log = c.into_cells-cells.result.2 in
    let held = held_are g.P.Piece.seen c.from_cells-volume.result cells (log_copies g.P.Piece.seen log) (ap (λ (v : VolumeSeen). v.cells) c.from_cells-volume.ensures.seen) (ap (log_copies g.P.Piece.seen) (sym c.from_cells-volume.ensures.log)) in
    let size = length-append (all_pieces (cell_plexes g.P.Piece.seen cells)) (log_pieces g.P.Piece.seen log) in
    let all = ap (λ (ps : List Seen). length ps) held in
    let room : vec_len c.reserve_parts-room.new.pool.items + (length (all_pieces (cell_plexes g.P.Piece.seen cells)) + length (log_pieces g.P.Piece.seen log)) ≤ vec_capacity c.reserve_parts-room.new.pool.items =
    subst (λ xs. vec_len c.reserve_parts-room.new.pool.items + (length (all_pieces (cell_plexes g.P.Piece.seen xs)) + length (log_pieces g.P.Piece.seen log)) ≤ vec_capacity c.reserve_parts-room.new.pool.items) c.deref.ensures.value c.in-Ok.ensures.room in
    omega (arith, size, all, room)
