-- The pieces of the volume are those of its cells and of its log.
use Rattle.std.proofs.Common.{◌≡◌, ◌+◌, ◌≤◌, ◌++◌, ◌∙◌, List, length, map, ap, subst, sym}
use Rattle.std.specs.Prelude.{IfErr, OnOk, vec_len, vec_capacity}
use Rattle.vx_piece.specs.Seen.{Seen}
use Rattle.vx_carve.specs.Together.{SameSectors}
use Rattle.vx_maps.specs.Spares.{copies_seen}
use Rattle.vx_volume.specs.Volume.{VolumeSeen}
use Rattle.vx_lending.specs.RegionPieces.{all_pieces, cell_plexes}
use Rattle.vx_lending.specs.Left.{held_pieces, left_pieces}
use Rattle.vx_lending.specs.Logs.{log_copies}
use Rattle.vx_lending.specs.Pieces.{copy_pieces}
use Rattle.vx_lending.proofs.Held.{held_are, not_refused}
use Rattle.vx_lending.proofs.volumes.put_volume.Goals as goal

held : (g : _) (c : goal.After-drop-scratch g) → all_pieces (cell_plexes g.P.Piece.seen c.into_cells-cells.result.1.items) ++ copy_pieces (copies_seen g.P.Piece.seen c.in-Ok.copies.items) ≡ held_pieces g.P.Piece.seen c.args.volume
held g c = held_are g.P.Piece.seen c.args.volume c.into_cells-cells.result.1.items (copies_seen g.P.Piece.seen c.in-Ok.copies.items) (ap (λ (v : VolumeSeen). v.cells) c.into_cells-cells.ensures.seen) (c.in-Ok.ensures.copies ∙ ap (log_copies g.P.Piece.seen) c.into_cells-cells.ensures.log)

pub returns-in-Ok-clause-put : goal.returns-in-Ok-clause-put
returns-in-Ok-clause-put g c = subst (λ (xs : List Seen). OnOk c.put_parts.result (SameSectors (xs ++ map g.P.Piece.seen c.args.pool.now.items.items) (map g.P.Piece.seen c.put_parts.new.pool.items.items))) (held g c) c.put_parts.ensures.put

pub returns-in-Ok-clause-left : goal.returns-in-Ok-clause-left
returns-in-Ok-clause-left g c =
    subst (λ (xs : List Seen). IfErr c.put_parts.result (λ left. SameSectors (xs ++ map g.P.Piece.seen c.args.pool.now.items.items) (left_pieces g.P.Piece.seen left ++ map g.P.Piece.seen c.put_parts.new.pool.items.items))) (held g c) c.put_parts.ensures.left

pub returns-in-Ok-clause-room : goal.returns-in-Ok-clause-room
returns-in-Ok-clause-room g c room = not_refused c.put_parts.result _ (c.put_parts.ensures.room (subst (λ (xs : List Seen). vec_len c.args.pool.now.items + length xs ≤ vec_capacity c.args.pool.now.items) (sym (held g c)) room))

pub returns-in-Ok-clause-longer : goal.returns-in-Ok-clause-longer
returns-in-Ok-clause-longer g c = subst (λ (xs : List Seen). OnOk c.put_parts.result (vec_len c.put_parts.new.pool.items ≤ vec_len c.args.pool.now.items + length xs)) (held g c) c.put_parts.ensures.longer
