-- The count is that of the first cells.
use Rattle.std.proofs.Common.{◌≡◌, length, take}
use Rattle.vx_lending.specs.RegionPieces.{all_pieces, cell_plexes}
use Rattle.vx_lending.proofs.room.pieces_in.Given as goal

abbrev pub invariant-loop-index : goal.invariant-loop-index
invariant-loop-index g l = l.count ≡ length (all_pieces (cell_plexes g.P.Piece.seen (take l.index l.cells)))
