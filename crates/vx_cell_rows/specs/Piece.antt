-- What a piece of the rows shows: it may be cut, and tells nothing.
use Rattle.std.specs.Prelude.{None}
use Rattle.vx_piece.specs.Seen.{Seen}
use Rattle.vx_piece.specs.MemPiece.{mem_seen}
use Rattle.vx_cell_rows.specs.declared.piece.RowPiece.{RowPiece}

abbrev pub row_seen : RowPiece → Seen
row_seen p = record (mem_seen p.memory) { told = None; writes = p.writes; reads = p.reads; cut = p.cut }
