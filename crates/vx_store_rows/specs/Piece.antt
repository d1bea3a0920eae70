-- What a piece of the rows shows: it counts its calls itself, may be cut, and tells nothing.
use Rattle.std.specs.Prelude.{None}
use Rattle.vx_piece.specs.Seen.{Seen}
use Rattle.vx_piece.specs.MemPiece.{mem_seen}
use Rattle.vx_store_rows.specs.declared.piece.RowPiece.{RowPiece}

abbrev pub row_seen : RowPiece → Seen
row_seen p = record (mem_seen p.memory) { told = None; faults = p.watch.failed; writes = p.watch.writes; reads = p.watch.reads; cut = p.watch.cut }
