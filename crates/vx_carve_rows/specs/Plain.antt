-- What a piece that stores nothing shows.
use Rattle.std.specs.Prelude.{false, None}
use Rattle.vx_piece.specs.Seen.{Seen}
use Rattle.vx_carve_rows.specs.declared.plain.PlainPiece.{PlainPiece}

abbrev pub plain_seen : PlainPiece → Seen
plain_seen p = record { device = p.device; start = p.start; sectors = p.sectors; told = None; faults = 0; writes = p.writes; reads = p.reads; cut = false; stop = p.stop }
