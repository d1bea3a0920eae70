-- The sectors of a device that is seen.
use Rattle.std.specs.Prelude.{ℕ, Option, Some, None}
use Rattle.vx_piece.specs.Seen.{Seen}

-- its sectors; 0 where none is seen
abbrev pub sectors_seen : Option Seen → ℕ
sectors_seen None = 0
sectors_seen (Some seen) = seen.sectors
