-- What becomes of the pieces of a group, as some of them go on.
use Rattle.std.specs.Prelude.{List, ◌++◌}
use Rattle.vx_piece.specs.Seen.{Seen}
use Rattle.vx_carve.specs.Together.{SameSectors}
use Rattle.vx_lending.specs.Going.{GoTogether}

-- Pieces that are together what those were go on.
abbrev pub SamePiecesGo : Type 0
SamePiecesGo = (old new : List Seen) → SameSectors old new → GoTogether old new

-- What goes on and then goes on again goes on.
abbrev pub PiecesGoOn : Type 0
PiecesGoOn = (old mid new : List Seen) → GoTogether old mid → GoTogether mid new → GoTogether old new

-- Pieces go on beside others that do.
abbrev pub PiecesGoBeside : Type 0
PiecesGoBeside = (old new old' new' : List Seen) → GoTogether old new → GoTogether old' new' → GoTogether (old ++ old') (new ++ new')
