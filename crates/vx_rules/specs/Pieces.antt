-- The pieces of plexes, and what is found of a column when its pieces are taken in turn.
use Rattle.std.specs.Prelude.{ℕ, ◌+◌, max, Bool, true, false, Option, Some, None, List, [], ◌∷◌, ◌==◌, ◌&&◌, nat_lt, if◌then◌else◌}
use Rattle.std.specs.List.{fold}
use Rattle.std.specs.Str.{bytes_eq}
use Rattle.vx_base.specs.Named.{Word}
use Rattle.vx_config_parts.specs.declared.subdisk.Subdisk.{Subdisk}
use Rattle.vx_config_parts.specs.declared.object.Object.{Object}
use Rattle.vx_config_parts.specs.declared.object.Object.TheVariants.{SubdiskRecord}
use Rattle.vx_rules.specs.declared.piece.Piece.{Piece}
use Rattle.vx_rules.specs.declared.column.Column.{Column}
use Rattle.vx_rules.specs.Keys.{Key}

-- the subdisk before other pieces, where it has a plex
abbrev pub piece_before : Option Word → Subdisk → List Piece → List Piece
piece_before None s ps = ps
piece_before (Some plex) s ps = record { plex = plex; col = s.col; at = s.at; len = s.len } ∷ ps

-- the pieces among the records
abbrev pub pieces : List Object → List Piece
pieces [] = []
pieces (SubdiskRecord s ∷ os) = piece_before s.plex s (pieces os)
pieces (_ ∷ os) = pieces os

abbrev pub is_filled : Piece → Bool
is_filled p = nat_lt 0 p.len

-- the piece lies in that column of that plex
abbrev pub is_in : Key → Piece → Bool
is_in q p = bytes_eq p.plex q.0 && p.col == q.1

-- with one more piece a column ends with the last, and is whole if that begins where the others end
abbrev pub grow : Column → Piece → Column
grow c p = record { end = max c.end (p.at + p.len); whole = c.whole && p.at == c.end }

-- a column without pieces
abbrev pub or_new : Option Column → Column
or_new None = record { end = 0; whole = true }
or_new (Some c) = c

abbrev pub column_after : Key → Option Column → Piece → Option Column
column_after q c p = if is_in q p then Some (grow (or_new c) p) else c

-- what is found of the column
abbrev pub column_of : Key → List Piece → Option Column
column_of q ps = fold (column_after q) None ps

abbrev pub end_of : Option Column → ℕ
end_of None = 0
end_of (Some c) = c.end

-- it has pieces, and is whole
abbrev pub whole_of : Option Column → Bool
whole_of None = false
whole_of (Some c) = c.whole
