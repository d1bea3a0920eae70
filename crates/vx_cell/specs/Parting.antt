-- A plex leaves a cell.
use Rattle.std.specs.Prelude.{◌≡◌, ℕ, ◌==◌, if◌then◌else◌, List, [], ◌∷◌}
use Rattle.vx_core.specs.Plexes.{take_out}
use Rattle.vx_piece.specs.Seen.{Seen}
use Rattle.vx_cell.specs.Changes.{CellSeen}
use Rattle.vx_cell.specs.Plexes.{PlexSeen}

-- the pieces of the plex of this map; none where there is no such plex
abbrev pub pieces_of : ℕ → List PlexSeen → List Seen
pieces_of map [] = []
pieces_of map (p ∷ ps) = if p.map == map then p.pieces else pieces_of map ps

-- the plexes without the first of this map
abbrev pub without_plex : ℕ → List PlexSeen → List PlexSeen
without_plex map [] = []
without_plex map (p ∷ ps) = if p.map == map then ps else p ∷ without_plex map ps

-- the cell has no plex of this map now, and nothing else has changed
abbrev pub LosesPlex : ℕ → CellSeen → CellSeen → Type 0
LosesPlex map old new = new ≡ record old { stage = take_out old.stage map; plexes = without_plex map old.plexes }
