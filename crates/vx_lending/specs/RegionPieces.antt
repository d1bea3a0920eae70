-- The pieces of the plexes of regions.
use Rattle.std.specs.Prelude.{◌≡◌, List, [], ◌∷◌, ◌++◌, map, reverse}
use Rattle.std.specs.List.{flat_map}
use Rattle.vx_piece.specs.Seen.{Seen}
use Rattle.vx_cell.specs.declared.cell.Cell.{Cell}
use Rattle.vx_cell.specs.Changes.{CellSeen, cell_seen}
use Rattle.vx_cell.specs.Plexes.{PlexSeen}

-- the pieces of the plexes of a region, in order
abbrev pub own_pieces : PlexSeen → List Seen
own_pieces p = p.pieces

abbrev pub pieces_of : List PlexSeen → List Seen
pieces_of plexes = flat_map own_pieces plexes

-- those of all regions, in order
abbrev pub all_pieces : List (List PlexSeen) → List Seen
all_pieces regions = flat_map pieces_of regions

-- the plexes of each cell, in order
abbrev pub cell_plexes : {P : Type 0} → (P → Seen) → List (Cell P) → List (List PlexSeen)
cell_plexes {P = P} seen cells = map (λ (cell : Cell P). (cell_seen seen cell).plexes) cells

-- These cells are left, the last one first. That which was the first of them may have fewer pieces, and is else as it was.
pub record AreLeft (old new : List CellSeen) : Type 0 where
  pub done : List CellSeen
  pub first : CellSeen
  pub rest : List CellSeen
  pub old_is : old ≡ done ++ first ∷ rest
  pub back : CellSeen
  pub new_is : new ≡ reverse rest ++ back ∷ []
  pub same : back ≡ record first { plexes = back.plexes }
