-- What is seen of the sectors of a page.
use Rattle.vx_piece.specs.Seen.{Seen}
use Rattle.vx_pages.specs.declared.local_piece.LocalPiece.{Ghosts}
use Rattle.vx_pages.specs.declared.sector.MapSector.{MapSector}
use Rattle.vx_pages.specs.Sector.{SectorSeen}
use Rattle.vx_pages.specs.Pieces.{sector_of}

-- what is seen of a map's sector
abbrev pub sector_seen : {P : Type 0} {ghosts : Ghosts P} → (P → Seen) → MapSector P ghosts → SectorSeen
sector_seen seen s = sector_of seen s.first s.second s.sure.items s.loose.items
