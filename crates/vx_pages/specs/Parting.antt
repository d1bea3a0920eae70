-- One of the two copies of a page is given up.
use Rattle.std.specs.Prelude.{ℕ, List, map, None}
use Rattle.vx_piece.specs.Seen.{Seen}
use Rattle.vx_pages.specs.Sector.{Copies, SectorSeen, copy_of}

-- the pieces of a sector with this copy as the only one
abbrev pub only_of : ℕ → Copies → Copies
only_of n c = record { first = copy_of c n; second = None }

-- a sector on this copy alone; what is sure and what is loose of it is as it was
abbrev pub only_sector : ℕ → SectorSeen → SectorSeen
only_sector n s = record { copies = only_of n s.copies; sure = s.sure; loose = s.loose }

abbrev pub only_sectors : ℕ → List SectorSeen → List SectorSeen
only_sectors n sectors = map (only_sector n) sectors

-- the pieces that sectors have on a copy, in order
abbrev pub pieces_on : ℕ → List SectorSeen → List Seen
pieces_on n sectors = map (λ s. copy_of s.copies n) sectors
