-- What contracts see of a page.
use Rattle.std.specs.Prelude.{◌≡◌, ℕ, is_some, List, map}
use Rattle.vx_piece.specs.Seen.{Seen}
use Rattle.vx_pages.specs.declared.local_piece.LocalPiece.{Ghosts}
use Rattle.vx_marks.specs.Log.{LogSeen}
use Rattle.vx_pages.specs.declared.page.Page.{Page}
use Rattle.vx_pages.specs.Sector.{Copies, KeepsPiece, SectorSeen, copy_of}
use Rattle.vx_pages.specs.Page.{EachSector, page_log, sectors_seen}

-- the page as a log of marks
abbrev pub page_seen : {P : Type 0} {ghosts : Ghosts P} → (P → Seen) → Page P ghosts → LogSeen
page_seen seen page = page_log page.index page.regions (sectors_seen seen page.sectors.items)

-- the sectors of a page
abbrev pub sectors_of : {P : Type 0} {ghosts : Ghosts P} → (P → Seen) → Page P ghosts → List SectorSeen
sectors_of seen page = sectors_seen seen page.sectors.items

-- the sectors of each page
abbrev pub grid_seen : {P : Type 0} {ghosts : Ghosts P} → (P → Seen) → List (Page P ghosts) → List (List SectorSeen)
grid_seen seen pages = map (λ page. sectors_seen seen page.sectors.items) pages

-- the two are pages of one index and of one number of regions
pub record SamePage {P : Type 0} {ghosts : Ghosts P} (old new : Page P ghosts) : Type 0 where
  pub index : new.index ≡ old.index
  pub regions : new.regions ≡ old.regions

-- the pieces of a sector go on so
pub record PiecesGo (rel : Seen → Seen → Type 0) (old new : Copies) : Type 0 where
  pub pair : is_some new.second ≡ is_some old.second
  pub each : (n : ℕ) → rel (copy_of old n) (copy_of new n)

-- the pieces of each sector of a page go on so
abbrev pub RowGoes : (Seen → Seen → Type 0) → List SectorSeen → List SectorSeen → Type 0
RowGoes rel old new = EachSector (λ m a b. PiecesGo rel a.copies b.copies) old new

-- the page is the same, and keeps its pieces
pub record PageStays {P : Type 0} {ghosts : Ghosts P} (seen : P → Seen) (old new : Page P ghosts) : Type 0 where
  pub place : SamePage old new
  pub pieces : RowGoes KeepsPiece (sectors_of seen old) (sectors_of seen new)
