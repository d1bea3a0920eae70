-- How many sectors a mark or an unmark of a store writes.
use Rattle.std.specs.Prelude.{◌≡◌, ◌≢◌, ℕ, List, Result}
use Rattle.vx_marks.specs.declared.marker.MarkFault.{MarkFault}
use Rattle.vx_pages.specs.Sector.{SectorSeen}
use Rattle.vx_pages.specs.Writes.{PageHands}
use Rattle.vx_maps.specs.Slots.{row_at}

-- each sector of one page is written so often on each copy, none is read, and no other page's pieces are called
pub record StoreHands {T : Type 0} (page : ℕ) (writes : ℕ → SectorSeen → ℕ) (result : Result T MarkFault) (old new : List (List SectorSeen)) : Type 0 where
  pub here : PageHands writes result (row_at old page) (row_at new page)
  pub others : (i : ℕ) → i ≢ page → row_at new i ≡ row_at old i
