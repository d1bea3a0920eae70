-- What the pages of a store are, and that their pieces fit the holes between them.
use Rattle.std.proofs.Common.{◌≡◌, ℕ, zero, suc, ◌<◌, Bool, true, false, refl, sym, ◌∙◌, ap, arith, List, [], ◌∷◌, length, map, Option, Some, None}
use Rattle.std.specs.Prelude.{is_some, not, if◌then◌else◌}
use Rattle.std.proofs.lemmas.List.{length-map}
use Rattle.vx_piece.specs.Seen.{Seen}
use Rattle.vx_pages.specs.declared.local_piece.LocalPiece.{Ghosts}
use Rattle.vx_pages.specs.declared.page.Page.{Page}
use Rattle.vx_pages.specs.Sector.{SectorSeen}
use Rattle.vx_pages.specs.Sectors.{sector_seen}
use Rattle.vx_pages.specs.Page.{sector_at}
use Rattle.vx_pages.specs.Pages.{grid_seen}
use Rattle.vx_maps.specs.Store.{AreOnCopies, page_at, pages_seen}
use Rattle.vx_pages.specs.Page.{ArePairedAlike}
use Rattle.vx_maps.specs.Slots.{AreHoled, ArePairedRows, IsHoled, IsHoledSecond, IsLaid, IsLaidOn, SheetsSeen, copies_in, is_paged, row_at}
use Rattle.vx_maps.proofs.Sizes.{grid_paged}

abbrev number : Bool → ℕ
number b = if b then 2 else 1

same_pair : (a b : Bool) → number a ≡ number b → a ≡ b
same_pair true true e = refl
same_pair true false e = absurd (omega (arith, e))
same_pair false true e = absurd (omega (arith, e))
same_pair false false e = refl

module _ {P : Type 0} {ghosts : Ghosts P} where
  pub rows_of : (pages : List (Page P ghosts)) (i : ℕ) → i < length pages → length (row_at (grid_seen ghosts.seen pages) i) ≡ 32
  rows_of [] i lt = absurd (omega (arith, lt))
  rows_of (p ∷ pages) zero lt = length-map p.sectors.items (sector_seen ghosts.seen) ∙ p.maps
  rows_of (p ∷ pages) (suc i) lt = rows_of pages i (omega (arith, lt))

  alike_of : (pages : List (Page P ghosts)) (i : ℕ) → i < length pages → ArePairedAlike (row_at (grid_seen ghosts.seen pages) i)
  alike_of [] i lt = absurd (omega (arith, lt))
  alike_of (p ∷ pages) zero lt = p.paired
  alike_of (p ∷ pages) (suc i) lt = alike_of pages i (omega (arith, lt))

  copies_at : (pages : List (Page P ghosts)) (i : ℕ) → i < length pages → (page_at (pages_seen ghosts.seen pages) i).copies ≡ (if is_some (sector_at (row_at (grid_seen ghosts.seen pages) i) 0).copies.second then 2 else 1)
  copies_at [] i lt = absurd (omega (arith, lt))
  copies_at (p ∷ pages) zero lt = refl
  copies_at (p ∷ pages) (suc i) lt = copies_at pages i (omega (arith, lt))

  pub pairs_of : (pages : List (Page P ghosts)) (sheets : SheetsSeen) → AreOnCopies (copies_in sheets) (pages_seen ghosts.seen pages) → ArePairedRows (is_some sheets.second) (grid_seen ghosts.seen pages)
  pairs_of pages sheets on i lt m inside =
      let size = length-map pages (λ page. map (sector_seen ghosts.seen) page.sectors.items) in
      let low : i < length pages = omega (arith, size, lt) in
      alike_of pages i low m inside ∙ same_pair _ _ (sym (copies_at pages i low) ∙ on i (logs_in pages i low))
    where
      logs_in : (pages : List (Page P ghosts)) (i : ℕ) → i < length pages → i < length (pages_seen ghosts.seen pages)
      logs_in [] i lt = absurd (omega (arith, lt))
      logs_in (p ∷ pages) zero lt = omega arith
      logs_in (p ∷ pages) (suc i) lt = let e = logs_in pages i (omega (arith, lt)) in omega (arith, e)

holed_one : (size count : ℕ) (grid : List (List SectorSeen)) (slots : List (Option Seen)) → IsLaidOn size count slots → ((i : ℕ) → i < length grid → length (row_at grid i) ≡ 32) → length grid ≡ count → IsHoled size grid slots
holed_one size count grid slots laid rows e =
    record { long = laid.long; holes = λ k lt. laid.holes k lt ∙ sym (ap (λ (b : Bool). not b) (grid_paged size grid rows k ∙ ap (λ (n : ℕ). is_paged size n k) e)) }

holed_second : (size count : ℕ) (grid : List (List SectorSeen)) (second : Option (List (Option Seen))) → ((slots : List (Option Seen)) → second ≡ Some slots → IsLaidOn size count slots) → ((i : ℕ) → i < length grid → length (row_at grid i) ≡ 32) → length grid ≡ count → IsHoledSecond size grid second
holed_second size count grid None laid rows e = tt
holed_second size count grid (Some slots) laid rows e = holed_one size count grid slots (laid slots refl) rows e

pub laid_holed : (size count : ℕ) (grid : List (List SectorSeen)) (sheets : SheetsSeen) → IsLaid size count sheets → ((i : ℕ) → i < length grid → length (row_at grid i) ≡ 32) → length grid ≡ count → AreHoled size grid sheets
laid_holed size count grid sheets laid rows e = record { first = holed_one size count grid sheets.first laid.first rows e; second = holed_second size count grid sheets.second laid.second rows e }
