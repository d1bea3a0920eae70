-- What a log has counted is among the counts of its pieces, and it is cut only where one of them is.
use Rattle.std.proofs.Common.{◌≡◌, ℕ, zero, suc, ◌+◌, ◌/◌, ◌<◌, ◌≤◌, true, List, [], ◌∷◌, ◌++◌, Option, Some, None, refl, sym, ◌∙◌, ap, subst, arith}
use Rattle.std.specs.Prelude.{is_some, length, IsTrue}
use Rattle.std.specs.List.{sum_by}
use Rattle.std.proofs.lemmas.List.{length-map}
use Rattle.std.proofs.lemmas.List.Sums.{sum_by-append}
use Rattle.vx_base.specs.Counts.{Rose}
use Rattle.vx_piece.specs.Seen.{Keeps, Seen}
use Rattle.vx_runs.specs.Run.{EachPiece, SomeCut}
use Rattle.vx_carve.specs.Together.{faults_of}
use Rattle.vx_mapfmt.proofs.SizeLemmas.{page_fits}
use Rattle.vx_pages.specs.declared.local_piece.LocalPiece.{Ghosts}
use Rattle.vx_pages.specs.Items.{item_at}
use Rattle.vx_pages.specs.Page.{faults_in, sector_at, sectors_seen}
use Rattle.vx_pages.specs.Pages.{grid_seen, page_seen}
use Rattle.vx_pages.specs.Sector.{KeepsPiece, SectorSeen, copy_of, faults_at, faults_on, or_first, second_faults}
use Rattle.vx_maps.specs.declared.store.MapStore.{MapStore}
use Rattle.vx_maps.specs.Creating.{copies_cut}
use Rattle.vx_maps.specs.Going.{CopiesGo, StoreGoes}
use Rattle.vx_maps.proofs.CopyLaws.{store_goes}
use Rattle.vx_pages.specs.Stays.{piece_same}
use Rattle.vx_mapfmt.specs.declared.shape.DcoShape.{DcoShape}
use Rattle.vx_volume.specs.declared.log.VolumeLog.{VolumeLog}
use Rattle.vx_volume.specs.declared.log.VolumeLog.TheVariants.{Absent, Maps}
use Rattle.vx_volume.specs.Log.{LogGoes, log_seen}
use Rattle.vx_lending.specs.Logs.{log_pieces}
use Rattle.vx_maps.specs.Sheets.{sheets_seen}
use Rattle.vx_maps.specs.Slots.{AreHoled, ArePairedRows, IsHoled, SheetsSeen, cell_piece, filled, grid_faults, place_of, row_at}
use Rattle.vx_maps.specs.Store.{pages_cut, pages_seen}
use Rattle.vx_maps.specs.Wholes.{store_copies, whole_copies}
use Rattle.vx_maps.proofs.Cells.{find_page, grid_shown, piece_there}
use Rattle.vx_maps.proofs.Fills.{filled_size}
use Rattle.vx_maps.proofs.Quiet.{grid_more, grid_quiet}
use Rattle.vx_maps.proofs.Refusals.{grid_pages}
use Rattle.vx_maps.proofs.Rows.{laid_holed, pairs_of, rows_of}
use Rattle.vx_maps.proofs.StoreChanges.{size_seen}
use Rattle.vx_lending.specs.Pieces.{copy_pieces}
use Rattle.vx_group_calls.proofs.HeldPieces.{SumRose, copy_cut, one_grows, sums_grow, weaker}
use Rattle.vx_group_calls.proofs.LogSums.{placed, rose_among, sum_items, total, total_first, total_same, total_turned}

-- ---- the sectors of pages

row_sum : (xs : List SectorSeen) (copy device : ℕ) → faults_in xs copy device ≡ total (λ m. faults_at (sector_at xs m).copies copy device) (length xs)
row_sum [] copy device = refl
row_sum (x ∷ xs) copy device =
    let rest = row_sum xs copy device in
    let first = total_first (λ m. faults_at (sector_at (x ∷ xs) m).copies copy device) (length xs) in
    omega (arith, rest, first)

grid_sum : (grid : List (List SectorSeen)) (copy device : ℕ) → grid_faults copy device grid ≡ total (λ i. faults_in (row_at grid i) copy device) (length grid)
grid_sum [] copy device = refl
grid_sum (x ∷ grid) copy device =
    let rest = grid_sum grid copy device in
    let first = total_first (λ i. faults_in (row_at (x ∷ grid) i) copy device) (length grid) in
    omega (arith, rest, first)

grid_total : (grid : List (List SectorSeen)) (copy device : ℕ) → ((i : ℕ) → i < length grid → length (row_at grid i) ≡ 32) →
    grid_faults copy device grid ≡ total (λ m. total (λ i. faults_at (sector_at (row_at grid i) m).copies copy device) (length grid)) 32
grid_total grid copy device rows =
    grid_sum grid copy device
    ∙ total_same (λ i. faults_in (row_at grid i) copy device) (λ i. total (λ m. faults_at (sector_at (row_at grid i) m).copies copy device) 32) (length grid)
    (λ i lt. row_sum (row_at grid i) copy device ∙ ap (total (λ m. faults_at (sector_at (row_at grid i) m).copies copy device)) (rows i lt))
    ∙ total_turned (λ i m. faults_at (sector_at (row_at grid i) m).copies copy device) (length grid) 32

-- ---- a copy of them

-- the sector counts on this copy what the copy's piece of it does
abbrev HasPieces : ℕ → ℕ → List (List SectorSeen) → Type 0
HasPieces copy device grid = (i m : ℕ) → i < length grid → m < 32 → faults_on (copy_of (sector_at (row_at grid i) m).copies copy) device ≡ faults_at (sector_at (row_at grid i) m).copies copy device

module _ (size copy device : ℕ) where
  -- what the piece at a place of the copy has counted
  abbrev count_at : List (List SectorSeen) → List (Option Seen) → ℕ → ℕ
  count_at grid slots k = faults_of device (item_at (cell_piece copy None) (filled size copy grid 0 slots) k)

  grid_placed : (grid : List (List SectorSeen)) (slots : List (Option Seen)) → IsHoled size grid slots → ((i : ℕ) → i < length grid → length (row_at grid i) ≡ 32) → ((i : ℕ) → i < length grid → 1 + i < size) → HasPieces copy device grid →
      placed (count_at grid slots) size (length grid) 32 ≡ grid_faults copy device grid
  grid_placed grid slots holed rows fits pieces =
      total_same (λ m. total (λ i. count_at grid slots (place_of size m i)) (length grid)) (λ m. total (λ i. faults_at (sector_at (row_at grid i) m).copies copy device) (length grid)) 32
      (λ m low. total_same (λ i. count_at grid slots (place_of size m i)) (λ i. faults_at (sector_at (row_at grid i) m).copies copy device) (length grid)
      (λ i lt. ap (faults_of device) (piece_there size copy grid slots holed i m low (rows i lt) (fits i lt)) ∙ pieces i m lt low))
      ∙ sym (grid_total grid copy device rows)

items_grow : (device : ℕ) (none : Seen) (ps qs : List Seen) → EachPiece Keeps ps qs → (k : ℕ) → faults_of device (item_at none ps k) ≤ faults_of device (item_at none qs k)
items_grow device none [] [] keep k = omega arith
items_grow device none [] (q ∷ qs) keep k = absurd keep
items_grow device none (p ∷ ps) [] keep k = absurd keep
items_grow device none (p ∷ ps) (q ∷ qs) keep zero = one_grows p q device keep.0
items_grow device none (p ∷ ps) (q ∷ qs) keep (suc k) = items_grow device none ps qs keep.1 k

items_size : (ps qs : List Seen) → EachPiece Keeps ps qs → length qs ≡ length ps
items_size [] [] keep = refl
items_size [] (q ∷ qs) keep = absurd keep
items_size (p ∷ ps) [] keep = absurd keep
items_size (p ∷ ps) (q ∷ qs) keep = let rest = items_size ps qs keep.1 in omega (arith, rest)

no_rise : {A : Type 0} (a b : ℕ) → a ≡ 0 → b ≡ 0 → SumRose a b → A
no_rise a b e f rose = absurd (omega (arith, e, f, rose))

module _ (size copy device : ℕ) (grid grid' : List (List SectorSeen)) (slots slots' : List (Option Seen)) (holed : IsHoled size grid slots) (holed' : IsHoled size grid' slots')
    (rows : (i : ℕ) → i < length grid → length (row_at grid i) ≡ 32) (rows' : (i : ℕ) → i < length grid' → length (row_at grid' i) ≡ 32) (fits : (i : ℕ) → i < length grid → 1 + i < size) (fits' : (i : ℕ) → i < length grid' → 1 + i < size)
    (pieces : HasPieces copy device grid) (pieces' : HasPieces copy device grid') (same : length grid' ≡ length grid) (keep : EachPiece Keeps (filled size copy grid 0 slots) (filled size copy grid' 0 slots')) where
  rose_paged : 1 + length grid ≤ size → SumRose (grid_faults copy device grid) (grid_faults copy device grid') → SumRose (sum_by (faults_of device) (filled size copy grid 0 slots)) (sum_by (faults_of device) (filled size copy grid' 0 slots'))
  rose_paged paged rose =
      let none = cell_piece copy None in
      let before = grid_placed size copy device grid slots holed rows fits pieces in
      let after : placed (count_at size copy device grid' slots') size (length grid) 32 ≡ grid_faults copy device grid' =
      ap (λ (n : ℕ). placed (count_at size copy device grid' slots') size n 32) (sym same) ∙ grid_placed size copy device grid' slots' holed' rows' fits' pieces' in
      let long = holed.long in
      let count = filled_size size copy grid 0 slots in
      let sum = sum_items (faults_of device) none (filled size copy grid 0 slots) in
      let sum' : sum_by (faults_of device) (filled size copy grid' 0 slots') ≡ total (count_at size copy device grid' slots') (length (filled size copy grid 0 slots)) =
      sum_items (faults_of device) none (filled size copy grid' 0 slots') ∙ ap (total (count_at size copy device grid' slots')) (items_size _ _ keep) in
      let up = rose_among (count_at size copy device grid slots) (count_at size copy device grid' slots') size (length grid) (length (filled size copy grid 0 slots)) paged (omega (arith, long, count))
      (items_grow device none (filled size copy grid 0 slots) (filled size copy grid' 0 slots') keep) (omega (arith, before, after, rose)) in
      omega (arith, sum, sum', up)

  some_pages : (n : ℕ) → length grid ≡ n → SumRose (grid_faults copy device grid) (grid_faults copy device grid') → SumRose (sum_by (faults_of device) (filled size copy grid 0 slots)) (sum_by (faults_of device) (filled size copy grid' 0 slots'))
  some_pages zero is rose = no_rise _ _ (grid_sum grid copy device ∙ ap (total (λ i. faults_in (row_at grid i) copy device)) is) (grid_sum grid' copy device ∙ ap (total (λ i. faults_in (row_at grid' i) copy device)) (same ∙ is)) rose
  some_pages (suc n) is rose = let last = fits n (omega (arith, is)) in rose_paged (omega (arith, is, last)) rose

  pub copy_rose : SumRose (grid_faults copy device grid) (grid_faults copy device grid') → SumRose (sum_by (faults_of device) (filled size copy grid 0 slots)) (sum_by (faults_of device) (filled size copy grid' 0 slots'))
  copy_rose rose = some_pages (length grid) refl rose

-- ---- one copy or two

first_has : (device : ℕ) (grid : List (List SectorSeen)) → HasPieces 0 device grid
first_has device grid i m lt low = refl

second_counts : (device : ℕ) (first : Seen) (second : Option Seen) → is_some second ≡ true → faults_on (or_first first second) device ≡ second_faults second device
second_counts device first None is = cc
second_counts device first (Some p) is = refl

second_has : (device : ℕ) (grid : List (List SectorSeen)) → ArePairedRows true grid → ((i : ℕ) → i < length grid → length (row_at grid i) ≡ 32) → HasPieces 1 device grid
second_has device grid pairs rows i m lt low =
    let long = rows i lt in
    second_counts device (sector_at (row_at grid i) m).copies.first (sector_at (row_at grid i) m).copies.second (pairs i lt m (omega (arith, long, low)))

sum_first : (a a' s s' : ℕ) → SumRose a a' → s ≤ s' → SumRose (a + s) (a' + s')
sum_first a a' s s' rose le = omega (arith, rose, le)

sum_then : (a a' s s' : ℕ) → a ≤ a' → SumRose s s' → SumRose (a + s) (a' + s')
sum_then a a' s s' le rose = omega (arith, rose, le)

abbrev sum_of : ℕ → List Seen → ℕ
sum_of device ps = sum_by (faults_of device) ps

pub beside_first : (device : ℕ) (ps qs rs ss : List Seen) → SumRose (sum_of device ps) (sum_of device qs) → EachPiece Keeps rs ss → SumRose (sum_of device (ps ++ rs)) (sum_of device (qs ++ ss))
beside_first device ps qs rs ss rose keep =
    let a = sum_by-append (faults_of device) ps rs in
    let b = sum_by-append (faults_of device) qs ss in
    let both = sum_first (sum_of device ps) (sum_of device qs) (sum_of device rs) (sum_of device ss) rose (sums_grow device rs ss keep) in
    omega (arith, a, b, both)

pub beside_then : (device : ℕ) (ps qs rs ss : List Seen) → EachPiece Keeps ps qs → SumRose (sum_of device rs) (sum_of device ss) → SumRose (sum_of device (ps ++ rs)) (sum_of device (qs ++ ss))
beside_then device ps qs rs ss keep rose =
    let a = sum_by-append (faults_of device) ps rs in
    let b = sum_by-append (faults_of device) qs ss in
    let both = sum_then (sum_of device ps) (sum_of device qs) (sum_of device rs) (sum_of device ss) (sums_grow device ps qs keep) rose in
    omega (arith, a, b, both)

-- the pieces between pages and in them are those of copies
pub record AreSheets (size : ℕ) (grid : List (List SectorSeen)) (sheets : SheetsSeen) : Type 0 where
  pub holed : AreHoled size grid sheets
  pub rows : (i : ℕ) → i < length grid → length (row_at grid i) ≡ 32
  pub fits : (i : ℕ) → i < length grid → 1 + i < size
  pub pairs : ArePairedRows (is_some sheets.second) grid

module _ (size device : ℕ) (grid grid' : List (List SectorSeen)) (same : length grid' ≡ length grid) where
  first_rose : (x x' : List (Option Seen)) (y y' : Option (List (Option Seen))) → AreSheets size grid (record { first = x; second = y }) → AreSheets size grid' (record { first = x'; second = y' }) →
      CopiesGo KeepsPiece (whole_copies size grid (record { first = x; second = y })) (whole_copies size grid' (record { first = x'; second = y' })) → SumRose (grid_faults 0 device grid) (grid_faults 0 device grid') →
      SumRose (sum_of device (copy_pieces (whole_copies size grid (record { first = x; second = y })))) (sum_of device (copy_pieces (whole_copies size grid' (record { first = x'; second = y' }))))
  first_rose x x' None None old new go rose =
      beside_first device (filled size 0 grid 0 x) (filled size 0 grid' 0 x') [] []
      (copy_rose size 0 device grid grid' x x' old.holed.first new.holed.first old.rows new.rows old.fits new.fits (first_has device grid) (first_has device grid') same (weaker _ _ go.0) rose) tt
  first_rose x x' None (Some ys) old new go rose = absurd go.1
  first_rose x x' (Some y) None old new go rose = absurd go.1
  first_rose x x' (Some y) (Some y') old new go rose =
      beside_first device (filled size 0 grid 0 x) (filled size 0 grid' 0 x') (copy_pieces (filled size 1 grid 0 y ∷ [])) (copy_pieces (filled size 1 grid' 0 y' ∷ []))
      (copy_rose size 0 device grid grid' x x' old.holed.first new.holed.first old.rows new.rows old.fits new.fits (first_has device grid) (first_has device grid') same (weaker _ _ go.0) rose)
      (alone _ _ (weaker _ _ go.1.0))
    where
      alone : (ps qs : List Seen) → EachPiece Keeps ps qs → EachPiece Keeps (ps ++ []) (qs ++ [])
      alone [] [] keep = tt
      alone [] (q ∷ qs) keep = absurd keep
      alone (p ∷ ps) [] keep = absurd keep
      alone (p ∷ ps) (q ∷ qs) keep = (keep.0, alone ps qs keep.1)

  second_rose : (x x' : List (Option Seen)) (y y' : Option (List (Option Seen))) → AreSheets size grid (record { first = x; second = y }) → AreSheets size grid' (record { first = x'; second = y' }) →
      CopiesGo KeepsPiece (whole_copies size grid (record { first = x; second = y })) (whole_copies size grid' (record { first = x'; second = y' })) → SumRose (grid_faults 1 device grid) (grid_faults 1 device grid') →
      SumRose (sum_of device (copy_pieces (whole_copies size grid (record { first = x; second = y })))) (sum_of device (copy_pieces (whole_copies size grid' (record { first = x'; second = y' }))))
  second_rose x x' None None old new go rose = no_rise _ _ (grid_quiet grid device old.pairs) (grid_quiet grid' device new.pairs) rose
  second_rose x x' None (Some ys) old new go rose = absurd go.1
  second_rose x x' (Some y) None old new go rose = absurd go.1
  second_rose x x' (Some y) (Some y') old new go rose =
      beside_then device (filled size 0 grid 0 x) (filled size 0 grid' 0 x') (copy_pieces (filled size 1 grid 0 y ∷ [])) (copy_pieces (filled size 1 grid' 0 y' ∷ [])) (weaker _ _ go.0)
      (beside_first device (filled size 1 grid 0 y) (filled size 1 grid' 0 y') [] []
      (copy_rose size 1 device grid grid' y y' old.holed.second new.holed.second old.rows new.rows old.fits new.fits (second_has device grid old.pairs old.rows) (second_has device grid' new.pairs new.rows) same (weaker _ _ go.1.0) rose) tt)

  sheets_rose : (copy : ℕ) (old new : SheetsSeen) → AreSheets size grid old → AreSheets size grid' new → CopiesGo KeepsPiece (whole_copies size grid old) (whole_copies size grid' new) → SumRose (grid_faults copy device grid) (grid_faults copy device grid') →
      SumRose (sum_of device (copy_pieces (whole_copies size grid old))) (sum_of device (copy_pieces (whole_copies size grid' new)))
  sheets_rose zero old new are are' go rose = first_rose old.first new.first old.second new.second are are' go rose
  sheets_rose (suc zero) old new are are' go rose = second_rose old.first new.first old.second new.second are are' go rose
  sheets_rose (suc (suc copy)) old new are are' go rose = no_rise _ _ (grid_more grid copy device) (grid_more grid' copy device) rose

  pub whole_rose : (size' copy : ℕ) (old new : SheetsSeen) → size' ≡ size → AreSheets size grid old → AreSheets size' grid' new → CopiesGo KeepsPiece (whole_copies size grid old) (whole_copies size' grid' new) → SumRose (grid_faults copy device grid) (grid_faults copy device grid') →
      SumRose (sum_of device (copy_pieces (whole_copies size grid old))) (sum_of device (copy_pieces (whole_copies size' grid' new)))
  whole_rose size' copy old new is are are' go rose =
      subst (λ (n : ℕ). AreSheets n grid' new → CopiesGo KeepsPiece (whole_copies size grid old) (whole_copies n grid' new) → SumRose (sum_of device (copy_pieces (whole_copies size grid old))) (sum_of device (copy_pieces (whole_copies n grid' new)))) (sym is)
      (λ here goes. sheets_rose copy old new are here goes rose) are' go

-- ---- a store

module _ {P : Type 0} {ghosts : Ghosts P} where
  pub are_sheets : (store : MapStore P ghosts) → AreSheets (store.base.shape.map_bytes / 512) (grid_seen ghosts.seen store.pages.items) (sheets_seen ghosts.seen store.base.sheets)
  are_sheets store =
      let size = length-map store.pages.items (λ page. sectors_seen ghosts.seen page.sectors.items) in
      let count = size ∙ sym (size_seen (page_seen ghosts.seen) store.pages.items) ∙ store.paged.count in
      record {
        holed = laid_holed _ _ _ (sheets_seen ghosts.seen store.base.sheets) store.base.laid (λ i lt. rows_of store.pages.items i (omega (arith, size, lt))) count;
        rows = λ i lt. rows_of store.pages.items i (omega (arith, size, lt));
        fits = λ i lt. page_fits store.base.shape.regions store.base.shape.map_bytes i store.base.shape.map_sized (omega (arith, count, lt));
        pairs = pairs_of store.pages.items (sheets_seen ghosts.seen store.base.sheets) store.copied;
      }

  store_rose : (old new : MapStore P ghosts) → StoreGoes ghosts.seen KeepsPiece old new → (copy device : ℕ) → SumRose (grid_faults copy device (grid_seen ghosts.seen old.pages.items)) (grid_faults copy device (grid_seen ghosts.seen new.pages.items)) →
      SumRose (sum_of device (copy_pieces (store_copies ghosts.seen old))) (sum_of device (copy_pieces (store_copies ghosts.seen new)))
  store_rose old new go copy device rose =
      whole_rose (old.base.shape.map_bytes / 512) device (grid_seen ghosts.seen old.pages.items) (grid_seen ghosts.seen new.pages.items) go.grid.size (new.base.shape.map_bytes / 512) copy
      (sheets_seen ghosts.seen old.base.sheets) (sheets_seen ghosts.seen new.base.sheets) (ap (λ (s : DcoShape). s.map_bytes / 512) go.shape) (are_sheets old) (are_sheets new) (store_goes KeepsPiece piece_same old new go) rose

  store_cut : (store : MapStore P ghosts) → pages_cut (pages_seen ghosts.seen store.pages.items) ≡ true → copies_cut (store_copies ghosts.seen store) ≡ true
  store_cut store is =
      let are = are_sheets store in
      grid_shown (store.base.shape.map_bytes / 512) (grid_seen ghosts.seen store.pages.items) (sheets_seen ghosts.seen store.base.sheets) are.holed are.rows are.fits are.pairs (find_page store.pages.items is)

  pub log_rose : (old new : VolumeLog P ghosts) → LogGoes ghosts.seen old new → (copy device : ℕ) → Rose ((log_seen ghosts.seen old).faults copy device) ((log_seen ghosts.seen new).faults copy device) →
      SumRose (sum_by (faults_of device) (log_pieces ghosts.seen old)) (sum_by (faults_of device) (log_pieces ghosts.seen new))
  log_rose Absent Absent go copy device rose = absurd (omega (arith, rose))
  log_rose Absent (Maps new) go copy device rose = absurd go
  log_rose (Maps old) Absent go copy device rose = absurd go
  log_rose (Maps old) (Maps new) go copy device rose =
      let a = grid_pages old.pages.items copy device in
      let b = grid_pages new.pages.items copy device in
      store_rose old new go.0 copy device (omega (arith, a, b, rose))

  pub log_cut : (log : VolumeLog P ghosts) → IsTrue (log_seen ghosts.seen log).cut → SomeCut (log_pieces ghosts.seen log)
  log_cut Absent is = cc
  log_cut (Maps store) is = copy_cut (store_copies ghosts.seen store) (store_cut store is)
