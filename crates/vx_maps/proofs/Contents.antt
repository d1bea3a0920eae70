-- That the sectors of a store's pages lie in its copies where the maps of a plex have their pages.
use Rattle.std.proofs.Common.{◌≡◌, ℕ, zero, suc, ◌+◌, ◌*◌, ◌/◌, ◌%◌, ◌-◌, ◌<◌, ◌≤◌, Bool, refl, sym, ◌∙◌, ap, subst, arith, List, [], ◌∷◌, length, map, true, false, Option, Some, None}
use Rattle.std.specs.Prelude.{is_some, not, nat_le, ◌&&◌, if◌then◌else◌}
use Rattle.std.specs.Option.{option_map}
use Rattle.std.proofs.lemmas.Bool.{cond-true, cond-false, lt-ltb, le-ltb}
use Rattle.vx_base.specs.Blocks.{Contents}
use Rattle.vx_mapfmt.specs.Sizes.{page_count, page_sector, parts_of}
use Rattle.vx_mapfmt.proofs.SizeLemmas.{page_fits, slots_before}
use Rattle.vx_piece.specs.Seen.{Seen}
use Rattle.vx_runs.specs.Part.{Tells, told_or}
use Rattle.vx_runs.specs.Run.{RunTells, run_contents}
use Rattle.vx_pages.specs.declared.local_piece.LocalPiece.{Ghosts}
use Rattle.vx_pages.specs.declared.page.Page.{Page}
use Rattle.vx_pages.specs.declared.sector.MapSector.{MapSector}
use Rattle.vx_pages.specs.Items.{item_at}
use Rattle.vx_pages.specs.Sector.{SectorSeen, AreSectors, copy_of, held}
use Rattle.vx_pages.specs.Sectors.{sector_seen}
use Rattle.vx_pages.specs.Page.{sector_at}
use Rattle.vx_pages.specs.Pages.{grid_seen}
use Rattle.vx_maps.specs.Copies.{copies_list}
use Rattle.vx_maps.specs.Loading.{copy_at}
use Rattle.vx_maps.specs.Sheets.{sheets_seen}
use Rattle.vx_maps.specs.Creating.{BeginsWith, head_tells}
use Rattle.vx_maps.proofs.HeadPlaces.{some_size}
use Rattle.vx_maps.specs.Slots.{IsHoled, IsHoledSecond, IsLaidOn, cell_at, cell_piece, copies_in, filled, grid_at, part_at, place_of, row_at, slot_at}
use Rattle.vx_maps.specs.Wholes.{store_copies}
use Rattle.vx_maps.specs.declared.store.MapStore.{MapStore}
use Rattle.vx_maps.proofs.Fills.{filled_at, filled_size}
use Rattle.vx_maps.proofs.PageRows.{grid_size, seen_size}
use Rattle.vx_maps.proofs.PlaceLaws.{grid_is, place_in}
use Rattle.vx_maps.proofs.Rows.{laid_holed, rows_of}

-- ---- pieces of one sector

pub contents_at : (none : Seen) (ps : List Seen) (k : ℕ) → k < length ps → ((j : ℕ) → j ≤ k → (item_at none ps j).sectors ≡ 1) → run_contents ps k ≡ told_or (item_at none ps k).told 0
contents_at none [] k lt one = absurd (omega (arith, lt))
contents_at none (p ∷ ps) zero lt one = let e = one 0 (omega arith) in cond-true _ _ _ (lt-ltb 0 p.sectors (omega (arith, e)))
contents_at none (p ∷ ps) (suc k) lt one =
    let e = one 0 (omega arith) in
    cond-false _ _ _ (le-ltb (suc k) p.sectors (omega (arith, e))) ∙ ap (λ (n : ℕ). run_contents ps n) (let r : suc k - p.sectors ≡ k = omega (arith, e) in r)
    ∙ contents_at none ps k (omega (arith, lt)) (λ j le. one (suc j) (omega (arith, le)))

pub tells_item : (none : Seen) (ps : List Seen) (k : ℕ) → k < length ps → RunTells ps → is_some (item_at none ps k).told ≡ true
tells_item none [] k lt tells = absurd (omega (arith, lt))
tells_item none (p ∷ ps) zero lt tells = some p.told tells.0
  where
    some : (t : Option Contents) → Tells t → is_some t ≡ true
    some None h = absurd h
    some (Some c) h = refl
tells_item none (p ∷ ps) (suc k) lt tells = tells_item none ps k (omega (arith, lt)) tells.1

-- ---- cells

cell_there : (xs : List SectorSeen) (m : ℕ) → m < length xs → cell_at xs m ≡ Some (sector_at xs m)
cell_there [] m lt = absurd (omega (arith, lt))
cell_there (x ∷ xs) zero lt = refl
cell_there (x ∷ xs) (suc m) lt = cell_there xs m (omega (arith, lt))

cell_is : (xs : List SectorSeen) (m : ℕ) (s : SectorSeen) → cell_at xs m ≡ Some s → (m < length xs) × (sector_at xs m ≡ s)
cell_is [] m s e = cc
cell_is (x ∷ xs) zero s e = (omega arith, cc)
cell_is (x ∷ xs) (suc m) s e = let r = cell_is xs m s e in (let a = r.0 in omega (arith, a), r.1)

row_there : (grid : List (List SectorSeen)) (i m : ℕ) → m < length (row_at grid i) → i < length grid
row_there [] i m lt = absurd (omega (arith, lt))
row_there (x ∷ xs) zero m lt = omega arith
row_there (x ∷ xs) (suc i) m lt = let e = row_there xs i m lt in omega (arith, e)

-- each sector's pieces have one sector
pub AllSingle : List (List SectorSeen) → Type 0
AllSingle grid = (i m : ℕ) → i < length grid → m < length (row_at grid i) → AreSectors (sector_at (row_at grid i) m).copies

grid_single : (size : ℕ) (grid : List (List SectorSeen)) (k : ℕ) (s : SectorSeen) → AllSingle grid → grid_at size grid k ≡ Some s → AreSectors s.copies
unfolding AllSingle
grid_single size grid k s all e = by (nat_le 3 (k / size) && nat_le 1 (k % size)) (k % size - 1) (k / size - 3) e
  where
    by : (b : Bool) (p m : ℕ) → (if b then cell_at (row_at grid p) m else None) ≡ Some s → AreSectors s.copies
    by true p m e = let r = cell_is (row_at grid p) m s e in subst (λ (x : SectorSeen). AreSectors x.copies) r.1 (all p m (row_there grid p m r.0) r.0)
    by false p m e = cc

part_single : (copy : ℕ) (x : Option Seen) (cell : Option SectorSeen) → is_some x ≡ not (is_some cell) → ((p : Seen) → x ≡ Some p → p.sectors ≡ 1) → ((s : SectorSeen) → cell ≡ Some s → AreSectors s.copies) → (part_at copy x cell).sectors ≡ 1
part_single copy None None holes one all = cc
part_single copy None (Some s) holes one all = all s refl copy
part_single copy (Some p) cell holes one all = one p refl

module _ (size copy count : ℕ) (grid : List (List SectorSeen)) (slots : List (Option Seen)) (laid : IsLaidOn size count slots) (holed : IsHoled size grid slots) (all : AllSingle grid) where
  one_each : (k : ℕ) → k < 35 * size → (item_at (cell_piece copy None) (filled size copy grid 0 slots) k).sectors ≡ 1
  one_each k lt =
      let l = laid.long in
      let inside : k < length slots = omega (arith, l, lt) in
      ap (λ (p : Seen). p.sectors) (filled_at size copy grid 0 slots k inside)
      ∙ part_single copy (slot_at slots k) (grid_at size grid (0 + k)) (holed.holes k inside ∙ ap (λ (j : ℕ). not (is_some (grid_at size grid j))) (let z : k ≡ 0 + k = omega arith in z)) (λ p e. laid.single k p lt e)
      (λ s e. grid_single size grid (0 + k) s all e)

  -- what the copy holds at a place of the plex
  pub copy_holds : (k : ℕ) → k < 35 * size → run_contents (filled size copy grid 0 slots) k ≡ told_or (item_at (cell_piece copy None) (filled size copy grid 0 slots) k).told 0
  copy_holds k lt =
      let l = laid.long in
      let n = filled_size size copy grid 0 slots in
      contents_at (cell_piece copy None) (filled size copy grid 0 slots) k (omega (arith, l, n, lt)) (λ j le. one_each j (omega (arith, le, lt)))

  -- the piece at the place of a page's sector
  pub copy_piece : (i m : ℕ) → m < 32 → length (row_at grid i) ≡ 32 → 1 + i < size → item_at (cell_piece copy None) (filled size copy grid 0 slots) (place_of size m i) ≡ copy_of (sector_at (row_at grid i) m).copies copy
  copy_piece i m lt row fits =
      let l = laid.long in
      let k : place_of size m i < 35 * size = place_in size m i lt fits in
      let inside : place_of size m i < length slots = omega (arith, l, k) in
      let there : cell_at (row_at grid i) m ≡ Some (sector_at (row_at grid i) m) = cell_there (row_at grid i) m (omega (arith, row, lt)) in
      let cell : grid_at size grid (0 + place_of size m i) ≡ Some (sector_at (row_at grid i) m) = ap (grid_at size grid) (let z : 0 + place_of size m i ≡ place_of size m i = omega arith in z) ∙ grid_is size grid m i fits ∙ there in
      let hole : is_some (slot_at slots (place_of size m i)) ≡ false = holed.holes (place_of size m i) inside ∙ ap (λ (x : Option SectorSeen). not (is_some x)) (grid_is size grid m i fits ∙ there) in
      filled_at size copy grid 0 slots (place_of size m i) inside ∙ part (slot_at slots (place_of size m i)) _ (sector_at (row_at grid i) m) hole cell
    where
      part : (x : Option Seen) (cell : Option SectorSeen) (s : SectorSeen) → is_some x ≡ false → cell ≡ Some s → part_at copy x cell ≡ copy_of s.copies copy
      part None cell s hole is = ap (cell_piece copy) is
      part (Some p) cell s hole is = cc

-- ---- a store

module _ {P : Type 0} {ghosts : Ghosts P} where
  row_single : (sectors : List (MapSector P ghosts)) (m : ℕ) → m < length (map (sector_seen ghosts.seen) sectors) → AreSectors (sector_at (map (sector_seen ghosts.seen) sectors) m).copies
  row_single [] m lt = absurd (omega (arith, lt))
  row_single (x ∷ xs) zero lt = x.formed.sectors
  row_single (x ∷ xs) (suc m) lt = row_single xs m (omega (arith, lt))

  all_single : (pages : List (Page P ghosts)) → AllSingle (grid_seen ghosts.seen pages)
  unfolding AllSingle
  all_single [] i m lt in' = absurd (omega (arith, lt))
  all_single (p ∷ pages) zero m lt in' = row_single p.sectors.items m in'
  all_single (p ∷ pages) (suc i) m lt in' = all_single pages i m (omega (arith, lt)) in'

  module _ (store : MapStore P ghosts) where
    size : ℕ
    size = store.base.shape.map_bytes / 512

    pub grid_count : length (grid_seen ghosts.seen store.pages.items) ≡ page_count store.base.shape.regions
    grid_count = grid_size store.pages.items ∙ sym (seen_size store.pages.items) ∙ store.paged.count

    -- a copy of the store is one of these
    pub of_copies : (Q : ℕ → List Seen → Type 0) (n : ℕ) → n < copies_in (sheets_seen ghosts.seen store.base.sheets) →
        ((copy : ℕ) (slots : List (Option Seen)) → IsLaidOn (store.base.shape.map_bytes / 512) (page_count store.base.shape.regions) slots → IsHoled (store.base.shape.map_bytes / 512) (grid_seen ghosts.seen store.pages.items) slots →
        Q copy (filled (store.base.shape.map_bytes / 512) copy (grid_seen ghosts.seen store.pages.items) 0 slots)) → Q n (copy_at (store_copies ghosts.seen store) n)
    of_copies Q n lt each =
        let grid = grid_seen ghosts.seen store.pages.items in
        let sheets = sheets_seen ghosts.seen store.base.sheets in
        let holed = laid_holed (store.base.shape.map_bytes / 512) _ grid sheets store.base.laid (λ i in'. let e = grid_size store.pages.items in rows_of store.pages.items i (omega (arith, e, in'))) grid_count in
        by n sheets.second store.base.laid.second holed.second lt (each 0 sheets.first store.base.laid.first holed.first)
      where
        by : (n : ℕ) (second : Option (List (Option Seen))) → ((slots : List (Option Seen)) → second ≡ Some slots → IsLaidOn (store.base.shape.map_bytes / 512) (page_count store.base.shape.regions) slots) →
            IsHoledSecond (store.base.shape.map_bytes / 512) (grid_seen ghosts.seen store.pages.items) second → n < (if is_some second then 2 else 1) →
            Q 0 (filled (store.base.shape.map_bytes / 512) 0 (grid_seen ghosts.seen store.pages.items) 0 (sheets_seen ghosts.seen store.base.sheets).first) →
            Q n (copy_at (copies_list (filled (store.base.shape.map_bytes / 512) 0 (grid_seen ghosts.seen store.pages.items) 0 (sheets_seen ghosts.seen store.base.sheets).first) (option_map (filled (store.base.shape.map_bytes / 512) 1 (grid_seen ghosts.seen store.pages.items) 0) second)) n)
        by zero None laid holed lt first = first
        by zero (Some slots) laid holed lt first = first
        by (suc n) None laid holed lt first = absurd (omega (arith, lt))
        by (suc zero) (Some slots) laid holed lt first = each 1 slots (laid slots refl) holed
        by (suc (suc n)) (Some slots) laid holed lt first = absurd (omega (arith, lt))

    place_is : (i m : ℕ) → page_sector store.base.shape.map_bytes m i ≡ place_of (store.base.shape.map_bytes / 512) m i
    place_is i m = let e = slots_before (3 + m) store.base.shape.map_bytes (parts_of 8192 (512 + parts_of 8 store.base.shape.regions)) store.base.shape.map_sized in omega (arith, e)

    -- what a copy holds at the place of a page's sector is what the sector's piece holds
    pub store_holds : (n i m : ℕ) → n < copies_in (sheets_seen ghosts.seen store.base.sheets) → i < page_count store.base.shape.regions → m < 32 →
        run_contents (copy_at (store_copies ghosts.seen store) n) (page_sector store.base.shape.map_bytes m i) ≡ held (sector_at (row_at (grid_seen ghosts.seen store.pages.items) i) m).copies n
    store_holds n i m lt in' low =
        let fits = page_fits store.base.shape.regions store.base.shape.map_bytes i store.base.shape.map_sized in' in
        let count = grid_size store.pages.items in
        let total = grid_count in
        let row = rows_of store.pages.items i (omega (arith, count, total, in')) in
        ap (λ (k : ℕ). run_contents (copy_at (store_copies ghosts.seen store) n) k) (place_is i m)
        ∙ of_copies (λ copy pieces. run_contents pieces (place_of (store.base.shape.map_bytes / 512) m i) ≡ held (sector_at (row_at (grid_seen ghosts.seen store.pages.items) i) m).copies copy) n lt
        (λ copy slots laid holed.
        copy_holds (store.base.shape.map_bytes / 512) copy _ (grid_seen ghosts.seen store.pages.items) slots laid holed (all_single store.pages.items) (place_of (store.base.shape.map_bytes / 512) m i) (place_in _ m i low fits)
        ∙ ap (λ (p : Seen). told_or p.told 0) (copy_piece (store.base.shape.map_bytes / 512) copy _ (grid_seen ghosts.seen store.pages.items) slots laid holed (all_single store.pages.items) i m low row fits))

    -- a sector's piece tells, if its copy does
    pub store_tells : (n i m : ℕ) → n < copies_in (sheets_seen ghosts.seen store.base.sheets) → i < page_count store.base.shape.regions → m < 32 → RunTells (copy_at (store_copies ghosts.seen store) n) →
        is_some (copy_of (sector_at (row_at (grid_seen ghosts.seen store.pages.items) i) m).copies n).told ≡ true
    store_tells n i m lt in' low =
        let fits = page_fits store.base.shape.regions store.base.shape.map_bytes i store.base.shape.map_sized in' in
        let count = grid_size store.pages.items in
        let total = grid_count in
        let row = rows_of store.pages.items i (omega (arith, count, total, in')) in
        of_copies (λ copy pieces. RunTells pieces → is_some (copy_of (sector_at (row_at (grid_seen ghosts.seen store.pages.items) i) m).copies copy).told ≡ true) n lt
        (λ copy slots laid holed tells.
        let l = laid.long in
        let k = place_in (store.base.shape.map_bytes / 512) m i low fits in
        let long = filled_size (store.base.shape.map_bytes / 512) copy (grid_seen ghosts.seen store.pages.items) 0 slots in
        sym (ap (λ (p : Seen). is_some p.told) (copy_piece (store.base.shape.map_bytes / 512) copy _ (grid_seen ghosts.seen store.pages.items) slots laid holed (all_single store.pages.items) i m low row fits))
        ∙ tells_item (cell_piece copy None) _ (place_of (store.base.shape.map_bytes / 512) m i) (omega (arith, l, k, long)) tells)

    -- the first sector of a copy
    pub store_begins : (n : ℕ) → n < copies_in (sheets_seen ghosts.seen store.base.sheets) → (header : List ℕ) → (BeginsWith header (copy_at (store_copies ghosts.seen store) n) → run_contents (copy_at (store_copies ghosts.seen store) n) 0 ≡ header)
        × (run_contents (copy_at (store_copies ghosts.seen store) n) 0 ≡ header → BeginsWith header (copy_at (store_copies ghosts.seen store) n))
    store_begins n lt header =
        let some = some_size store.base.shape.regions store.base.shape.map_bytes store.base.shape.map_sized in
        of_copies (λ copy pieces. (BeginsWith header pieces → run_contents pieces 0 ≡ header) × (run_contents pieces 0 ≡ header → BeginsWith header pieces)) n lt
        (λ copy slots laid holed.
        let l = laid.long in
        let long = filled_size (store.base.shape.map_bytes / 512) copy (grid_seen ghosts.seen store.pages.items) 0 slots in
        let here = copy_holds (store.base.shape.map_bytes / 512) copy _ (grid_seen ghosts.seen store.pages.items) slots laid holed (all_single store.pages.items) 0 (omega (arith, some)) in
        first header (cell_piece copy None) _ (omega (arith, l, long, some)) here)
      where
        first : (header : List ℕ) (none : Seen) (ps : List Seen) → 0 < length ps → run_contents ps 0 ≡ told_or (item_at none ps 0).told 0 → (BeginsWith header ps → run_contents ps 0 ≡ header) × (run_contents ps 0 ≡ header → BeginsWith header ps)
        first header none [] some here = absurd (omega (arith, some))
        first header none (p ∷ ps) some here = (λ h. here ∙ h, λ h. sym here ∙ h)

    -- a copy has a sector
    pub store_some : (n : ℕ) → n < copies_in (sheets_seen ghosts.seen store.base.sheets) → 0 < length (copy_at (store_copies ghosts.seen store) n)
    store_some n lt =
        let some = some_size store.base.shape.regions store.base.shape.map_bytes store.base.shape.map_sized in
        of_copies (λ copy pieces. 0 < length pieces) n lt
        (λ copy slots laid holed. let l = laid.long in let long = filled_size (store.base.shape.map_bytes / 512) copy (grid_seen ghosts.seen store.pages.items) 0 slots in omega (arith, l, long, some))

    pub store_count : length (store_copies ghosts.seen store) ≡ copies_in (sheets_seen ghosts.seen store.base.sheets)
    store_count = by _ _ (sheets_seen ghosts.seen store.base.sheets).second
      where
        by : (x : List Seen) (f : List (Option Seen) → List Seen) (s : Option (List (Option Seen))) → length (copies_list x (option_map f s)) ≡ (if is_some s then 2 else 1)
        by x f None = refl
        by x f (Some y) = refl

pub tells_begin : (ps : List Seen) → RunTells ps → 0 < length ps → head_tells ps ≡ true
tells_begin [] tells some = absurd (omega (arith, some))
tells_begin (p ∷ ps) tells some = by p.told tells.0
  where
    by : (t : Option Contents) → Tells t → is_some t ≡ true
    by None h = absurd h
    by (Some c) h = refl
