-- What the sectors of pages are in the whole copies.
use Rattle.std.proofs.Common.{◌≡◌, ℕ, zero, suc, ◌+◌, ◌<◌, Bool, true, false, refl, sym, ◌∙◌, ap, arith, List, [], ◌∷◌, length, Option, Some, None}
use Rattle.std.specs.Prelude.{is_some, not, ◌&&◌, ◌||◌}
use Rattle.std.specs.Option.{option_map}
use Rattle.vx_piece.specs.Seen.{Seen}
use Rattle.vx_runs.specs.Part.{Tells}
use Rattle.vx_runs.specs.Run.{RunTells}
use Rattle.vx_pages.specs.declared.local_piece.LocalPiece.{Ghosts}
use Rattle.vx_pages.specs.declared.page.Page.{Page}
use Rattle.vx_pages.specs.Items.{item_at}
use Rattle.vx_pages.specs.Sector.{Copies, SectorSeen, copy_of, is_cut, second_cut, tells}
use Rattle.vx_pages.specs.Page.{all_tell, cut_in, sector_at}
use Rattle.vx_pages.specs.Pages.{grid_seen, page_seen}
use Rattle.vx_maps.specs.Store.{pages_cut, pages_seen}
use Rattle.vx_maps.specs.Slots.{AreHoled, ArePairedRows, IsHoled, IsHoledSecond, SheetsSeen, cell_at, cell_piece, filled, grid_at, part_at, place_of, row_at, slot_at}
use Rattle.vx_maps.specs.Copies.{copies_list}
use Rattle.vx_maps.specs.Wholes.{whole_copies}
use Rattle.vx_maps.specs.Creating.{AllTell, copies_cut, run_cut}
use Rattle.vx_maps.specs.Cutness.{slots_cut, sheets_cut}
use Rattle.vx_maps.specs.Cutness.{second_cut as slots_second_cut}
use Rattle.vx_maps.proofs.PlaceLaws.{place_in, grid_is}
use Rattle.vx_maps.proofs.Fills.{filled_at, filled_size, no_piece}
use Rattle.vx_maps.proofs.Beginnings.{or_left, or_right, or_either}

cell_some : (xs : List SectorSeen) (m : ℕ) → m < length xs → cell_at xs m ≡ Some (sector_at xs m)
cell_some [] m lt = absurd (omega (arith, lt))
cell_some (x ∷ xs) zero lt = refl
cell_some (x ∷ xs) (suc m) lt = cell_some xs m (omega (arith, lt))

module _ (size copy : ℕ) (grid : List (List SectorSeen)) (slots : List (Option Seen)) (holed : IsHoled size grid slots) (i m : ℕ) (low : m < 32) (rows : length (row_at grid i) ≡ 32) (fits : 1 + i < size) where
  at_cell : grid_at size grid (place_of size m i) ≡ Some (sector_at (row_at grid i) m)
  at_cell = grid_is size grid m i fits ∙ cell_some (row_at grid i) m (omega (arith, rows, low))

  inside : place_of size m i < length slots
  inside = let l = holed.long in let p = place_in size m i low fits in omega (arith, l, p)

  hole : slot_at slots (place_of size m i) ≡ None
  hole = no_piece _ (holed.holes (place_of size m i) inside ∙ ap (λ (x : Option SectorSeen). not (is_some x)) at_cell)

  pub piece_there : item_at (cell_piece copy None) (filled size copy grid 0 slots) (place_of size m i) ≡ copy_of (sector_at (row_at grid i) m).copies copy
  piece_there =
      let e : 0 + place_of size m i ≡ place_of size m i = omega arith in
      filled_at size copy grid 0 slots (place_of size m i) inside ∙ ap (λ (x : Option Seen). part_at copy x (grid_at size grid (0 + place_of size m i))) hole
      ∙ ap (cell_piece copy) (ap (grid_at size grid) e ∙ at_cell)

  pub there_inside : place_of size m i < length (filled size copy grid 0 slots)
  there_inside = let e = filled_size size copy grid 0 slots in let f = inside in omega (arith, e, f)

some_told : (none : Seen) (ps : List Seen) (i : ℕ) → i < length ps → RunTells ps → is_some (item_at none ps i).told ≡ true
some_told none [] i lt h = absurd (omega (arith, lt))
some_told none (p ∷ ps) zero lt h = by p h.0
  where
    by : (p : Seen) → Tells p.told → is_some p.told ≡ true
    by p h = one p.told h
      where
        one : (t : Option (ℕ → List ℕ)) → Tells t → is_some t ≡ true
        one None h = absurd h
        one (Some c) h = refl
some_told none (p ∷ ps) (suc i) lt h = some_told none ps i (omega (arith, lt)) h.1

item_cut : (none : Seen) (ps : List Seen) (i : ℕ) → i < length ps → (item_at none ps i).cut ≡ true → run_cut ps ≡ true
item_cut none [] i lt h = absurd (omega (arith, lt))
item_cut none (p ∷ ps) zero lt h = or_left p.cut (run_cut ps) h
item_cut none (p ∷ ps) (suc i) lt h = or_right p.cut (run_cut ps) (item_cut none ps i (omega (arith, lt)) h)

-- ---- a sector tells where the copies do

tells_by : (size : ℕ) (grid : List (List SectorSeen)) (first : List (Option Seen)) (second : Option (List (Option Seen))) (i m : ℕ) → AreHoled size grid (record { first = first; second = second }) → m < 32 → length (row_at grid i) ≡ 32 → 1 + i < size →
    (one : Seen) (other : Option Seen) → (sector_at (row_at grid i) m).copies ≡ record { first = one; second = other } → is_some other ≡ is_some second → AllTell (copies_list (filled size 0 grid 0 first) (option_map (filled size 1 grid 0) second)) →
    tells (record { first = one; second = other }) ≡ true
tells_by size grid first None i m holed low rows fits one None is pair told = and_true _ (sym (ap (λ (c : Copies). is_some c.first.told) is) ∙ first_told)
  where
    and_true : (a : Bool) → a ≡ true → (a && true) ≡ true
    and_true a e = rw e refl

    first_told : is_some (sector_at (row_at grid i) m).copies.first.told ≡ true
    first_told = sym (ap (λ (p : Seen). is_some p.told) (piece_there size 0 grid first holed.first i m low rows fits)) ∙ some_told (cell_piece 0 None) (filled size 0 grid 0 first) (place_of size m i) (there_inside size 0 grid first holed.first i m low rows fits) told.0
tells_by size grid first None i m holed low rows fits one (Some q) is pair told = cc
tells_by size grid first (Some slots) i m holed low rows fits one None is pair told = cc
tells_by size grid first (Some slots) i m holed low rows fits one (Some q) is pair told =
    both _ _ (sym (ap (λ (c : Copies). is_some c.first.told) is) ∙ first_told) (sym (ap (λ (c : Copies). is_some (copy_of c 1).told) is) ∙ other_told)
  where
    both : (a b : Bool) → a ≡ true → b ≡ true → (a && b) ≡ true
    both a b e f = rw (e, f) refl

    first_told : is_some (sector_at (row_at grid i) m).copies.first.told ≡ true
    first_told = sym (ap (λ (p : Seen). is_some p.told) (piece_there size 0 grid first holed.first i m low rows fits)) ∙ some_told (cell_piece 0 None) (filled size 0 grid 0 first) (place_of size m i) (there_inside size 0 grid first holed.first i m low rows fits) told.0

    other_told : is_some (copy_of (sector_at (row_at grid i) m).copies 1).told ≡ true
    other_told = sym (ap (λ (p : Seen). is_some p.told) (piece_there size 1 grid slots holed.second i m low rows fits)) ∙ some_told (cell_piece 1 None) (filled size 1 grid 0 slots) (place_of size m i) (there_inside size 1 grid slots holed.second i m low rows fits) told.1.0

pub sector_tells : (size : ℕ) (grid : List (List SectorSeen)) (sheets : SheetsSeen) (i m : ℕ) → AreHoled size grid sheets → m < 32 → length (row_at grid i) ≡ 32 → 1 + i < size → is_some (sector_at (row_at grid i) m).copies.second ≡ is_some sheets.second →
    AllTell (whole_copies size grid sheets) → tells (sector_at (row_at grid i) m).copies ≡ true
sector_tells size grid sheets i m holed low rows fits pair told =
    tells_by size grid sheets.first sheets.second i m holed low rows fits (sector_at (row_at grid i) m).copies.first (sector_at (row_at grid i) m).copies.second refl pair told

pub row_tells : (xs : List SectorSeen) → ((m : ℕ) → m < length xs → tells (sector_at xs m).copies ≡ true) → all_tell xs ≡ true
row_tells [] each = refl
row_tells (x ∷ xs) each = both _ _ (each 0 (omega arith)) (row_tells xs (λ m lt. each (suc m) (omega (arith, lt))))
  where
    both : (a b : Bool) → a ≡ true → b ≡ true → (a && b) ≡ true
    both a b e f = rw (e, f) refl

-- ---- a cut piece

cut_filled : (size copy : ℕ) (grid : List (List SectorSeen)) (k : ℕ) (slots : List (Option Seen)) → slots_cut slots ≡ true → run_cut (filled size copy grid k slots) ≡ true
cut_filled size copy grid k [] h = h
cut_filled size copy grid k (None ∷ xs) h = or_right (part_at copy None (grid_at size grid k)).cut _ (cut_filled size copy grid (k + 1) xs h)
cut_filled size copy grid k (Some p ∷ xs) h = or_either p.cut (slots_cut xs) _ (λ e. or_left p.cut _ e) (λ e. or_right p.cut _ (cut_filled size copy grid (k + 1) xs e)) h

first_cut : (x : List Seen) (second : Option (List Seen)) → run_cut x ≡ true → copies_cut (copies_list x second) ≡ true
first_cut x None h = or_left (run_cut x) _ h
first_cut x (Some y) h = or_left (run_cut x) _ h

other_cut : (x y : List Seen) → run_cut y ≡ true → copies_cut (copies_list x (Some y)) ≡ true
other_cut x y h = or_right (run_cut x) _ (or_left (run_cut y) false h)

second_slots : (size : ℕ) (grid : List (List SectorSeen)) (x : List Seen) (second : Option (List (Option Seen))) → slots_second_cut second ≡ true → copies_cut (copies_list x (option_map (filled size 1 grid 0) second)) ≡ true
second_slots size grid x None h = cc
second_slots size grid x (Some slots) h = other_cut x (filled size 1 grid 0 slots) (cut_filled size 1 grid 0 slots h)

pub sheets_shown : (size : ℕ) (grid : List (List SectorSeen)) (sheets : SheetsSeen) → sheets_cut sheets ≡ true → copies_cut (whole_copies size grid sheets) ≡ true
sheets_shown size grid sheets h =
    or_either (slots_cut sheets.first) (slots_second_cut sheets.second) _ (λ e. first_cut (filled size 0 grid 0 sheets.first) (option_map (filled size 1 grid 0) sheets.second) (cut_filled size 0 grid 0 sheets.first e)) (λ e. second_slots size grid (filled size 0 grid 0 sheets.first) sheets.second e) h

-- a cut sector of a row
pub record CutIn (xs : List SectorSeen) : Type 0 where
  pub map : ℕ
  pub inside : map < length xs
  pub is : is_cut (sector_at xs map).copies ≡ true

find_row : (xs : List SectorSeen) → cut_in xs ≡ true → CutIn xs
find_row [] h = cc
find_row (x ∷ xs) h = by (λ e. find_row xs (sym (ap (λ (b : Bool). b || cut_in xs) e) ∙ h)) (is_cut x.copies) refl
  where
    by : (is_cut x.copies ≡ false → CutIn xs) → (b : Bool) → is_cut x.copies ≡ b → CutIn (x ∷ xs)
    by more true e = record { map = 0; inside = omega arith; is = e }
    by more false e =
        let rest = more e in
        let l = rest.inside in record { map = suc rest.map; inside = omega (arith, l); is = rest.is }

pub record CutAt (grid : List (List SectorSeen)) : Type 0 where
  pub page : ℕ
  pub within : page < length grid
  pub cell : CutIn (row_at grid page)

pub find_page : {P : Type 0} {ghosts : Ghosts P} (pages : List (Page P ghosts)) → pages_cut (pages_seen ghosts.seen pages) ≡ true → CutAt (grid_seen ghosts.seen pages)
find_page [] h = cc
find_page {P} {ghosts} (p ∷ pages) h = by (λ e. find_page pages (sym (ap (λ (b : Bool). b || pages_cut (pages_seen ghosts.seen pages)) e) ∙ h)) (page_seen ghosts.seen p).cut refl
  where
    by : ((page_seen ghosts.seen p).cut ≡ false → CutAt (grid_seen ghosts.seen pages)) → (b : Bool) → (page_seen ghosts.seen p).cut ≡ b → CutAt (grid_seen ghosts.seen (p ∷ pages))
    by more true e = record { page = 0; within = omega arith; cell = find_row (row_at (grid_seen ghosts.seen (p ∷ pages)) 0) e }
    by more false e =
        let rest = more e in
        let l = rest.within in record { page = suc rest.page; within = omega (arith, l); cell = rest.cell }

cell_shown : (size : ℕ) (grid : List (List SectorSeen)) (first : List (Option Seen)) (second : Option (List (Option Seen))) (i m : ℕ) → AreHoled size grid (record { first = first; second = second }) → m < 32 → length (row_at grid i) ≡ 32 → 1 + i < size →
    (one : Seen) (other : Option Seen) → (sector_at (row_at grid i) m).copies ≡ record { first = one; second = other } → is_some other ≡ is_some second → is_cut (record { first = one; second = other }) ≡ true →
    copies_cut (copies_list (filled size 0 grid 0 first) (option_map (filled size 1 grid 0) second)) ≡ true
cell_shown size grid first second i m holed low rows fits one other is pair cut =
    or_either one.cut (second_cut other) _
    (λ e. first_cut (filled size 0 grid 0 first) (option_map (filled size 1 grid 0) second) (item_cut (cell_piece 0 None) (filled size 0 grid 0 first) (place_of size m i) (there_inside size 0 grid first holed.first i m low rows fits)
    (ap (λ (p : Seen). p.cut) (piece_there size 0 grid first holed.first i m low rows fits) ∙ ap (λ (c : Copies). c.first.cut) is ∙ e)))
    (λ e. by second other holed.second is pair e) cut
  where
    by : (second : Option (List (Option Seen))) (other : Option Seen) → IsHoledSecond size grid second → (sector_at (row_at grid i) m).copies ≡ record { first = one; second = other } → is_some other ≡ is_some second → second_cut other ≡ true →
        copies_cut (copies_list (filled size 0 grid 0 first) (option_map (filled size 1 grid 0) second)) ≡ true
    by second None holed is pair e = cc
    by None (Some q) holed is pair e = cc
    by (Some slots) (Some q) holed is pair e =
        other_cut (filled size 0 grid 0 first) (filled size 1 grid 0 slots) (item_cut (cell_piece 1 None) (filled size 1 grid 0 slots) (place_of size m i) (there_inside size 1 grid slots holed i m low rows fits)
        (ap (λ (p : Seen). p.cut) (piece_there size 1 grid slots holed i m low rows fits) ∙ ap (λ (c : Copies). (copy_of c 1).cut) is ∙ e))

pub grid_shown : (size : ℕ) (grid : List (List SectorSeen)) (sheets : SheetsSeen) → AreHoled size grid sheets → ((i : ℕ) → i < length grid → length (row_at grid i) ≡ 32) → ((i : ℕ) → i < length grid → 1 + i < size) → ArePairedRows (is_some sheets.second) grid → CutAt grid →
    copies_cut (whole_copies size grid sheets) ≡ true
grid_shown size grid sheets holed rows fits pairs cut =
    let inside = cut.cell.inside in
    let long = rows cut.page cut.within in
    cell_shown size grid sheets.first sheets.second cut.page cut.cell.map holed (omega (arith, inside, long)) long (fits cut.page cut.within) (sector_at (row_at grid cut.page) cut.cell.map).copies.first (sector_at (row_at grid cut.page) cut.cell.map).copies.second
    refl (pairs cut.page cut.within cut.cell.map inside) cut.cell.is
