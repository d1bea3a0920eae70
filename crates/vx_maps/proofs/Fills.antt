-- Pages are made one by one, or taken apart.
use Rattle.std.proofs.Common.{◌≡◌, inl, inr, ℕ, zero, suc, ◌+◌, ◌-◌, ◌/◌, ◌%◌, ◌<◌, Bool, true, false, refl, sym, ◌∙◌, ap, subst, arith, List, [], ◌∷◌, ◌++◌, length, Option, Some, None}
use Rattle.std.specs.Prelude.{is_some, not, nat_le, ◌&&◌, if◌then◌else◌}
use Rattle.std.specs.Option.{option_map}
use Rattle.std.proofs.lemmas.Bool.{cases_order}
use Rattle.std.proofs.lemmas.List.{length-append}
use Rattle.vx_piece.specs.Seen.{Seen}
use Rattle.vx_marks.specs.Log.{LogSeen}
use Rattle.vx_mapfmt.specs.Sizes.{page_count}
use Rattle.vx_pages.specs.Items.{item_at}
use Rattle.vx_pages.specs.Sector.{SectorSeen}
use Rattle.vx_pages.specs.Page.{page_log}
use Rattle.vx_maps.specs.Store.{AreLogsOf, AreOnCopies, ArePages, page_at}
use Rattle.vx_pages.specs.Page.{AreAll, ArePaired}
use Rattle.vx_maps.specs.Slots.{slot_at, cell_at, row_at, grid_at, place_of, cell_piece, part_at, filled, SheetsSeen, HasCut, HasCuts, HasCutSecond, IsHoled, IsHoledSecond, AreHoled, Whole, Wholes, whole_of, wholes_of, IsWholeOn, AreWhole, HoldsSingle, HasPieces, HasPiecesOn, HasPiecesSecond, HasHoles, HasHolesOn, HasHolesSecond}
use Rattle.vx_maps.proofs.PlaceLaws.{place_in, grid_behind, grid_is}

-- ---- all pieces

pub filled_at : (size copy : ℕ) (pages : List (List SectorSeen)) (k : ℕ) (xs : List (Option Seen)) (i : ℕ) → i < length xs → item_at (cell_piece copy None) (filled size copy pages k xs) i ≡ part_at copy (slot_at xs i) (grid_at size pages (k + i))
filled_at size copy pages k [] i lt = absurd (omega (arith, lt))
filled_at size copy pages k (x ∷ xs) zero lt = let e : k ≡ k + 0 = omega arith in ap (λ (n : ℕ). part_at copy x (grid_at size pages n)) e
filled_at size copy pages k (x ∷ xs) (suc i) lt = let e : k + 1 + i ≡ k + suc i = omega arith in filled_at size copy pages (k + 1) xs i (omega (arith, lt)) ∙ ap (λ (n : ℕ). part_at copy (slot_at xs i) (grid_at size pages n)) e

pub filled_size : (size copy : ℕ) (pages : List (List SectorSeen)) (k : ℕ) (xs : List (Option Seen)) → length (filled size copy pages k xs) ≡ length xs
filled_size size copy pages k [] = refl
filled_size size copy pages k (x ∷ xs) = ap (λ (n : ℕ). suc n) (filled_size size copy pages (k + 1) xs)

pub grid_none : (size k : ℕ) → grid_at size [] k ≡ None
grid_none size k = by (nat_le 3 (k / size) && nat_le 1 (k % size))
  where
    by : (b : Bool) → (if b then cell_at (row_at [] (k % size - 1)) (k / size - 3) else None) ≡ None
    by true = refl
    by false = refl

holed_whole : (size copy : ℕ) (pages : List (List SectorSeen)) (slots : List (Option Seen)) → IsHoled size pages slots → HasCut size copy pages (whole_of size copy pages slots) slots
holed_whole size copy pages slots h = record { holed = h; pieces = refl; faults = λ device. refl }

holed_second : (size : ℕ) (pages : List (List SectorSeen)) (second : Option (List (Option Seen))) → IsHoledSecond size pages second → HasCutSecond size pages (option_map (whole_of size 1 pages) second) second
holed_second size pages None h = tt
holed_second size pages (Some slots) h = holed_whole size 1 pages slots h

pub cuts_of : (size : ℕ) (pages : List (List SectorSeen)) (sheets : SheetsSeen) → AreHoled size pages sheets → HasCuts size pages (wholes_of size pages sheets) sheets
cuts_of size pages sheets h = record { first = holed_whole size 0 pages sheets.first h.first; second = holed_second size pages sheets.second h.second }

second_holed : (size : ℕ) (pages : List (List SectorSeen)) (whole : Option Whole) (second : Option (List (Option Seen))) → HasCutSecond size pages whole second → IsHoledSecond size pages second
second_holed size pages None None h = tt
second_holed size pages None (Some x) h = absurd h
second_holed size pages (Some w) None h = absurd h
second_holed size pages (Some w) (Some x) h = h.holed

pub holed_of : (size : ℕ) (pages : List (List SectorSeen)) (wholes : Wholes) (sheets : SheetsSeen) → HasCuts size pages wholes sheets → AreHoled size pages sheets
holed_of size pages wholes sheets h = record { first = h.first.holed; second = second_holed size pages wholes.second sheets.second h.second }

whole_holed : (size : ℕ) (slots : List (Option Seen)) → IsWholeOn size slots → IsHoled size [] slots
whole_holed size slots h = record { long = h.long; holes = λ k lt. h.some k lt ∙ sym (ap (λ (x : Option SectorSeen). not (is_some x)) (grid_none size k)) }

pub all_holed : (size : ℕ) (sheets : SheetsSeen) → AreWhole size sheets → AreHoled size [] sheets
all_holed size sheets h = record { first = whole_holed size sheets.first h.first; second = by sheets.second h.second }
  where
    by : (second : Option (List (Option Seen))) → ((slots : List (Option Seen)) → second ≡ Some slots → IsWholeOn size slots) → IsHoledSecond size [] second
    by None f = tt
    by (Some slots) f = whole_holed size slots (f slots refl)

-- ---- the pieces of the next page are in their places

there_single : (copy : ℕ) (x y : Option Seen) → is_some x ≡ true → is_some y ≡ true → part_at copy x None ≡ part_at copy y None → ((p : Seen) → y ≡ Some p → p.sectors ≡ 1) → HoldsSingle x
there_single copy None y there has same single = cc
there_single copy (Some p) None there has same single = cc
there_single copy (Some p) (Some q) there has same single = ap (λ (s : Seen). s.sectors) same ∙ single q refl

pieces_ready : (size copy page : ℕ) (pages : List (List SectorSeen)) (start now : List (Option Seen)) → IsWholeOn size start → HasCut size copy pages (whole_of size copy [] start) now → length pages ≡ page → 1 + page < size → HasPiecesOn size page 0 now
pieces_ready size copy page pages start now whole cut long fits m le lt =
    let l = cut.holed.long in
    let inside = place_in size m page lt fits in
    let same : length now ≡ length start = sym (filled_size size copy pages 0 now) ∙ ap (λ (xs : List Seen). length xs) cut.pieces ∙ filled_size size copy [] 0 start in
    let now_in : place_of size m page < length now = omega (arith, l, inside) in
    let start_in : place_of size m page < length start = omega (arith, same, now_in) in
    let none : grid_at size pages (place_of size m page) ≡ None = grid_behind size pages m page (omega (arith, long)) fits in
    let e : 0 + place_of size m page ≡ place_of size m page = omega arith in
    let there : is_some (slot_at now (place_of size m page)) ≡ true = cut.holed.holes (place_of size m page) now_in ∙ ap (λ (x : Option SectorSeen). not (is_some x)) none in
    let a = filled_at size copy pages 0 now (place_of size m page) now_in in
    let b = filled_at size copy [] 0 start (place_of size m page) start_in in
    let at_now : part_at copy (slot_at now (place_of size m page)) (grid_at size pages (0 + place_of size m page)) ≡ part_at copy (slot_at now (place_of size m page)) None =
    ap (λ (n : ℕ). part_at copy (slot_at now (place_of size m page)) (grid_at size pages n)) e ∙ ap (part_at copy (slot_at now (place_of size m page))) none in
    let at_start : part_at copy (slot_at start (place_of size m page)) (grid_at size [] (0 + place_of size m page)) ≡ part_at copy (slot_at start (place_of size m page)) None = ap (part_at copy (slot_at start (place_of size m page))) (grid_none size (0 + place_of size m page)) in (
      now_in,
      there_single copy (slot_at now (place_of size m page)) (slot_at start (place_of size m page)) there (whole.some (place_of size m page) start_in)
          (sym at_now ∙ sym a ∙ ap (λ (xs : List Seen). item_at (cell_piece copy None) xs (place_of size m page)) cut.pieces ∙ b ∙ at_start) (λ p is. whole.single (place_of size m page) p inside is),
    )

second_ready : (size page : ℕ) (pages : List (List SectorSeen)) (start now : Option (List (Option Seen))) → ((slots : List (Option Seen)) → start ≡ Some slots → IsWholeOn size slots) →
    HasCutSecond size pages (option_map (whole_of size 1 []) start) now → length pages ≡ page → 1 + page < size → HasPiecesSecond size page 0 now
second_ready size page pages None None whole cut long fits = tt
second_ready size page pages None (Some y) whole cut long fits = absurd cut
second_ready size page pages (Some x) None whole cut long fits = absurd cut
second_ready size page pages (Some x) (Some y) whole cut long fits = pieces_ready size 1 page pages x y (whole x refl) cut long fits

pub ready : (size page : ℕ) (pages : List (List SectorSeen)) (start now : SheetsSeen) → AreWhole size start → HasCuts size pages (wholes_of size [] start) now → length pages ≡ page → 1 + page < size → HasPieces size page 0 now
ready size page pages start now whole cut long fits =
    record { first = pieces_ready size 0 page pages start.first now.first whole.first cut.first long fits; second = second_ready size page pages start.second now.second whole.second cut.second long fits }

-- ---- the places of the last page are holes

cell_there : (xs : List SectorSeen) (m : ℕ) → m < length xs → is_some (cell_at xs m) ≡ true
cell_there [] m lt = absurd (omega (arith, lt))
cell_there (x ∷ xs) zero lt = refl
cell_there (x ∷ xs) (suc m) lt = cell_there xs m (omega (arith, lt))

pub no_piece : (x : Option Seen) → is_some x ≡ false → x ≡ None
no_piece None h = refl
no_piece (Some p) h = cc

holes_ready : (size page : ℕ) (pages : List (List SectorSeen)) (now : List (Option Seen)) → IsHoled size pages now → length (row_at pages page) ≡ 32 → 1 + page < size → HasHolesOn size page 32 now
holes_ready size page pages now holed rows fits m lt =
    let l = holed.long in
    let inside = place_in size m page lt fits in
    let now_in : place_of size m page < length now = omega (arith, l, inside) in (
      now_in,
      no_piece _
          (holed.holes (place_of size m page) now_in
          ∙ ap (λ (b : Bool). not b) (ap (λ (x : Option SectorSeen). is_some x) (grid_is size pages m page fits) ∙ cell_there (row_at pages page) m (omega (arith, rows, lt)))),
    )

second_holes : (size page : ℕ) (pages : List (List SectorSeen)) (now : Option (List (Option Seen))) → IsHoledSecond size pages now → length (row_at pages page) ≡ 32 → 1 + page < size → HasHolesSecond size page 32 now
second_holes size page pages None holed rows fits = tt
second_holes size page pages (Some x) holed rows fits = holes_ready size page pages x holed rows fits

pub holes_there : (size page : ℕ) (pages : List (List SectorSeen)) (now : SheetsSeen) → AreHoled size pages now → length (row_at pages page) ≡ 32 → 1 + page < size → HasHoles size page 32 now
holes_there size page pages now holed rows fits = record { first = holes_ready size page pages now.first holed.first rows fits; second = second_holes size page pages now.second holed.second rows fits }

-- ---- logs

pub row_push : (grid : List (List SectorSeen)) (row : List SectorSeen) → row_at (grid ++ row ∷ []) (length grid) ≡ row
row_push [] row = refl
row_push (x ∷ grid) row = row_push grid row

pub row_front : (grid : List (List SectorSeen)) (row : List SectorSeen) (i : ℕ) → i < length grid → row_at (grid ++ row ∷ []) i ≡ row_at grid i
row_front [] row i lt = absurd (omega (arith, lt))
row_front (x ∷ grid) row zero lt = refl
row_front (x ∷ grid) row (suc i) lt = row_front grid row i (omega (arith, lt))

log_push : (logs : List LogSeen) (log : LogSeen) → page_at (logs ++ log ∷ []) (length logs) ≡ log
log_push [] log = refl
log_push (x ∷ logs) log = log_push logs log

log_front : (logs : List LogSeen) (log : LogSeen) (i : ℕ) → i < length logs → page_at (logs ++ log ∷ []) i ≡ page_at logs i
log_front [] log i lt = absurd (omega (arith, lt))
log_front (x ∷ logs) log zero lt = refl
log_front (x ∷ logs) log (suc i) lt = log_front logs log i (omega (arith, lt))

each_row : (fact : ℕ → List SectorSeen → Type 0) (grid : List (List SectorSeen)) (row : List SectorSeen) → ((i : ℕ) → i < length grid → fact i (row_at grid i)) → fact (length grid) row → (i : ℕ) → i < length (grid ++ row ∷ []) → fact i (row_at (grid ++ row ∷ []) i)
each_row fact grid row each is i lt =
    let size = length-append grid (row ∷ []) in
    elim (cases_order i (length grid)) [
      | inl same ↦ subst (λ (n : ℕ). fact n (row_at (grid ++ row ∷ []) n)) (sym same) (subst (fact (length grid)) (sym (row_push grid row)) is)
      | inr (inl low) ↦ subst (fact i) (sym (row_front grid row i low)) (each i low)
      | inr (inr high) ↦ absurd (omega (arith, size, lt, high))
    ]

pub logs_none : (regions : ℕ) (pair : Bool) (fact : SectorSeen → Type 0) → AreLogsOf regions pair fact [] []
logs_none regions pair fact = record { count = refl; each = λ i lt. absurd (omega (arith, lt)); rows = λ i lt. absurd (omega (arith, lt)); pairs = λ i lt. absurd (omega (arith, lt)); facts = λ i lt. absurd (omega (arith, lt)) }

pub logs_push : (regions page : ℕ) (pair : Bool) (fact : SectorSeen → Type 0) (grid : List (List SectorSeen)) (logs : List LogSeen) (row : List SectorSeen) (log : LogSeen) → AreLogsOf regions pair fact grid logs →
    page ≡ length grid → log ≡ page_log page regions row → length row ≡ 32 → ArePaired pair row → AreAll fact row → AreLogsOf regions pair fact (grid ++ row ∷ []) (logs ++ log ∷ [])
logs_push regions page pair fact grid logs row log h at is rows pairs facts =
    let count = h.count in
    let size = length-append grid (row ∷ []) in
    record {
      count = length-append logs (log ∷ []) ∙ ap (λ (n : ℕ). n + 1) count ∙ sym size;
      each = λ i lt.
          elim (cases_order i (length grid)) [
            | inl same ↦
                ap (page_at (logs ++ log ∷ [])) (same ∙ sym count) ∙ log_push logs log ∙ is ∙ ap (λ (n : ℕ). page_log n regions row) (at ∙ sym same)
                ∙ ap (page_log i regions) (sym (ap (row_at (grid ++ row ∷ [])) same ∙ row_push grid row))
            | inr (inl low) ↦ log_front logs log i (omega (arith, count, low)) ∙ h.each i low ∙ ap (page_log i regions) (sym (row_front grid row i low))
            | inr (inr high) ↦ absurd (omega (arith, size, lt, high))
          ];
      rows = each_row (λ i xs. length xs ≡ 32) grid row h.rows rows;
      pairs = each_row (λ i xs. ArePaired pair xs) grid row h.pairs pairs;
      facts = each_row (λ i xs. AreAll fact xs) grid row h.facts facts;
    }

pub logs_paged : (regions : ℕ) (pair : Bool) (fact : SectorSeen → Type 0) (grid : List (List SectorSeen)) (logs : List LogSeen) → AreLogsOf regions pair fact grid logs → length grid ≡ page_count regions → ArePages regions logs
logs_paged regions pair fact grid logs h e =
    let count = h.count in
    record {
      count = count ∙ e;
      place = λ i region lt. ap (λ (log : LogSeen). log.has_region region) (h.each i (omega (arith, count, lt)));
      maps = λ i lt. ap (λ (log : LogSeen). log.maps) (h.each i (omega (arith, count, lt)));
      there = λ i lt. ap (λ (log : LogSeen). log.there) (h.each i (omega (arith, count, lt)));
      lent = λ i lt. ap (λ (log : LogSeen). log.lent) (h.each i (omega (arith, count, lt)));
    }

pub logs_copies : (regions : ℕ) (pair : Bool) (fact : SectorSeen → Type 0) (grid : List (List SectorSeen)) (logs : List LogSeen) → AreLogsOf regions pair fact grid logs → AreOnCopies (if pair then 2 else 1) logs
logs_copies regions pair fact grid logs h i lt =
    let count = h.count in
    let inside : i < length grid = omega (arith, count, lt) in
    let rows = h.rows i inside in
    ap (λ (log : LogSeen). log.copies) (h.each i inside) ∙ ap (λ (b : Bool). if b then 2 else 1) (h.pairs i inside 0 (omega (arith, rows)))
