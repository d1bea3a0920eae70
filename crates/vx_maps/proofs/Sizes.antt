-- A store is made of the slots of copies.
use Rattle.std.proofs.Common.{◌≡◌, ℕ, zero, suc, ◌+◌, ◌-◌, ◌/◌, ◌%◌, ◌<◌, ◌≤◌, Bool, true, false, refl, sym, ◌∙◌, ap, subst, arith, List, [], ◌∷◌, length, Option, Some, None}
use Rattle.std.specs.Prelude.{is_some, not, nat_le, nat_lt, ◌&&◌, if◌then◌else◌}
use Rattle.std.specs.Option.{option_map}
use Rattle.vx_piece.specs.Seen.{Seen}
use Rattle.vx_pages.specs.Items.{item_at}
use Rattle.vx_pages.specs.Sector.{SectorSeen}
use Rattle.vx_maps.specs.Slots.{AreAllFull, AreFull, ArePairedRows, AreWhole, HasCut, HasCuts, HasCutSecond, IsLaid, IsLaidOn, IsWholeOn, SheetsSeen, cell_at, cell_piece, filled, grid_at, grid_faults, is_paged, part_at, pieces_in, row_at, slot_at, slots_faults, whole_of, wholes_of}
use Rattle.vx_maps.specs.Copies.{SameRuns, copies_list}
use Rattle.vx_maps.specs.Wholes.{copy_faults, second_faults, whole_copies, whole_faults}
use Rattle.vx_maps.proofs.Fills.{filled_at, filled_size, grid_none}
use Rattle.vx_maps.proofs.SlotRuns.{filled_in}
use Rattle.vx_maps.proofs.Together.{counted_in, none_more}
use Rattle.vx_maps.proofs.Quiet.{grid_quiet, grid_more}

second_same : (size : ℕ) (pages grid : List (List SectorSeen)) (old now : Option (List (Option Seen))) → HasCutSecond size pages (option_map (whole_of size 1 grid) old) now → option_map (filled size 1 pages 0) now ≡ option_map (filled size 1 grid 0) old
second_same size pages grid None None cut = refl
second_same size pages grid None (Some y) cut = absurd cut
second_same size pages grid (Some x) None cut = absurd cut
second_same size pages grid (Some x) (Some y) cut = ap (λ (ps : List Seen). Some ps) cut.pieces

pub whole_same : (size : ℕ) (pages grid : List (List SectorSeen)) (old now : SheetsSeen) → HasCuts size pages (wholes_of size grid old) now → whole_copies size pages now ≡ whole_copies size grid old
whole_same size pages grid old now cuts =
    ap (λ (ps : List Seen). copies_list ps (option_map (filled size 1 pages 0) now.second)) cuts.first.pieces ∙ ap (copies_list (filled size 0 grid 0 old.first)) (second_same size pages grid old.second now.second cuts.second)

total_second : (size : ℕ) (pages : List (List SectorSeen)) (old now : Option (List (Option Seen))) (device : ℕ) → HasCutSecond size pages (option_map (whole_of size 1 []) old) now → (old ≡ None → grid_faults 1 device pages ≡ 0) →
    second_faults device now + grid_faults 1 device pages ≡ second_faults device old + 0
total_second size pages None None device cut none = let e = none refl in omega (arith, e)
total_second size pages None (Some y) device cut none = absurd cut
total_second size pages (Some x) None device cut none = absurd cut
total_second size pages (Some x) (Some y) device cut none = cut.faults device

pub whole_total : (size : ℕ) (pages : List (List SectorSeen)) (old now : SheetsSeen) → HasCuts size pages (wholes_of size [] old) now → ArePairedRows (is_some old.second) pages → (copy device : ℕ) → whole_faults pages now copy device ≡ whole_faults [] old copy device
whole_total size pages old now cuts pairs zero device = cuts.first.faults device
whole_total size pages old now cuts pairs (suc zero) device =
    total_second size pages old.second now.second device cuts.second (λ none. grid_quiet pages device (subst (λ (b : Bool). ArePairedRows b pages) (ap (λ (x : Option (List (Option Seen))). is_some x) none) pairs))
whole_total size pages old now cuts pairs (suc (suc copy)) device = let e = grid_more pages copy device in omega (arith, e)

-- ---- what lies between the pages

cell_is : (xs : List SectorSeen) (m : ℕ) → is_some (cell_at xs m) ≡ nat_lt m (length xs)
cell_is [] m = grind arith
cell_is (x ∷ xs) zero = grind arith
cell_is (x ∷ xs) (suc m) = cell_is xs m ∙ shift m (length xs)
  where
    shift : (a b : ℕ) → nat_lt a b ≡ nat_lt (suc a) (suc b)
    shift a b = grind arith

abbrev sized : ℕ → ℕ → ℕ
sized i n = if nat_lt i n then 32 else 0

size_none : (i : ℕ) → sized i 0 ≡ 0
size_none i = grind arith

size_first : (n : ℕ) → sized 0 (suc n) ≡ 32
size_first n = grind arith

size_shift : (a b : ℕ) → sized a b ≡ sized (suc a) (suc b)
size_shift a b = grind arith

row_size : (pages : List (List SectorSeen)) → ((i : ℕ) → i < length pages → length (row_at pages i) ≡ 32) → (i : ℕ) → length (row_at pages i) ≡ sized i (length pages)
row_size [] rows i = sym (size_none i)
row_size (x ∷ pages) rows zero = rows 0 (omega arith) ∙ sym (size_first (length pages))
row_size (x ∷ pages) rows (suc i) = row_size pages (λ j lt. rows (suc j) (omega (arith, lt))) i ∙ size_shift i (length pages)

test_is : (q r n : ℕ) (b : Bool) → (nat_le 3 q && nat_le 1 r) ≡ b → (if b then nat_lt (q - 3) (if nat_lt (r - 1) n then 32 else 0) else false) ≡ ((nat_le 3 q && nat_le 1 r) && (nat_lt q 35 && nat_le r n))
test_is q r n false e = ap (λ (x : Bool). x && (nat_lt q 35 && nat_le r n)) (sym e)
test_is q r n true e =
    let a : 3 ≤ q = grind (arith, e) in
    let b : 1 ≤ r = grind (arith, e) in
    inner q r n a b ∙ ap (λ (x : Bool). x && (nat_lt q 35 && nat_le r n)) (sym e)
  where
    inner : (q r n : ℕ) → 3 ≤ q → 1 ≤ r → nat_lt (q - 3) (if nat_lt (r - 1) n then 32 else 0) ≡ (nat_lt q 35 && nat_le r n)
    inner q r n a b = grind (arith, a, b)

pub grid_paged : (size : ℕ) (pages : List (List SectorSeen)) → ((i : ℕ) → i < length pages → length (row_at pages i) ≡ 32) → (k : ℕ) → is_some (grid_at size pages k) ≡ is_paged size (length pages) k
grid_paged size pages rows k =
    by (nat_le 3 (k / size) && nat_le 1 (k % size))
    ∙ ap (λ (n : ℕ). if nat_le 3 (k / size) && nat_le 1 (k % size) then nat_lt (k / size - 3) n else false) (row_size pages rows (k % size - 1)) ∙ test_is (k / size) (k % size) (length pages) (nat_le 3 (k / size) && nat_le 1 (k % size)) refl
  where
    by : (b : Bool) → is_some (if b then cell_at (row_at pages (k % size - 1)) (k / size - 3) else None) ≡ (if b then nat_lt (k / size - 3) (length (row_at pages (k % size - 1))) else false)
    by true = cell_is (row_at pages (k % size - 1)) (k / size - 3)
    by false = refl

single_now : (copy : ℕ) (x : Option Seen) (cell : Option SectorSeen) (y : Option Seen) (p : Seen) → x ≡ Some p → part_at copy x cell ≡ part_at copy y None → is_some y ≡ true → ((q : Seen) → y ≡ Some q → q.sectors ≡ 1) → p.sectors ≡ 1
single_now copy None cell y p e same some single = cc
single_now copy (Some x) cell None p e same some single = cc
single_now copy (Some x) cell (Some q) p e same some single = ap (λ (o : Option Seen). (part_at copy o None).sectors) (sym e) ∙ ap (λ (s : Seen). s.sectors) same ∙ single q refl

laid_one : (size copy : ℕ) (pages : List (List SectorSeen)) (old now : List (Option Seen)) → HasCut size copy pages (whole_of size copy [] old) now → IsWholeOn size old → ((i : ℕ) → i < length pages → length (row_at pages i) ≡ 32) → IsLaidOn size (length pages) now
laid_one size copy pages old now cut whole rows =
    let same : length now ≡ length old = sym (filled_size size copy pages 0 now) ∙ ap (λ (xs : List Seen). length xs) cut.pieces ∙ filled_size size copy [] 0 old in
    let l = cut.holed.long in
    record {
      long = l;
      holes = λ k lt. cut.holed.holes k lt ∙ ap (λ (b : Bool). not b) (grid_paged size pages rows k);
      single = λ k p lt is.
          let now_in : k < length now = omega (arith, l, lt) in
          let old_in : k < length old = omega (arith, same, now_in) in
          single_now copy (slot_at now k) (grid_at size pages (0 + k)) (slot_at old k) p is
          (sym (filled_at size copy pages 0 now k now_in) ∙ ap (λ (xs : List Seen). item_at (cell_piece copy None) xs k) cut.pieces ∙ filled_at size copy [] 0 old k old_in ∙ ap (part_at copy (slot_at old k)) (grid_none size (0 + k)))
          (whole.some k old_in) (λ q has. whole.single k q lt has);
    }

laid_second : (size : ℕ) (pages : List (List SectorSeen)) (old now : Option (List (Option Seen))) → HasCutSecond size pages (option_map (whole_of size 1 []) old) now → ((slots : List (Option Seen)) → old ≡ Some slots → IsWholeOn size slots) → ((i : ℕ) → i < length pages → length (row_at pages i) ≡ 32) →
    (slots : List (Option Seen)) → now ≡ Some slots → IsLaidOn size (length pages) slots
laid_second size pages None None cut whole rows slots e = cc
laid_second size pages None (Some y) cut whole rows slots e = absurd cut
laid_second size pages (Some x) None cut whole rows slots e = absurd cut
laid_second size pages (Some x) (Some y) cut whole rows slots e = subst (IsLaidOn size (length pages)) (inside y slots e) (laid_one size 1 pages x y cut (whole x refl) rows)
  where
    inside : (a b : List (Option Seen)) → Some a ≡ Some b → a ≡ b
    inside a b f = cc

pub laid_of : (size count : ℕ) (pages : List (List SectorSeen)) (old now : SheetsSeen) → HasCuts size pages (wholes_of size [] old) now → AreWhole size old → ((i : ℕ) → i < length pages → length (row_at pages i) ≡ 32) → length pages ≡ count → IsLaid size count now
laid_of size count pages old now cuts whole rows e =
    subst (λ (n : ℕ). IsLaid size n now) e
    (record { first = laid_one size 0 pages old.first now.first cuts.first whole.first rows; second = laid_second size pages old.second now.second cuts.second whole.second rows })

-- ---- copies

second_plain : (size : ℕ) (second : Option (List (Option Seen))) → option_map (filled size 1 [] 0) second ≡ option_map pieces_in second
second_plain size None = refl
second_plain size (Some slots) = ap (λ (ps : List Seen). Some ps) (filled_in size 1 0 slots)

pub plain : (size : ℕ) (sheets : SheetsSeen) → whole_copies size [] sheets ≡ copies_list (pieces_in sheets.first) (option_map pieces_in sheets.second)
plain size sheets = ap (λ (ps : List Seen). copies_list ps (option_map (filled size 1 [] 0) sheets.second)) (filled_in size 0 0 sheets.first) ∙ ap (copies_list (pieces_in sheets.first)) (second_plain size sheets.second)

pub runs_faults : (old new : List (List Seen)) → SameRuns old new → (copy device : ℕ) → copy_faults new copy device ≡ copy_faults old copy device
runs_faults [] [] same copy device = refl
runs_faults [] (y ∷ ys) same copy device = absurd same
runs_faults (x ∷ xs) [] same copy device = absurd same
runs_faults (x ∷ xs) (y ∷ ys) same zero device = same.0.faults device
runs_faults (x ∷ xs) (y ∷ ys) same (suc copy) device = runs_faults xs ys same.1 copy device

second_counted : (first : List Seen) (second : Option (List (Option Seen))) (device : ℕ) → AreAllFull second → second_faults device second + 0 ≡ copy_faults (copies_list first (option_map pieces_in second)) 1 device
second_counted first None device full = refl
second_counted first (Some slots) device full = let e = counted_in device slots full in omega (arith, e)

first_counted : (slots : List (Option Seen)) (second : Option (List Seen)) (device : ℕ) → AreFull slots → slots_faults device slots + 0 ≡ copy_faults (copies_list (pieces_in slots) second) 0 device
first_counted slots None device full = let e = counted_in device slots full in omega (arith, e)
first_counted slots (Some s) device full = let e = counted_in device slots full in omega (arith, e)

pub sheets_counted : (sheets : SheetsSeen) → AreFull sheets.first → AreAllFull sheets.second → (copy device : ℕ) → whole_faults [] sheets copy device ≡ copy_faults (copies_list (pieces_in sheets.first) (option_map pieces_in sheets.second)) copy device
sheets_counted sheets first second zero device = first_counted sheets.first (option_map pieces_in sheets.second) device first
sheets_counted sheets first second (suc zero) device = second_counted (pieces_in sheets.first) sheets.second device second
sheets_counted sheets first second (suc (suc copy)) device = sym (none_more (pieces_in sheets.first) (option_map pieces_in sheets.second) copy device)

pub second_full : (size : ℕ) (second : Option (List (Option Seen))) → ((slots : List (Option Seen)) → second ≡ Some slots → IsWholeOn size slots) → AreAllFull second
second_full size None whole = tt
second_full size (Some slots) whole = (whole slots refl).some
