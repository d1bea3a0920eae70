-- The pieces of a store on two copies that gives up one, and the slots of each.
use Rattle.std.proofs.Common.{◌≡◌, ℕ, zero, suc, ◌+◌, ◌-◌, ◌/◌, ◌%◌, ◌<◌, ◌≤◌, Bool, true, false, refl, sym, ◌∙◌, ap, arith, List, [], ◌∷◌, length, Option, Some, None}
use Rattle.std.specs.Prelude.{is_some, ◌&&◌, nat_le, if◌then◌else◌}
use Rattle.std.specs.Option.{option_map}
use Rattle.vx_piece.specs.Seen.{Seen}
use Rattle.vx_marks.specs.Log.{LogSeen}
use Rattle.vx_pages.specs.Parting.{only_sectors}
use Rattle.vx_pages.specs.Sector.{SectorSeen}
use Rattle.vx_maps.specs.Copies.{copies_list}
use Rattle.vx_maps.specs.Loading.{copy_at}
use Rattle.vx_maps.specs.Parting.{only_grid, slots_on, slots_or_none}
use Rattle.vx_maps.specs.Slots.{AreHoled, HasCut, IsHoled, IsHoledSecond, IsLaid, IsLaidOn, SheetsSeen, cell_at, cell_piece, copies_in, filled, grid_at, pieces_in, row_at, whole_of}
use Rattle.vx_maps.specs.Store.{AreOnCopies, page_at}
use Rattle.vx_maps.specs.Wholes.{whole_copies}
use Rattle.vx_maps.proofs.Fills.{filled_size}
use Rattle.vx_maps.proofs.OnlyCopies.{row_now}
use Rattle.vx_maps.proofs.SlotRuns.{filled_in}
use Rattle.vx_maps.proofs.Together.{same_size}

-- ---- two copies

abbrev number : Bool → ℕ
number b = if b then 2 else 1

pub two_second : (logs : List LogSeen) (sheets : SheetsSeen) → AreOnCopies (copies_in sheets) logs → (page_at logs 0).copies ≡ 2 → (is_some sheets.second ≡ true) × (0 < length logs)
two_second [] sheets on two = absurd (omega (arith, two))
two_second (x ∷ xs) sheets on two = (by (is_some sheets.second) (sym (on 0 (omega arith)) ∙ two), omega arith)
  where
    by : (b : Bool) → number b ≡ 2 → b ≡ true
    by true e = refl
    by false e = absurd (omega (arith, e))

pub copies_none : (logs : List LogSeen) → length logs ≡ 0 → (page_at logs 0).copies ≡ 0
copies_none [] none = refl
copies_none (x ∷ xs) none = absurd (omega (arith, none))

pub copies_some : (logs : List LogSeen) (sheets : SheetsSeen) (pair : Bool) → AreOnCopies (copies_in sheets) logs → 0 < length logs → is_some sheets.second ≡ pair → (page_at logs 0).copies ≡ number pair
copies_some logs sheets pair on some is = on 0 some ∙ ap number is

pub copy_is : (size : ℕ) (grid : List (List SectorSeen)) (sheets : SheetsSeen) (copy : ℕ) → copy < 2 → is_some sheets.second ≡ true → copy_at (whole_copies size grid sheets) copy ≡ filled size copy grid 0 (slots_on sheets copy)
copy_is size grid sheets copy some two = by sheets.first sheets.second copy some two
  where
    by : (first : List (Option Seen)) (second : Option (List (Option Seen))) (copy : ℕ) → copy < 2 → is_some second ≡ true →
        copy_at (copies_list (filled size 0 grid 0 first) (option_map (filled size 1 grid 0) second)) copy ≡ filled size copy grid 0 (slots_on (record { first = first; second = second }) copy)
    by first None copy some two = cc
    by first (Some slots) zero some two = refl
    by first (Some slots) (suc zero) some two = refl
    by first (Some slots) (suc (suc n)) some two = absurd (omega (arith, some))

pub first_count : (size : ℕ) (grid : List (List SectorSeen)) (sheets : SheetsSeen) → length (copy_at (whole_copies size grid sheets) 0) ≡ length sheets.first
first_count size grid sheets = by sheets.second
  where
    by : (second : Option (List (Option Seen))) → length (copy_at (copies_list (filled size 0 grid 0 sheets.first) (option_map (filled size 1 grid 0) second)) 0) ≡ length sheets.first
    by None = filled_size size 0 grid 0 sheets.first
    by (Some slots) = filled_size size 0 grid 0 sheets.first

pub second_count : (size : ℕ) (grid : List (List SectorSeen)) (sheets : SheetsSeen) (slots : List (Option Seen)) → sheets.second ≡ Some slots → length (copy_at (whole_copies size grid sheets) 1) ≡ length slots
second_count size grid sheets slots is =
    ap (λ (second : Option (List (Option Seen))). length (copy_at (copies_list (filled size 0 grid 0 sheets.first) (option_map (filled size 1 grid 0) second)) 1)) is ∙ filled_size size 1 grid 0 slots

pub holed_on : (size : ℕ) (grid : List (List SectorSeen)) (sheets : SheetsSeen) (copy : ℕ) → is_some sheets.second ≡ true → AreHoled size grid sheets → IsHoled size grid (slots_on sheets copy)
holed_on size grid sheets zero two holed = holed.first
holed_on size grid sheets (suc n) two holed = by sheets.second two holed.second
  where
    by : (second : Option (List (Option Seen))) → is_some second ≡ true → IsHoledSecond size grid second → IsHoled size grid (slots_or_none second)
    by None two holed = cc
    by (Some slots) two holed = holed

pub laid_on : (size count : ℕ) (sheets : SheetsSeen) (copy : ℕ) → is_some sheets.second ≡ true → IsLaid size count sheets → IsLaidOn size count (slots_on sheets copy)
laid_on size count sheets zero two laid = laid.first
laid_on size count sheets (suc n) two laid = by sheets.second two laid.second
  where
    by : (second : Option (List (Option Seen))) → is_some second ≡ true → ((slots : List (Option Seen)) → second ≡ Some slots → IsLaidOn size count slots) → IsLaidOn size count (slots_or_none second)
    by None two laid = cc
    by (Some slots) two laid = laid slots refl

pub laid_alone : (size count : ℕ) (slots : List (Option Seen)) → IsLaidOn size count slots → IsLaid size count (record { first = slots; second = None })
laid_alone size count slots laid = record { first = laid; second = λ other e. cc }

-- ---- the pieces of the copy that stays

cell_now : (kept : ℕ) (xs : List SectorSeen) (m : ℕ) → cell_piece 0 (cell_at (only_sectors kept xs) m) ≡ cell_piece kept (cell_at xs m)
cell_now kept [] m = refl
cell_now kept (x ∷ xs) zero = refl
cell_now kept (x ∷ xs) (suc m) = cell_now kept xs m

grid_now : (kept size : ℕ) (grid : List (List SectorSeen)) (k : ℕ) → cell_piece 0 (grid_at size (only_grid kept grid) k) ≡ cell_piece kept (grid_at size grid k)
grid_now kept size grid k = by (nat_le 3 (k / size) && nat_le 1 (k % size))
  where
    by : (b : Bool) → cell_piece 0 (if b then cell_at (row_at (only_grid kept grid) (k % size - 1)) (k / size - 3) else None) ≡ cell_piece kept (if b then cell_at (row_at grid (k % size - 1)) (k / size - 3) else None)
    by true = ap (λ (xs : List SectorSeen). cell_piece 0 (cell_at xs (k / size - 3))) (row_now kept grid (k % size - 1)) ∙ cell_now kept (row_at grid (k % size - 1)) (k / size - 3)
    by false = refl

pub filled_now : (kept size : ℕ) (grid : List (List SectorSeen)) (k : ℕ) (slots : List (Option Seen)) → filled size 0 (only_grid kept grid) k slots ≡ filled size kept grid k slots
filled_now kept size grid k [] = refl
filled_now kept size grid k (None ∷ xs) = ap (λ (p : Seen). p ∷ filled size 0 (only_grid kept grid) (k + 1) xs) (grid_now kept size grid k) ∙ ap (λ (ps : List Seen). cell_piece kept (grid_at size grid k) ∷ ps) (filled_now kept size grid (k + 1) xs)
filled_now kept size grid k (Some p ∷ xs) = ap (λ (ps : List Seen). p ∷ ps) (filled_now kept size grid (k + 1) xs)

-- ---- the pieces of the copy that goes

pub all_out : (size copy : ℕ) (grid : List (List SectorSeen)) (old now : List (Option Seen)) → HasCut size copy [] (whole_of size copy grid old) now → pieces_in now ≡ filled size copy grid 0 old
all_out size copy grid old now cut = sym (filled_in size copy 0 now) ∙ cut.pieces

pub room_kept : (size copy : ℕ) (grid : List (List SectorSeen)) (old now : List (Option Seen)) (n : ℕ) → HasCut size copy [] (whole_of size copy grid old) now → length (filled size copy grid 0 old) ≤ n → length now ≤ n
room_kept size copy grid old now n cut le = let e = same_size size copy [] grid old now cut in let f = filled_size size copy grid 0 old in omega (arith, e, f, le)

pub room_for : (size copy : ℕ) (grid : List (List SectorSeen)) (slots : List (Option Seen)) (n : ℕ) → IsHoled size grid slots → 1 < size → length (filled size copy grid 0 slots) ≤ n → 32 ≤ n
room_for size copy grid slots n holed big le = let e = filled_size size copy grid 0 slots in let l = holed.long in omega (arith, e, l, big, le)
