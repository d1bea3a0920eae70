-- Copies whose pages were taken apart are in their slots alone.
use Rattle.std.proofs.Common.{◌≡◌, ℕ, zero, suc, ◌+◌, refl, sym, ◌∙◌, ap, arith, List, [], ◌∷◌, length, Option, Some, None}
use Rattle.std.specs.Prelude.{is_some, not}
use Rattle.std.specs.Option.{option_map}
use Rattle.std.specs.Global.{Vec}
use Rattle.std.proofs.lemmas.Bool.{false≢true}
use Rattle.vx_piece.specs.Seen.{Seen}
use Rattle.vx_cut.specs.Same.{counted}
use Rattle.vx_pages.specs.Sector.{SectorSeen, faults_on}
use Rattle.vx_maps.specs.Slots.{AreAllFull, AreFull, HasCut, HasCuts, HasCutSecond, SheetsSeen, Whole, Wholes, filled, grid_faults, pieces_in, slots_faults, whole_of, wholes_of}
use Rattle.vx_maps.specs.Copies.{copies_list}
use Rattle.vx_maps.specs.Spares.{HasRoom, HasRoomSecond}
use Rattle.vx_maps.specs.Wholes.{copy_faults, second_faults, whole_copies, whole_faults}
use Rattle.vx_maps.specs.declared.joining.Spares.{Spares}
use Rattle.vx_maps.proofs.Fills.{filled_size, grid_none}
use Rattle.vx_maps.proofs.SlotRuns.{filled_in}

pub full_of : (size copy : ℕ) (whole : Whole) (slots : List (Option Seen)) → HasCut size copy [] whole slots → AreFull slots
full_of size copy whole slots cut k lt = cut.holed.holes k lt ∙ ap (λ (x : Option SectorSeen). not (is_some x)) (grid_none size k)

full_second : (size : ℕ) (whole : Option Whole) (second : Option (List (Option Seen))) → HasCutSecond size [] whole second → AreAllFull second
full_second size whole None cut = tt
full_second size None (Some slots) cut = absurd cut
full_second size (Some whole) (Some slots) cut = full_of size 1 whole slots cut

pub all_full : (size : ℕ) (wholes : Wholes) (sheets : SheetsSeen) → HasCuts size [] wholes sheets → AreFull sheets.first × AreAllFull sheets.second
all_full size wholes sheets cuts = (full_of size 0 wholes.first sheets.first cuts.first, full_second size wholes.second sheets.second cuts.second)

pub same_size : (size copy : ℕ) (pages grid : List (List SectorSeen)) (old slots : List (Option Seen)) → HasCut size copy pages (whole_of size copy grid old) slots → length slots ≡ length old
same_size size copy pages grid old slots cut = sym (filled_size size copy pages 0 slots) ∙ ap (λ (xs : List Seen). length xs) cut.pieces ∙ filled_size size copy grid 0 old

module _ {P : Type 0} where
  room_second : (size : ℕ) (pages grid : List (List SectorSeen)) (old now : Option (List (Option Seen))) (spare : Option (Vec P)) → HasCutSecond size pages (option_map (whole_of size 1 grid) old) now → HasRoomSecond old spare → HasRoomSecond now spare
  room_second size pages grid None None None cut room = tt
  room_second size pages grid None None (Some y) cut room = absurd room
  room_second size pages grid None (Some x) spare cut room = absurd cut
  room_second size pages grid (Some x) None spare cut room = absurd cut
  room_second size pages grid (Some x) (Some y) None cut room = absurd room
  room_second size pages grid (Some x) (Some y) (Some s) cut room = let e = same_size size 1 pages grid x y cut in let r = room.1 in (room.0, omega (arith, e, r))

  pub room_still : (size : ℕ) (pages grid : List (List SectorSeen)) (old now : SheetsSeen) (spares : Spares P) → HasCuts size pages (wholes_of size grid old) now → HasRoom old spares → HasRoom now spares
  room_still size pages grid old now spares cuts room =
      record {
        first = (let e = same_size size 0 pages grid old.first now.first cuts.first in let r = room.first.1 in (room.first.0, omega (arith, e, r)));
        second = room_second size pages grid old.second now.second spares.second cuts.second room.second;
        empty = room.empty;
        shell = room.shell;
      }

second_pieces : (size : ℕ) (grid : List (List SectorSeen)) (old now : Option (List (Option Seen))) → HasCutSecond size [] (option_map (whole_of size 1 grid) old) now → option_map pieces_in now ≡ option_map (filled size 1 grid 0) old
second_pieces size grid None None cut = refl
second_pieces size grid None (Some y) cut = absurd cut
second_pieces size grid (Some x) None cut = absurd cut
second_pieces size grid (Some x) (Some y) cut = ap (λ (ps : List Seen). Some ps) (sym (filled_in size 1 0 y) ∙ cut.pieces)

pub together : (size : ℕ) (grid : List (List SectorSeen)) (old now : SheetsSeen) → HasCuts size [] (wholes_of size grid old) now → copies_list (pieces_in now.first) (option_map pieces_in now.second) ≡ whole_copies size grid old
together size grid old now cuts =
    ap (λ (ps : List Seen). copies_list ps (option_map pieces_in now.second)) (sym (filled_in size 0 0 now.first) ∙ cuts.first.pieces) ∙ ap (copies_list (filled size 0 grid 0 old.first)) (second_pieces size grid old.second now.second cuts.second)

-- ---- counts

pub counted_in : (device : ℕ) (slots : List (Option Seen)) → AreFull slots → counted (λ p. p.faults) device (pieces_in slots) ≡ slots_faults device slots
counted_in device [] full = refl
counted_in device (None ∷ xs) full = absurd (false≢true (full 0 (omega arith)))
counted_in device (Some x ∷ xs) full = ap (λ (n : ℕ). faults_on x device + n) (counted_in device xs (λ k lt. full (suc k) (omega (arith, lt))))

total_is : (size copy : ℕ) (pages : List (List SectorSeen)) (old slots : List (Option Seen)) (device : ℕ) → HasCut size copy [] (whole_of size copy pages old) slots → counted (λ p. p.faults) device (pieces_in slots) ≡ slots_faults device old + grid_faults copy device pages
total_is size copy pages old slots device cut =
    let full = full_of size copy (whole_of size copy pages old) slots cut in
    let e = cut.faults device in
    let f = counted_in device slots full in
    omega (arith, e, f)

total_second : (size : ℕ) (pages : List (List SectorSeen)) (first : List Seen) (old now : Option (List (Option Seen))) (device : ℕ) → HasCutSecond size [] (option_map (whole_of size 1 pages) old) now →
    (old ≡ None → grid_faults 1 device pages ≡ 0) → copy_faults (copies_list first (option_map pieces_in now)) 1 device ≡ second_faults device old + grid_faults 1 device pages
total_second size pages first None None device cut none = let e = none refl in omega (arith, e)
total_second size pages first None (Some y) device cut none = absurd cut
total_second size pages first (Some x) None device cut none = absurd cut
total_second size pages first (Some x) (Some y) device cut none = total_is size 1 pages x y device cut

pub none_more : (first : List Seen) (second : Option (List Seen)) (copy device : ℕ) → copy_faults (copies_list first second) (suc (suc copy)) device ≡ 0
none_more first None copy device = refl
none_more first (Some s) copy device = refl

pub totals : (size : ℕ) (pages : List (List SectorSeen)) (old now : SheetsSeen) → HasCuts size [] (wholes_of size pages old) now → ((device : ℕ) → old.second ≡ None → grid_faults 1 device pages ≡ 0) → ((copy device : ℕ) → grid_faults (suc (suc copy)) device pages ≡ 0) →
    (copy device : ℕ) → copy_faults (copies_list (pieces_in now.first) (option_map pieces_in now.second)) copy device ≡ whole_faults pages old copy device
totals size pages old now cuts none more zero device = first_is now.second
  where
    first_is : (second : Option (List (Option Seen))) → copy_faults (copies_list (pieces_in now.first) (option_map pieces_in second)) 0 device ≡ whole_faults pages old 0 device
    first_is None = total_is size 0 pages old.first now.first device cuts.first
    first_is (Some x) = total_is size 0 pages old.first now.first device cuts.first
totals size pages old now cuts none more (suc zero) device = total_second size pages (pieces_in now.first) old.second now.second device cuts.second (none device)
totals size pages old now cuts none more (suc (suc copy)) device = let e = more copy device in none_more (pieces_in now.first) (option_map pieces_in now.second) copy device ∙ omega (arith, e)
