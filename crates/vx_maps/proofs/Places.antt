-- The pieces of a page leave their places one by one, or come back.
use Rattle.std.proofs.Common.{◌≡◌, inl, inr, ℕ, zero, suc, ◌+◌, ◌<◌, Bool, true, false, refl, sym, ◌∙◌, ap, subst, arith, List, [], ◌∷◌, ◌++◌, length, map, Option, Some, None}
use Rattle.std.specs.Prelude.{is_some, ◌&&◌, not, replicate, slice_index_or, ◌/◌, ◌%◌}
use Rattle.std.specs.Option.{option_map}
use Rattle.std.proofs.lemmas.Bool.{cases_order}
use Rattle.std.proofs.lemmas.List.{map_push, length-append}
use Rattle.vx_piece.specs.Seen.{Seen}
use Rattle.vx_mapfmt.specs.Bits.{bit_in}
use Rattle.vx_mask.specs.Mask.{has}
use Rattle.vx_sector.specs.Fields.{zeros}
use Rattle.vx_pages.specs.Bytes.{full}
use Rattle.vx_pages.specs.Sector.{SectorSeen, Copies, AreSectors, IsFormed, shown}
use Rattle.vx_pages.specs.Page.{sector_at}
use Rattle.vx_pages.specs.Page.{AreAll, ArePaired}
use Rattle.vx_maps.specs.Slots.{slot_at, place_of, Moved, MovedBoth, MovedSecond, SheetsSeen, IsTakable, IsTakableSecond, IsPlaceable, IsPlaceableSecond, HoldsSingle, HasPieces, HasPiecesOn, HasPiecesSecond, HasHoles, HasHolesOn, HasHolesSecond, HasCuts, Wholes}
use Rattle.vx_pages.proofs.Bits.{no_bit}
use Rattle.vx_maps.proofs.Cuts.{cuts_in, cuts_out}
use Rattle.vx_maps.proofs.PlaceLaws.{place_other}

some_single : (x : Option Seen) → HoldsSingle x → is_some x ≡ true
some_single None h = absurd h
some_single (Some p) h = refl

single_is : (x : Option Seen) (p : Seen) → x ≡ Some p → HoldsSingle x → p.sectors ≡ 1
single_is x p e h = subst HoldsSingle e h

takable_second : (size page m : ℕ) (second : Option (List (Option Seen))) → m < 32 → HasPiecesSecond size page m second → IsTakableSecond (place_of size m page) second
takable_second size page m None lt h = tt
takable_second size page m (Some slots) lt h = let here = h m (omega arith) lt in (here.0, some_single _ here.1)

pub takable : (size page m : ℕ) (sheets : SheetsSeen) → m < 32 → HasPieces size page m sheets → IsTakable (place_of size m page) sheets
takable size page m sheets lt h =
    let here = h.first m (omega arith) lt in record { inside = here.0; first = some_single _ here.1; second = takable_second size page m sheets.second lt h.second }

pieces_one : (size page m : ℕ) (p : Seen) (out in' : List (Option Seen)) → 1 + page < size → Moved (place_of size m page) p out in' → HasPiecesOn size page m out → HasPiecesOn size page (m + 1) in'
pieces_one size page m p out in' fits moved h k le lt =
    let had = h k (omega (arith, le)) lt in
    let e = moved.size in
    let l = had.0 in
    (omega (arith, e, l), subst HoldsSingle (sym (moved.others (place_of size k page) (place_other size k m page fits (λ g. omega (arith, le, g))))) had.1)

pieces_second : (size page m : ℕ) (p : Option Seen) (out in' : Option (List (Option Seen))) → 1 + page < size → MovedSecond (place_of size m page) p out in' → HasPiecesSecond size page m out → HasPiecesSecond size page (m + 1) in'
pieces_second size page m None None None fits moved h = tt
pieces_second size page m None None (Some y) fits moved h = absurd moved
pieces_second size page m None (Some x) y fits moved h = absurd moved
pieces_second size page m (Some p) None y fits moved h = absurd moved
pieces_second size page m (Some p) (Some x) None fits moved h = absurd moved
pieces_second size page m (Some p) (Some x) (Some y) fits moved h = pieces_one size page m p x y fits moved h

pub pieces_on : (size page m : ℕ) (pieces : Copies) (out in' : SheetsSeen) → 1 + page < size → MovedBoth (place_of size m page) pieces out in' → HasPieces size page m out → HasPieces size page (m + 1) in'
pieces_on size page m pieces out in' fits moved h = record { first = pieces_one size page m pieces.first out.first in'.first fits moved.first h.first; second = pieces_second size page m pieces.second out.second in'.second fits moved.second h.second }

single_second : (size page m : ℕ) (first : Seen) (p : Option Seen) (out in' : Option (List (Option Seen))) → m < 32 → first.sectors ≡ 1 → MovedSecond (place_of size m page) p out in' → HasPiecesSecond size page m out → AreSectors (record { first = first; second = p })
single_second size page m first p out in' lt is moved h zero = is
single_second size page m first None None None lt is moved h (suc n) = is
single_second size page m first None None (Some y) lt is moved h (suc n) = absurd moved
single_second size page m first None (Some x) y lt is moved h (suc n) = absurd moved
single_second size page m first (Some p) None y lt is moved h (suc n) = absurd moved
single_second size page m first (Some p) (Some x) None lt is moved h (suc n) = absurd moved
single_second size page m first (Some p) (Some x) (Some y) lt is moved h (suc n) = single_is _ p moved.was (h m (omega arith) lt).1

pub are_single : (size page m : ℕ) (pieces : Copies) (out in' : SheetsSeen) → m < 32 → MovedBoth (place_of size m page) pieces out in' → HasPieces size page m out → AreSectors pieces
are_single size page m pieces out in' lt moved h = single_second size page m pieces.first pieces.second out.second in'.second lt (single_is _ pieces.first moved.first.was (h.first m (omega arith) lt).1) moved.second h.second

-- ---- holes

holes_one : (size page m : ℕ) (p : Seen) (out in' : List (Option Seen)) → 1 + page < size → place_of size m page < length out → Moved (place_of size m page) p out in' → HasHolesOn size page m out → HasHolesOn size page (m + 1) in'
holes_one size page m p out in' fits inside moved h k lt =
    elim (cases_order k m) [
      | inl same ↦
          let e = moved.size in
          (subst (λ (n : ℕ). place_of size n page < length in') (sym same) (omega (arith, e, inside)), subst (λ (n : ℕ). slot_at in' (place_of size n page) ≡ None) (sym same) moved.gone)
      | inr (inl low) ↦
          let had = h k low in
          let e = moved.size in
          let l = had.0 in
          (omega (arith, e, l), moved.others (place_of size k page) (place_other size k m page fits (λ g. omega (arith, low, g))) ∙ had.1)
      | inr (inr high) ↦ absurd (omega (arith, lt, high))
    ]

holes_second : (size page m : ℕ) (p : Option Seen) (out in' : Option (List (Option Seen))) → 1 + page < size → IsTakableSecond (place_of size m page) out → MovedSecond (place_of size m page) p out in' → HasHolesSecond size page m out → HasHolesSecond size page (m + 1) in'
holes_second size page m None None None fits inside moved h = tt
holes_second size page m None None (Some y) fits inside moved h = absurd moved
holes_second size page m None (Some x) y fits inside moved h = absurd moved
holes_second size page m (Some p) None y fits inside moved h = absurd moved
holes_second size page m (Some p) (Some x) None fits inside moved h = absurd moved
holes_second size page m (Some p) (Some x) (Some y) fits inside moved h = holes_one size page m p x y fits inside.0 moved h

pub holes_on : (size page m : ℕ) (pieces : Copies) (out in' : SheetsSeen) → 1 + page < size → IsTakable (place_of size m page) out → MovedBoth (place_of size m page) pieces out in' → HasHoles size page m out → HasHoles size page (m + 1) in'
holes_on size page m pieces out in' fits inside moved h = record { first = holes_one size page m pieces.first out.first in'.first fits inside.inside moved.first h.first; second = holes_second size page m pieces.second out.second in'.second fits inside.second moved.second h.second }

no_holes_second : (size page : ℕ) (second : Option (List (Option Seen))) → HasHolesSecond size page 0 second
no_holes_second size page None = tt
no_holes_second size page (Some x) = λ m lt. absurd (omega (arith, lt))

pub no_holes : (size page : ℕ) (sheets : SheetsSeen) → HasHoles size page 0 sheets
no_holes size page sheets = record { first = λ m lt. absurd (omega (arith, lt)); second = no_holes_second size page sheets.second }

placeable_second : (size page m : ℕ) (pair : Bool) (second : Option (List (Option Seen))) → pair ≡ is_some second → HasHolesSecond size page (m + 1) second → IsPlaceableSecond (place_of size m page) pair second
placeable_second size page m pair None e h = e
placeable_second size page m pair (Some slots) e h = let here = h m (omega arith) in (e, here.0, here.1)

pub placeable : (size page m : ℕ) (pair : Bool) (sheets : SheetsSeen) → pair ≡ is_some sheets.second → HasHoles size page (m + 1) sheets → IsPlaceable (place_of size m page) pair sheets
placeable size page m pair sheets e h = let here = h.first m (omega arith) in record { inside = here.0; first = here.1; second = placeable_second size page m pair sheets.second e h.second }

back_one : (size page m : ℕ) (p : Seen) (out in' : List (Option Seen)) → 1 + page < size → Moved (place_of size m page) p out in' → HasHolesOn size page (m + 1) in' → HasHolesOn size page m out
back_one size page m p out in' fits moved h k lt =
    let had = h k (omega (arith, lt)) in
    let e = moved.size in
    let l = had.0 in
    (omega (arith, e, l), sym (moved.others (place_of size k page) (place_other size k m page fits (λ g. omega (arith, lt, g)))) ∙ had.1)

back_second : (size page m : ℕ) (p : Option Seen) (out in' : Option (List (Option Seen))) → 1 + page < size → MovedSecond (place_of size m page) p out in' → HasHolesSecond size page (m + 1) in' → HasHolesSecond size page m out
back_second size page m None None None fits moved h = tt
back_second size page m None None (Some y) fits moved h = absurd moved
back_second size page m None (Some x) y fits moved h = absurd moved
back_second size page m (Some p) None y fits moved h = absurd moved
back_second size page m (Some p) (Some x) None fits moved h = absurd moved
back_second size page m (Some p) (Some x) (Some y) fits moved h = back_one size page m p x y fits moved h

pub holes_back : (size page m : ℕ) (pieces : Copies) (out in' : SheetsSeen) → 1 + page < size → MovedBoth (place_of size m page) pieces out in' → HasHoles size page (m + 1) in' → HasHoles size page m out
holes_back size page m pieces out in' fits moved h = record { first = back_one size page m pieces.first out.first in'.first fits moved.first h.first; second = back_second size page m pieces.second out.second in'.second fits moved.second h.second }

-- ---- pairs

pub second_same : (at : ℕ) (p : Option Seen) (out in' : Option (List (Option Seen))) → MovedSecond at p out in' → (is_some in' ≡ is_some out) × (is_some p ≡ is_some out)
second_same at None None None moved = (refl, refl)
second_same at None None (Some y) moved = absurd moved
second_same at None (Some x) y moved = absurd moved
second_same at (Some p) None y moved = absurd moved
second_same at (Some p) (Some x) None moved = absurd moved
second_same at (Some p) (Some x) (Some y) moved = (refl, refl)

at_push : (xs : List SectorSeen) (s : SectorSeen) → sector_at (xs ++ s ∷ []) (length xs) ≡ s
at_push [] s = refl
at_push (x ∷ xs) s = at_push xs s

at_front : (xs : List SectorSeen) (s : SectorSeen) (m : ℕ) → m < length xs → sector_at (xs ++ s ∷ []) m ≡ sector_at xs m
at_front [] s m lt = absurd (omega (arith, lt))
at_front (x ∷ xs) s zero lt = refl
at_front (x ∷ xs) s (suc m) lt = at_front xs s m (omega (arith, lt))

pub all_push : (fact : SectorSeen → Type 0) (xs : List SectorSeen) (s : SectorSeen) → AreAll fact xs → fact s → AreAll fact (xs ++ s ∷ [])
all_push fact xs s h is m lt =
    let size = length-append xs (s ∷ []) in
    elim (cases_order m (length xs)) [
      | inl same ↦ subst fact (sym (ap (λ (n : ℕ). sector_at (xs ++ s ∷ []) n) same ∙ at_push xs s)) is
      | inr (inl low) ↦ subst fact (sym (at_front xs s m low)) (h m low)
      | inr (inr high) ↦ absurd (omega (arith, size, lt, high))
    ]

pub paired_push : (pair : Bool) (xs : List SectorSeen) (s : SectorSeen) → ArePaired pair xs → is_some s.copies.second ≡ pair → ArePaired pair (xs ++ s ∷ [])
paired_push pair xs s h is = all_push (λ (x : SectorSeen). is_some x.copies.second ≡ pair) xs s h is

pub paired_front : (pair : Bool) (xs : List SectorSeen) (s : SectorSeen) → ArePaired pair (xs ++ s ∷ []) → ArePaired pair xs × (is_some s.copies.second ≡ pair)
paired_front pair xs s h =
    let size = length-append xs (s ∷ []) in (
      λ m lt. ap (λ (x : SectorSeen). is_some x.copies.second) (sym (at_front xs s m lt)) ∙ h m (omega (arith, size, lt)),
      ap (λ (x : SectorSeen). is_some x.copies.second) (sym (at_push xs s)) ∙ h (length xs) (omega (arith, size)),
    )

-- ---- a sector of which nothing is known

full_at : (b n k : ℕ) → k < n → slice_index_or (replicate n b) k 0 ≡ b
full_at b zero k lt = absurd (omega (arith, lt))
full_at b (suc n) zero lt = refl
full_at b (suc n) (suc k) lt = full_at b n k (omega (arith, lt))

has_full : (k : ℕ) → k < 8 → has 255 k ≡ true
unfolding has
has_full zero lt = refl
has_full (suc zero) lt = refl
has_full (suc (suc zero)) lt = refl
has_full (suc (suc (suc zero))) lt = refl
has_full (suc (suc (suc (suc zero)))) lt = refl
has_full (suc (suc (suc (suc (suc zero))))) lt = refl
has_full (suc (suc (suc (suc (suc (suc zero)))))) lt = refl
has_full (suc (suc (suc (suc (suc (suc (suc zero))))))) lt = refl
has_full (suc (suc (suc (suc (suc (suc (suc (suc k)))))))) lt = absurd (omega (arith, lt))

pub full_bit : (region : ℕ) → bit_in (full 512) region ≡ true
unfolding full
full_bit region = ap (λ (byte : ℕ). has byte (region % 8)) (full_at 255 512 (region % 4096 / 8) (omega arith)) ∙ has_full (region % 8) (omega arith)

and_none : (a : Bool) → (a && not true) ≡ false
and_none true = refl
and_none false = refl

full_size : length (full 512) ≡ 512
unfolding full
full_size = refl

zero_size : length (zeros 512) ≡ 512
unfolding zeros
zero_size = refl

pub open_formed : (c : Copies) (sure loose : List ℕ) → AreSectors c → sure ≡ zeros 512 → loose ≡ full 512 → IsFormed (record { copies = c; sure = sure; loose = loose })
open_formed c sure loose sectors none all = record {
  sectors = sectors;
  sure = ap (λ (bytes : List ℕ). length bytes) none ∙ zero_size;
  loose = ap (λ (bytes : List ℕ). length bytes) all ∙ full_size;
  shows = λ n told region.
      ap (λ (b : Bool). shown c n region && not b) (ap (λ (bytes : List ℕ). bit_in bytes region) all ∙ full_bit region) ∙ and_none (shown c n region) ∙ sym (ap (λ (bytes : List ℕ). bit_in bytes region) none ∙ no_bit region);
}

-- ---- steps

mapped : {P : Type 0} (see : P → Seen) (x : Option P) → is_some (option_map see x) ≡ is_some x
mapped see None = refl
mapped see (Some p) = refl

pub pair_is : {P : Type 0} (see : P → Seen) (first : P) (x : Option P) (c : Copies) (pair : Bool) → record { first = see first; second = option_map see x } ≡ c → is_some c.second ≡ pair → is_some x ≡ pair
pair_is see first x c pair e is = sym (mapped see x) ∙ ap (λ (k : Copies). is_some k.second) e ∙ is

module _ {T : Type 0} (see : T → SectorSeen) (left xs : List T) (s : T) (e : left ≡ xs ++ s ∷ []) where
  pub seen_push : map see left ≡ map see xs ++ see s ∷ []
  seen_push = ap (map see) e ∙ map_push see xs s

  pub size_push : length left ≡ length xs + 1
  size_push = ap (λ (ys : List T). length ys) e ∙ length-append xs (s ∷ [])

-- one more sector of the page is taken
pub taken : (size page m : ℕ) (at : ℕ) (pages : List (List SectorSeen)) (xs ys : List SectorSeen) (s : SectorSeen) (out in' : SheetsSeen) (wholes : Wholes) → ys ≡ xs ++ s ∷ [] → at ≡ place_of size m page → m ≡ length xs → length pages ≡ page → 1 + page < size →
    MovedBoth at s.copies out in' → HasCuts size (pages ++ xs ∷ []) wholes out → HasCuts size (pages ++ ys ∷ []) wholes in'
taken size page m at pages xs ys s out in' wholes push place count long fits moved h =
    subst (λ (zs : List SectorSeen). HasCuts size (pages ++ zs ∷ []) wholes in') (sym push)
    (cuts_in size pages xs s at out in' moved (place ∙ ap (λ (n : ℕ). place_of size n page) count ∙ ap (λ (n : ℕ). place_of size (length xs) n) (sym long)) (omega (arith, long, fits)) wholes h)

-- the last sector of the page is put back
pub given : (size page m : ℕ) (at : ℕ) (pages : List (List SectorSeen)) (xs ys : List SectorSeen) (s : SectorSeen) (out in' : SheetsSeen) (wholes : Wholes) → ys ≡ xs ++ s ∷ [] → at ≡ place_of size m page → m ≡ length xs → length pages ≡ page → 1 + page < size →
    MovedBoth at s.copies out in' → HasCuts size (pages ++ ys ∷ []) wholes in' → HasCuts size (pages ++ xs ∷ []) wholes out
given size page m at pages xs ys s out in' wholes push place count long fits moved h =
    cuts_out size pages xs s at out in' moved (place ∙ ap (λ (n : ℕ). place_of size n page) count ∙ ap (λ (n : ℕ). place_of size (length xs) n) (sym long)) (omega (arith, long, fits)) wholes
    (subst (λ (zs : List SectorSeen). HasCuts size (pages ++ zs ∷ []) wholes in') push h)
