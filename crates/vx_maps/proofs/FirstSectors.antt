-- The first sectors of copies: how they go on, and what is held and told of them.
use Rattle.std.proofs.Common.{◌≡◌, ◌⊎◌, inl, inr, ℕ, zero, suc, ◌-◌, ◌/◌, ◌%◌, ◌<◌, Bool, true, refl, sym, ◌∙◌, ap, subst, arith, List, [], ◌∷◌, length, get_or, Option, Some, None, Result, Ok, Err}
use Rattle.std.specs.Prelude.{is_some, not, nat_le, ◌==◌, ◌&&◌, if◌then◌else◌}
use Rattle.std.specs.Option.{option_map}
use Rattle.std.proofs.Math.Nat.{zero-div}
use Rattle.vx_mask.proofs.Tests.{both_parts}
use Rattle.vx_sector.specs.Fields.{zeros}
use Rattle.vx_mapfmt.specs.Header.{maps_header}
use Rattle.vx_piece.specs.Seen.{Seen}
use Rattle.vx_runs.specs.Part.{told_or}
use Rattle.vx_marks.specs.declared.marker.MarkFault.{MarkFault}
use Rattle.vx_pages.specs.Sector.{Copies, Holds, KeepsPiece, SectorSeen, copy_of, held, or_first, tells}
use Rattle.vx_pages.specs.Reading.{IsCopyOf, IsMended}
use Rattle.vx_pages.specs.Stays.{piece_same}
use Rattle.vx_pages.proofs.Telling.{each_tells}
use Rattle.vx_maps.specs.Copies.{copies_list}
use Rattle.vx_maps.specs.Creating.{AllTell, BeginsWith, head_tells}
use Rattle.vx_maps.specs.Going.{SecondGoes, SheetsGo, SlotGoes}
use Rattle.vx_maps.specs.Heads.{AreChanged, IsPutFirst}
use Rattle.vx_maps.specs.Loading.{copy_at}
use Rattle.vx_maps.specs.Slots.{MovedBoth, MovedSecond, SheetsSeen, cell_at, cell_piece, filled, grid_at, part_at, row_at, slot_at}
use Rattle.vx_maps.specs.Written.{MayBlank, MayHold, head_of, heads_of}
use Rattle.vx_maps.proofs.Contents.{tells_begin}

-- ---- the pieces that leave their places are the first

head_is : (slots : List (Option Seen)) (p : Seen) → slot_at slots 0 ≡ Some p → head_of slots ≡ p
head_is slots p e = ap (λ (o : Option Seen). part_at 0 o None) e

heads_are : (c : Copies) (out mid : SheetsSeen) → MovedBoth 0 c out mid → heads_of out ≡ c
heads_are c out mid moved = rw (head_is out.first c.first moved.first.was, second c.second out.second mid.second moved.second) refl
  where
    second : (q : Option Seen) (x y : Option (List (Option Seen))) → MovedSecond 0 q x y → option_map head_of x ≡ q
    second None None None moved = refl
    second None None (Some y) moved = absurd moved
    second None (Some x) y moved = absurd moved
    second (Some p) None y moved = absurd moved
    second (Some p) (Some x) None moved = absurd moved
    second (Some p) (Some x) (Some y) moved = ap (λ (q : Seen). Some q) (head_is x p moved.was)

heads_changed : (fact : Copies → Copies → Type 0) (old new : SheetsSeen) → AreChanged fact old new → fact (heads_of old) (heads_of new)
heads_changed fact old new p =
    subst (λ (c : Copies). fact c (heads_of new)) (sym (heads_are p.before old p.between p.out)) (subst (λ (c : Copies). fact p.before c) (sym (heads_are p.after new p.between p.back)) p.change)

pub heads_mended : (bytes : List ℕ) (old new : SheetsSeen) (result : Result (Unit {0}) MarkFault) → AreChanged (λ before after. IsMended bytes before after result) old new → MayHold bytes (heads_of old) (heads_of new)
heads_mended bytes old new result p = λ t n. by result (held (heads_of old) n) (held (heads_of new) n) ((heads_changed (λ before after. IsMended bytes before after result) old new p).holds n (each_tells (heads_of old) t n))
  where
    by : (result : Result (Unit {0}) MarkFault) (a b : List ℕ) → Holds bytes a b result → (b ≡ a) ⊎ (b ≡ bytes)
    by (Ok u) a b h = inr h
    by (Err fault) a b h = h

pub heads_blanked : (asked : Bool) (bytes : List ℕ) (old new : SheetsSeen) (result : Result (Unit {0}) MarkFault) → asked ≡ true → bytes ≡ zeros 512 → AreChanged (λ before after. IsPutFirst bytes before after result) old new → MayBlank asked (heads_of old) (heads_of new)
heads_blanked asked bytes old new result on is p = by (heads_of old) (heads_of new) (heads_changed (λ before after. IsPutFirst bytes before after result) old new p)
  where
    first : (result : Result (Unit {0}) MarkFault) (a b : List ℕ) → Holds bytes a b result → (b ≡ a) ⊎ ((asked ≡ true) × (b ≡ zeros 512))
    first (Ok u) a b h = inr (on, h ∙ is)
    first (Err fault) a b h = elim h [ inl e ↦ inl e | inr e ↦ inr (on, e ∙ is) ]

    by : (a b : Copies) → IsPutFirst bytes a b result → MayBlank asked a b
    by a b put = record { first = λ t. first result _ _ (put.0.holds 0 t); second = put.1 }

pub blank_none : (asked : Bool) (c : Copies) → MayBlank asked c c
blank_none asked c = record { first = λ t. inl refl; second = refl }

-- ---- how they go on

module _ (rel : Seen → Seen → Type 0) (same : (p : Seen) → rel p p) where
  slot_head : (x y : Option Seen) → SlotGoes rel x y → rel (part_at 0 x None) (part_at 0 y None)
  slot_head None None go = same _
  slot_head None (Some q) go = absurd go
  slot_head (Some p) None go = absurd go
  slot_head (Some p) (Some q) go = go

  pub heads_go : (a b : SheetsSeen) → SheetsGo rel a b → (n : ℕ) → rel (copy_of (heads_of a) n) (copy_of (heads_of b) n)
  heads_go a b go n = by n a.second b.second go.second
    where
      by : (n : ℕ) (x y : Option (List (Option Seen))) → SecondGoes rel x y → rel (copy_of (record { first = head_of a.first; second = option_map head_of x }) n) (copy_of (record { first = head_of b.first; second = option_map head_of y }) n)
      by zero x y second = slot_head _ _ (go.first.each 0)
      by (suc n) None None second = slot_head _ _ (go.first.each 0)
      by (suc n) None (Some y) second = absurd second
      by (suc n) (Some x) None second = absurd second
      by (suc n) (Some x) (Some y) second = slot_head _ _ (second.each 0)

  pub heads_pair : (a b : SheetsSeen) → SheetsGo rel a b → is_some (heads_of b).second ≡ is_some (heads_of a).second
  heads_pair a b go = by a.second b.second go.second
    where
      by : (x y : Option (List (Option Seen))) → SecondGoes rel x y → is_some (option_map head_of y) ≡ is_some (option_map head_of x)
      by None None second = refl
      by None (Some y) second = absurd second
      by (Some x) None second = absurd second
      by (Some x) (Some y) second = refl

pub heads_tell : (a b : SheetsSeen) → SheetsGo KeepsPiece a b → tells (heads_of b) ≡ tells (heads_of a)
heads_tell a b go =
    let each = heads_go KeepsPiece piece_same a b go in by (heads_of a).first (heads_of b).first (heads_of a).second (heads_of b).second (heads_pair KeepsPiece piece_same a b go) (each 0).tells (each 1).tells
  where
    by : (f f' : Seen) (s s' : Option Seen) → is_some s' ≡ is_some s → is_some f'.told ≡ is_some f.told → is_some (or_first f' s').told ≡ is_some (or_first f s).told →
        tells (record { first = f'; second = s' }) ≡ tells (record { first = f; second = s })
    by f f' None None pair one two = ap (λ (t : Bool). t && true) one
    by f f' None (Some q) pair one two = cc
    by f f' (Some p) None pair one two = cc
    by f f' (Some p) (Some q) pair one two = rw (one, two) refl

-- ---- a first sector was blanked

held_second : (old new : Copies) (k : ℕ) → new.second ≡ old.second → IsCopyOf (suc k) old → held new (suc k) ≡ held old (suc k)
held_second old new k same lt = ap (λ (p : Seen). told_or p.told 0) (by old.first new.first old.second new.second same lt)
  where
    by : (f f' : Seen) (s s' : Option Seen) → s' ≡ s → suc k < (if is_some s then 2 else 1) → or_first f' s' ≡ or_first f s
    by f f' None s' e lt = absurd (omega (arith, lt))
    by f f' (Some p) s' e lt = ap (λ (o : Option Seen). or_first f' o) e

-- a blank sector is not the header
pub blank_header : (volume region maps : ℕ) → zeros 512 ≡ maps_header volume region maps → ⊥
unfolding zeros maps_header
blank_header volume region maps e = let b = ap (λ (xs : List ℕ). get_or xs 0 0) e in omega (arith, b)

pub not_zero : (n : ℕ) → not (n == 0) ≡ true → n ≡ 0 → ⊥
not_zero zero e f = cc
not_zero (suc n) e f = absurd (omega (arith, f))

-- what has the header has had it
pub blank_kept : (asked : Bool) (old new : Copies) (header : List ℕ) → MayBlank asked old new → tells old ≡ true → (zeros 512 ≡ header → ⊥) → (n : ℕ) → IsCopyOf n old → held new n ≡ header → held old n ≡ header
blank_kept asked old new header blank t bad zero lt is = elim (blank.first (both_parts _ _ t).0) [ inl e ↦ sym e ∙ is | inr e ↦ absurd (bad (sym e.1 ∙ is)) ]
blank_kept asked old new header blank t bad (suc k) lt is = sym (held_second old new k blank.second lt) ∙ is

-- a copy behind the first keeps what it has
pub blank_stands : (asked : Bool) (old new : Copies) → MayBlank asked old new → tells old ≡ true → (n : ℕ) → IsCopyOf n old → (asked ≡ true → n ≡ 0 → ⊥) → held new n ≡ held old n
blank_stands asked old new blank t zero lt apart = elim (blank.first (both_parts _ _ t).0) [ inl e ↦ e | inr e ↦ absurd (apart e.0 refl) ]
blank_stands asked old new blank t (suc k) lt apart = held_second old new k blank.second lt

-- ---- the first sectors as the copies have them

grid_zero : (size : ℕ) (grid : List (List SectorSeen)) → grid_at size grid 0 ≡ None
grid_zero size grid = let z : 0 / size ≡ 0 = zero-div size in ap (λ (q : ℕ). if nat_le 3 q && nat_le 1 (0 % size) then cell_at (row_at grid (0 % size - 1)) (q - 3) else None) z

begins_here : (size copy : ℕ) (grid : List (List SectorSeen)) (slots : List (Option Seen)) → 0 < length (filled size copy grid 0 slots) → BeginsWith (told_or (head_of slots).told 0) (filled size copy grid 0 slots)
begins_here size copy grid [] some = absurd (omega (arith, some))
begins_here size copy grid (None ∷ xs) some = ap (λ (cell : Option SectorSeen). told_or (cell_piece copy cell).told 0) (grid_zero size grid)
begins_here size copy grid (Some p ∷ xs) some = refl

head_here : (size copy : ℕ) (grid : List (List SectorSeen)) (slots : List (Option Seen)) → 0 < length (filled size copy grid 0 slots) → head_tells (filled size copy grid 0 slots) ≡ true → is_some (head_of slots).told ≡ true
head_here size copy grid [] some t = absurd (omega (arith, some))
head_here size copy grid (None ∷ xs) some t = sym (ap (λ (cell : Option SectorSeen). is_some (cell_piece copy cell).told) (grid_zero size grid)) ∙ t
head_here size copy grid (Some p ∷ xs) some t = t

module _ (size : ℕ) (grid : List (List SectorSeen)) (first : List (Option Seen)) where
  abbrev copies_with : Option (List (Option Seen)) → List (List Seen)
  copies_with second = copies_list (filled size 0 grid 0 first) (option_map (filled size 1 grid 0) second)

  pub begins_own : (second : Option (List (Option Seen))) (n : ℕ) → n < (if is_some second then 2 else 1) → 0 < length (copy_at (copies_with second) n) → BeginsWith (held (record { first = head_of first; second = option_map head_of second }) n) (copy_at (copies_with second) n)
  begins_own None zero lt some = begins_here size 0 grid first some
  begins_own (Some x) zero lt some = begins_here size 0 grid first some
  begins_own None (suc n) lt some = absurd (omega (arith, lt))
  begins_own (Some x) (suc zero) lt some = begins_here size 1 grid x some
  begins_own (Some x) (suc (suc n)) lt some = absurd (omega (arith, lt))

  pub tells_own : (second : Option (List (Option Seen))) → ((n : ℕ) → n < (if is_some second then 2 else 1) → 0 < length (copy_at (copies_with second) n)) → AllTell (copies_with second) → tells (record { first = head_of first; second = option_map head_of second }) ≡ true
  tells_own None some told = let a = head_here size 0 grid first (some 0 (omega arith)) (tells_begin _ told.0 (some 0 (omega arith))) in rw a refl
  tells_own (Some x) some told =
      let a = head_here size 0 grid first (some 0 (omega arith)) (tells_begin _ told.0 (some 0 (omega arith))) in
      let b = head_here size 1 grid x (some 1 (omega arith)) (tells_begin _ told.1.0 (some 1 (omega arith))) in rw (a, b) refl

pub heads_count : (sheets : SheetsSeen) → is_some (heads_of sheets).second ≡ is_some sheets.second
heads_count sheets = by sheets.second
  where
    by : (s : Option (List (Option Seen))) → is_some (option_map head_of s) ≡ is_some s
    by None = refl
    by (Some x) = refl
