-- What a change of the first sectors is to a store.
use Rattle.std.proofs.Common.{◌≡◌, ℕ, zero, suc, ◌+◌, ◌<◌, ◌≤◌, Bool, refl, sym, ◌∙◌, ap, subst, arith, List, [], ◌∷◌, true, false, Option, Some, None, Result, Ok, Err}
use Rattle.std.specs.Prelude.{◌||◌, ◌↔◌, is_some, if◌then◌else◌, IsTrue, OnOk}
use Rattle.std.specs.Option.{option_map}
use Rattle.vx_base.specs.Counts.{Rose}
use Rattle.vx_piece.specs.Seen.{Seen}
use Rattle.vx_marks.specs.declared.marker.MarkFault.{MarkFault}
use Rattle.vx_marks.specs.declared.marker.MarkFault.TheVariants.{Failed, PowerLost, Busy}
use Rattle.vx_pages.specs.Sector.{Copies, SectorSeen, HasCause, IsPut, KeepsPiece, copy_of, faults_at, is_cut, tells}
use Rattle.vx_pages.specs.Reading.{HasRisen, IsGot, IsMended, IsWhatIs}
use Rattle.vx_pages.specs.Stays.{piece_same}
use Rattle.vx_maps.specs.Creating.{AllBeginWith, BeginsWith, head_tells}
use Rattle.vx_maps.specs.Cutness.{sheets_cut}
use Rattle.vx_maps.specs.Going.{ReadsPiece, SheetsGo}
use Rattle.vx_maps.specs.Heads.{AreChanged, ArePut, IsPutFirst}
use Rattle.vx_maps.specs.Slots.{MovedBoth, MovedSecond, SheetsSeen, copies_in, filled, slot_at}
use Rattle.vx_maps.specs.Copies.{copies_list}
use Rattle.vx_maps.specs.Loading.{IsHeadAs, copy_at}
use Rattle.vx_maps.specs.Wholes.{second_faults, sheet_faults, whole_copies}
use Rattle.vx_pages.specs.Sector.{second_faults as piece_faults}
use Rattle.vx_pages.proofs.Telling.{each_tells}
use Rattle.vx_maps.proofs.Beginnings.{begins_both, begins_one, heads_cut, tells_one}
use Rattle.vx_maps.proofs.Steps.{reads_same, sheets_changed}

-- ---- how the pieces go on

pub got_goes : {T : Type 0} (n : ℕ) (bytes : List ℕ) (old new : SheetsSeen) (result : Result T MarkFault) → AreChanged (λ before after. IsGot n bytes before after result) old new → SheetsGo ReadsPiece old new
got_goes n bytes old new result p =
    sheets_changed ReadsPiece reads_same p.before p.after old p.between new p.out p.back (λ m. record { kept = p.change.reads.kept.each m; told = p.change.reads.told m })

pub mended_goes : {T : Type 0} (bytes : List ℕ) (old new : SheetsSeen) (result : Result T MarkFault) → AreChanged (λ before after. IsMended bytes before after result) old new → SheetsGo KeepsPiece old new
mended_goes bytes old new result p = sheets_changed KeepsPiece piece_same p.before p.after old p.between new p.out p.back (λ m. p.change.kept.each m)

first_keeps : (f f' : Seen) (s s' : Option Seen) → KeepsPiece f f' → s' ≡ s → (n : ℕ) → KeepsPiece (copy_of (record { first = f; second = s }) n) (copy_of (record { first = f'; second = s' }) n)
first_keeps f f' s s' one same zero = one
first_keeps f f' None None one same (suc n) = one
first_keeps f f' None (Some q) one same (suc n) = cc
first_keeps f f' (Some p) None one same (suc n) = cc
first_keeps f f' (Some p) (Some q) one same (suc n) = let e : q ≡ p = cc in subst (λ (x : Seen). KeepsPiece p x) (sym e) (piece_same p)

pub put_goes : {T : Type 0} (bytes : List ℕ) (old new : SheetsSeen) (result : Result T MarkFault) → AreChanged (λ before after. IsPutFirst bytes before after result) old new → SheetsGo KeepsPiece old new
put_goes bytes old new result p =
    sheets_changed KeepsPiece piece_same p.before p.after old p.between new p.out p.back (first_keeps p.before.first p.after.first p.before.second p.after.second (p.change.0.kept.each 0) p.change.1)

pub heads_goes : {T : Type 0} (bytes : List ℕ) (old new : SheetsSeen) (result : Result T MarkFault) → ArePut bytes old new result → SheetsGo KeepsPiece old new
heads_goes bytes old new result p = sheets_changed KeepsPiece piece_same p.before p.after old p.between new p.out p.back (λ m. p.put.kept.each m)

-- ---- why

pub moved_count : (c : Copies) (out in' : SheetsSeen) (copy device : ℕ) → MovedBoth 0 c out in' → sheet_faults copy device in' + faults_at c copy device ≡ sheet_faults copy device out
moved_count c out in' zero device moved = moved.first.faults device
moved_count c out in' (suc zero) device moved = second c.second out.second in'.second moved.second
  where
    second : (p : Option Seen) (out in' : Option (List (Option Seen))) → MovedSecond 0 p out in' → second_faults device in' + piece_faults p device ≡ second_faults device out
    second None None None moved = refl
    second None None (Some y) moved = absurd moved
    second None (Some x) in' moved = absurd moved
    second (Some p) None in' moved = absurd moved
    second (Some p) (Some x) None moved = absurd moved
    second (Some p) (Some x) (Some y) moved = moved.faults device
moved_count c out in' (suc (suc n)) device moved = refl

rose_sums : (a b m old new : ℕ) → m + a ≡ old → m + b ≡ new → Rose a b → Rose old new
rose_sums a b m old new e f rose = omega arith

-- what is known of the counts of the first pieces is known of those of the sheets
pub changed_risen : (c c' : Copies) (old mid new : SheetsSeen) (result : Result (Unit {0}) MarkFault) → MovedBoth 0 c old mid → MovedBoth 0 c' new mid → HasRisen (faults_at c) (faults_at c') (is_cut c') result →
    HasRisen (λ copy device. sheet_faults copy device old) (λ copy device. sheet_faults copy device new) (sheets_cut new) result
changed_risen c c' old mid new (Ok u) out back cause = tt
changed_risen c c' old mid new (Err (Failed copy device)) out back cause = rose_sums _ _ (sheet_faults copy device mid) _ _ (moved_count c old mid copy device out) (moved_count c' new mid copy device back) cause
changed_risen c c' old mid new (Err PowerLost) out back cause = heads_cut c' new mid back cause
changed_risen c c' old mid new (Err Busy) out back cause = cause

-- more is counted beside
pub risen_add : (f g h f' g' : ℕ → ℕ → ℕ) (cut cut' : Bool) (result : Result (Unit {0}) MarkFault) → ((copy device : ℕ) → f' copy device ≡ f copy device + h copy device) → ((copy device : ℕ) → g' copy device ≡ g copy device + h copy device) → (cut ≡ true → cut' ≡ true) →
    HasRisen f g cut result → HasRisen f' g' cut' result
risen_add f g h f' g' cut cut' (Ok u) a b power cause = tt
risen_add f g h f' g' cut cut' (Err (Failed copy device)) a b power cause = let x = a copy device in let y = b copy device in rose_more _ _ _ _ _ x y cause
  where
    rose_more : (f g h f' g' : ℕ) → f' ≡ f + h → g' ≡ g + h → Rose f g → Rose f' g'
    rose_more f g h f' g' e d rose = omega arith
risen_add f g h f' g' cut cut' (Err PowerLost) a b power cause = power cause
risen_add f g h f' g' cut cut' (Err Busy) a b power cause = cause

-- a cause by the counts before is one by those at an earlier moment
pub risen_after : (old mid new : ℕ → ℕ → ℕ) (cut : Bool) (result : Result (Unit {0}) MarkFault) → ((copy device : ℕ) → old copy device ≤ mid copy device) → HasRisen mid new cut result → HasRisen old new cut result
risen_after old mid new cut (Ok u) grown cause = tt
risen_after old mid new cut (Err (Failed copy device)) grown cause = let g = grown copy device in under _ _ _ g cause
  where
    under : (a b c : ℕ) → a ≤ b → Rose b c → Rose a c
    under a b c le rose = omega arith
risen_after old mid new cut (Err PowerLost) grown cause = cause
risen_after old mid new cut (Err Busy) grown cause = cause

pub risen_of : (old new : ℕ → ℕ → ℕ) (cut : Bool) (result : Result (Unit {0}) MarkFault) → HasCause old new cut result → HasRisen old new cut result
risen_of old new cut (Ok u) cause = tt
risen_of old new cut (Err (Failed copy device)) cause = cause.rose
risen_of old new cut (Err PowerLost) cause = cause
risen_of old new cut (Err Busy) cause = cause

-- ---- the header

pub mended_heads : (size : ℕ) (grid : List (List SectorSeen)) (bytes : List ℕ) (old new : SheetsSeen) (result : Result (Unit {0}) MarkFault) → AreChanged (λ before after. IsMended bytes before after result) old new → OnOk result (AllBeginWith bytes (whole_copies size grid new))
mended_heads size grid bytes old new (Err fault) p = tt
mended_heads size grid bytes old new (Ok u) p =
    begins_both size grid new.first new.second p.between.second p.after.first p.after.second bytes p.back.first.was p.back.second (λ told n. p.change.holds n (each_tells p.before (sym p.change.kept.tells ∙ told) n))

-- ---- the first copy alone

pub put_alone : (bytes : List ℕ) (f f' : Seen) (s : Option Seen) (result : Result (Unit {0}) MarkFault) → IsPut bytes (record { first = f; second = None }) (record { first = f'; second = s }) result →
    IsPut bytes (record { first = f; second = None }) (record { first = f'; second = None }) result
put_alone bytes f f' None result put = put
put_alone bytes f f' (Some p) result put = let e = put.kept.pair in cc

pub first_risen : {bytes : List ℕ} (c c' : Copies) (result : Result (Unit {0}) MarkFault) → IsPutFirst bytes c c' result → HasRisen (faults_at c) (faults_at c') (is_cut c') result
first_risen c c' (Ok u) put = tt
first_risen c c' (Err (Failed copy device)) put = at copy put.0.cause.rose
  where
    at : (copy : ℕ) → Rose (faults_at (record { first = c.first; second = None }) copy device) (faults_at (record { first = c'.first; second = None }) copy device) → Rose (faults_at c copy device) (faults_at c' copy device)
    at zero rose = rose
    at (suc zero) rose = absurd (omega (arith, rose))
    at (suc (suc n)) rose = absurd (omega (arith, rose))
first_risen c c' (Err PowerLost) put = cut_of c'.first.cut _ put.0.cause
  where
    cut_of : (a b : Bool) → (a || false) ≡ true → (a || b) ≡ true
    cut_of true b e = refl
    cut_of false b e = cc
first_risen c c' (Err Busy) put = put.0.cause

-- ---- a first sector was read

pub changed_cause : (c c' : Copies) (old mid new : SheetsSeen) (result : Result (Unit {0}) MarkFault) → MovedBoth 0 c old mid → MovedBoth 0 c' new mid → HasCause (faults_at c) (faults_at c') (is_cut c') result →
    HasCause (λ copy device. sheet_faults copy device old) (λ copy device. sheet_faults copy device new) (sheets_cut new) result
changed_cause c c' old mid new (Ok u) out back cause = λ copy device. sym (moved_count c' new mid copy device back) ∙ ap (λ (n : ℕ). sheet_faults copy device mid + n) (cause copy device) ∙ moved_count c old mid copy device out
changed_cause c c' old mid new (Err (Failed copy device)) out back cause =
    record {
      rose = rose_sums _ _ (sheet_faults copy device mid) _ _ (moved_count c old mid copy device out) (moved_count c' new mid copy device back) cause.rose;
      others = λ copy' device' apart. sym (moved_count c' new mid copy' device' back) ∙ ap (λ (n : ℕ). sheet_faults copy' device' mid + n) (cause.others copy' device' apart) ∙ moved_count c old mid copy' device' out;
    }
changed_cause c c' old mid new (Err PowerLost) out back cause = heads_cut c' new mid back cause
changed_cause c c' old mid new (Err Busy) out back cause = cause

begins_slot : (size copy : ℕ) (grid : List (List SectorSeen)) (slots : List (Option Seen)) (p : Seen) (bytes : List ℕ) → slot_at slots 0 ≡ Some p → IsWhatIs bytes p → head_tells (filled size copy grid 0 slots) ≡ true → BeginsWith bytes (filled size copy grid 0 slots)
begins_slot size copy grid slots p bytes e what tells = begins_one size copy grid slots p bytes e (sym (what (sym (tells_one size copy grid slots p e) ∙ tells)))

pub got_begins : (size n : ℕ) (grid : List (List SectorSeen)) (bytes : List ℕ) (c : Copies) (old mid : SheetsSeen) → MovedBoth 0 c old mid → n < copies_in old → IsWhatIs bytes (copy_of c n) → head_tells (copy_at (whole_copies size grid old) n) ≡ true →
    BeginsWith bytes (copy_at (whole_copies size grid old) n)
got_begins size n grid bytes c old mid out lt what tells = by n c.second old.second mid.second out.second lt what tells
  where
    by : (n : ℕ) (s : Option Seen) (x y : Option (List (Option Seen))) → MovedSecond 0 s x y → n < (if is_some x then 2 else 1) → IsWhatIs bytes (copy_of (record { first = c.first; second = s }) n) →
        head_tells (copy_at (copies_list (filled size 0 grid 0 old.first) (option_map (filled size 1 grid 0) x)) n) ≡ true → BeginsWith bytes (copy_at (copies_list (filled size 0 grid 0 old.first) (option_map (filled size 1 grid 0) x)) n)
    by zero s None y moved lt what tells = begins_slot size 0 grid old.first c.first bytes out.first.was what tells
    by zero s (Some x) y moved lt what tells = begins_slot size 0 grid old.first c.first bytes out.first.was what tells
    by (suc n) s None y moved lt what tells = absurd (omega (arith, lt))
    by (suc zero) None (Some x) y moved lt what tells = absurd moved
    by (suc zero) (Some p) (Some x) None moved lt what tells = absurd moved
    by (suc zero) (Some p) (Some x) (Some y) moved lt what tells = begins_slot size 1 grid x p bytes moved.was what tells
    by (suc (suc n)) s (Some x) y moved lt what tells = absurd (omega (arith, lt))

same_begin : (a b : List ℕ) (ps : List Seen) → BeginsWith a ps → BeginsWith b ps → a ≡ b
same_begin a b [] h k = absurd h
same_begin a b (p ∷ ps) h k = sym h ∙ k

pub head_as : (b : Bool) (n : ℕ) (header bytes : List ℕ) (copies : List (List Seen)) → (IsTrue b ↔ (bytes ≡ header)) → (head_tells (copy_at copies n) ≡ true → BeginsWith bytes (copy_at copies n)) → IsHeadAs b n header copies
head_as true n header bytes copies is begins = λ t. subst (λ (x : List ℕ). BeginsWith x (copy_at copies n)) (is.0 refl) (begins t)
head_as false n header bytes copies is begins = λ t h. let e = is.1 (same_begin bytes header (copy_at copies n) (begins t) h) in cc

-- a cause does not say what was answered
pub cause_as : (A B : Type 0) (old new : ℕ → ℕ → ℕ) (cut : Bool) (fault : MarkFault) → HasCause {T = A} old new cut (Err fault) → HasCause {T = B} old new cut (Err fault)
cause_as A B old new cut (Failed copy device) cause = cause
cause_as A B old new cut PowerLost cause = cause
cause_as A B old new cut Busy cause = cause
