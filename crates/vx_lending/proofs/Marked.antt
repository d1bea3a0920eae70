-- Maps that are marked in all regions.
use Rattle.std.proofs.Common.{◌≡◌, ℕ, ◌+◌, ◌≤◌, ◌==◌, Bool, true, false, Option, Some, None, Result, Ok, Err, refl, sym, ap, ◌∙◌, subst, arith}
use Rattle.std.specs.Prelude.{◌&&◌, ◌||◌, not, nat_lt, if◌then◌else◌, OnOk}
use Rattle.std.proofs.lemmas.Bool.Decides.{nat_tests}
use Rattle.vx_base.specs.Counts.{Rose}
use Rattle.vx_mask.specs.Mask.{has}
use Rattle.vx_mask.specs.Marks.{Marks}
use Rattle.vx_marks.specs.Log.{LogSeen, KeepsLog, MarkHasCause, OnMarks}
use Rattle.vx_marks.specs.declared.marker.MarkFault.{MarkFault}
use Rattle.vx_marks.specs.declared.marker.MarkFault.TheVariants as mark
use Rattle.vx_pages.specs.declared.local_piece.LocalPiece.{Ghosts}
use Rattle.vx_pages.specs.Reading.{HasRisen}
use Rattle.vx_pages.specs.Setting.{AllShow, IsMapSet}
use Rattle.vx_maps.specs.declared.store.MapStore.{MapStore}
use Rattle.vx_maps.specs.declared.fault.StoreFault.{StoreFault}
use Rattle.vx_maps.specs.Creating.{IsBusy, IsFaultOf}
use Rattle.vx_maps.specs.Cutness.{sheets_cut, store_cut}
use Rattle.vx_maps.specs.Sheets.{sheets_seen}
use Rattle.vx_maps.specs.Stores.{store_seen}
use Rattle.vx_maps.specs.Wholes.{sheet_faults, store_faults}
use Rattle.vx_maps.proofs.Beginnings.{or_right}
use Rattle.vx_maps.proofs.Refusals.{grid_pages}
use Rattle.vx_lending.specs.Logs.{AreShown}
use Rattle.vx_lending.specs.Marking.{IsMarkRefused, IsMarkedOne, one_map}

-- ---- one map

same_map : (k map : ℕ) → (k == map) ≡ true → k ≡ map
same_map k map e = grind (arith, nat_tests)

marked_bit : (mask k map : ℕ) (c on : Bool) → has mask map ≡ true → on ≡ true → (if k == map then on else c) ≡ (c || one_map mask map k)
marked_bit mask k map c on there e = by (k == map) refl c
  where
    by : (b : Bool) → b ≡ (k == map) → (c : Bool) → (if b then on else c) ≡ (c || (b && has mask k))
    by true is true = e
    by true is false = e ∙ sym (ap (has mask) (same_map k map (sym is)) ∙ there)
    by false is true = refl
    by false is false = refl

unmarked_bit : (mask k map : ℕ) (c : Bool) → has mask map ≡ false → c ≡ (c || one_map mask map k)
unmarked_bit mask k map c none = by (k == map) refl c
  where
    by : (b : Bool) → b ≡ (k == map) → (c : Bool) → c ≡ (c || (b && has mask k))
    by true is true = refl
    by true is false = sym (ap (has mask) (same_map k map (sym is)) ∙ none)
    by false is true = refl
    by false is false = refl

not_loose : (a m : Bool) (loose : Bool) → a ≡ m → loose ≡ false → (a && not loose) ≡ m
not_loose true m loose e f = rw f e
not_loose false m loose e f = e

shown_set : (mask map : ℕ) (known : ℕ → Bool) (bits : ℕ → Bool) (old new : Option (ℕ → Marks)) → has mask map ≡ true → ((region : ℕ) → known region ≡ true → bits region ≡ true) →
    OnMarks (λ was is. (region : ℕ) → known region ≡ true → AllShow map (bits region) (was region) (is region)) old new → (maps : ℕ → Bool) → AreShown maps known old → AreShown (λ k. maps k || one_map mask map k) known new
shown_set mask map known bits None new there all told maps shown = absurd shown
shown_set mask map known bits (Some was) None there all told maps shown = absurd told
shown_set mask map known bits (Some was) (Some is) there all told maps shown =
    λ region here.
    let now = told region here in
    let before = shown region here in (
      (λ n k. now.shows n k ∙ ap (λ (b : Bool). if k == map then bits region else b) (not_loose ((was region).shows n k) (maps k) ((was region).loose k) (before.0 n k) (before.1 k)) ∙ marked_bit mask k map (maps k) (bits region) there (all region here)),
      now.loose,
    )

pub shown_as : (maps maps' known : ℕ → Bool) (told : Option (ℕ → Marks)) → ((k : ℕ) → maps k ≡ maps' k) → AreShown maps known told → AreShown maps' known told
shown_as maps maps' known None same shown = shown
shown_as maps maps' known (Some marks) same shown = λ region here. let both = shown region here in ((λ n k. both.0 n k ∙ same k), both.1)

module _ {P : Type 0} {ghosts : Ghosts P} (mask map : ℕ) (bits : ℕ → Bool) (old new : MapStore P ghosts) (all : (region : ℕ) → (store_seen ghosts.seen old).has_region region ≡ true → bits region ≡ true) where
  pub marked_one : (result : Result (Unit {0}) MarkFault) → has mask map ≡ true → KeepsLog (store_seen ghosts.seen old) (store_seen ghosts.seen new) → new.base ≡ old.base → IsMapSet map bits result (store_seen ghosts.seen old) (store_seen ghosts.seen new) → OnOk result (IsMarkedOne ghosts.seen mask map old new)
  marked_one (Err fault) there kept base set = tt
  marked_one (Ok u) there kept base set =
      record {
        kept = kept;
        base = base;
        claims = λ region k known. set.claims region k known ∙ marked_bit mask k map ((store_seen ghosts.seen old).claims region k) (bits region) there (all region known);
        shown = shown_set mask map (store_seen ghosts.seen old).has_region bits (store_seen ghosts.seen old).told (store_seen ghosts.seen new).told there all set.told;
      }

pub log_kept : (log : LogSeen) → KeepsLog log log
log_kept log = record { there = refl; has_region = refl; maps = refl; copies = refl; lent = refl; faults = λ copy device. omega arith; cut = λ h. h }

pub log_then : (x y z : LogSeen) → KeepsLog x y → KeepsLog y z → KeepsLog x z
log_then x y z a b = record {
  there = b.there ∙ a.there;
  has_region = b.has_region ∙ a.has_region;
  maps = b.maps ∙ a.maps;
  copies = b.copies ∙ a.copies;
  lent = b.lent ∙ a.lent;
  faults = λ copy device. let p = a.faults copy device in let q = b.faults copy device in omega (arith, p, q);
  cut = λ h. b.cut (a.cut h);
}

pub marked_none : {P : Type 0} {ghosts : Ghosts P} (mask map : ℕ) (store : MapStore P ghosts) → has mask map ≡ false → IsMarkedOne ghosts.seen mask map store store
marked_none {ghosts = ghosts} mask map store none =
    record {
      kept = log_kept (store_seen ghosts.seen store);
      base = refl;
      claims = λ region k known. unmarked_bit mask k map ((store_seen ghosts.seen store).claims region k) none;
      shown = λ maps shown. shown_as maps (λ k. maps k || one_map mask map k) (store_seen ghosts.seen store).has_region (store_seen ghosts.seen store).told (λ k. unmarked_bit mask k map (maps k) none) shown;
    }

-- ---- the maps so far

pub one_more : (mask k map : ℕ) → ((nat_lt k map && has mask k) || one_map mask map k) ≡ (nat_lt k (map + 1) && has mask k)
one_more mask k map = by (has mask k)
  where
    by : (b : Bool) → ((nat_lt k map && b) || (k == map && b)) ≡ (nat_lt k (map + 1) && b)
    by true = grind (arith, nat_tests)
    by false = grind (arith, nat_tests)

pub none_so_far : (mask k : ℕ) → false ≡ (nat_lt k 0 && has mask k)
none_so_far mask k = grind (arith, nat_tests)

-- ---- why it failed

rose_beside : (a b n m : ℕ) → Rose a b → n ≤ m → Rose (n + a) (m + b)
rose_beside a b n m rose le = omega (arith, rose, le)

-- the counts of the pages are among those of the store
pub store_risen : {P : Type 0} {ghosts : Ghosts P} (old new : MapStore P ghosts) (result : Result (Unit {0}) MarkFault) → new.base ≡ old.base → MarkHasCause (store_seen ghosts.seen old) (store_seen ghosts.seen new) result →
    HasRisen (store_faults ghosts.seen old) (store_faults ghosts.seen new) (store_cut ghosts.seen new) result
store_risen old new (Ok u) base cause = tt
store_risen {ghosts = ghosts} old new (Err (mark.Failed copy device)) base cause =
    let a = grid_pages old.pages.items copy device in
    let b = grid_pages new.pages.items copy device in
    let n = ap (λ base. sheet_faults copy device (sheets_seen ghosts.seen base.sheets)) base in
    let rose = cause.rose in
    omega (arith, a, b, n, rose)
store_risen {ghosts = ghosts} old new (Err mark.PowerLost) base cause = or_right (sheets_cut (sheets_seen ghosts.seen new.base.sheets)) _ cause
store_risen old new (Err mark.Busy) base cause = let none : false ≡ true = cause.1 in cc

pub not_busy : (old new : ℕ → ℕ → ℕ) (cut : Bool) (fault : MarkFault) → HasRisen {T = Unit {0}} old new cut (Err fault) → IsBusy fault → ⊥
not_busy old new cut (mark.Failed copy device) risen busy = busy
not_busy old new cut mark.PowerLost risen busy = busy
not_busy old new cut mark.Busy risen busy = risen

pub mark_refused : (fault : MarkFault) (f : StoreFault) (old mid new : ℕ → ℕ → ℕ) (cut cut' : Bool) → IsFaultOf fault f → HasRisen {T = Unit {0}} old mid cut (Err fault) → ((copy device : ℕ) → new copy device ≡ mid copy device) → (cut ≡ true → cut' ≡ true) → IsMarkRefused f old new cut'
mark_refused (mark.Failed copy device) f old mid new cut cut' is risen same power = subst (λ (x : StoreFault). IsMarkRefused x old new cut') (sym is) (subst (Rose (old copy device)) (sym (same copy device)) risen)
mark_refused mark.PowerLost f old mid new cut cut' is risen same power = subst (λ (x : StoreFault). IsMarkRefused x old new cut') (sym is) (power risen)
mark_refused mark.Busy f old mid new cut cut' is risen same power = absurd risen
