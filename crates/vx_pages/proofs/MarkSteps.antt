-- What calls on the sectors of a page are to the page as a log of marks.
use Rattle.std.proofs.Common.{◌≡◌, ◌≢◌, ◌⊎◌, inl, inr, ℕ, zero, suc, ◌/◌, ◌%◌, ◌<◌, ◌≤◌, Bool, true, false, refl, sym, ◌∙◌, ap, arith, List, [], ◌∷◌, length, Some, None, Result, Ok, Err}
use Rattle.std.specs.Prelude.{◌&&◌, ◌||◌, not, is_some, if◌then◌else◌}
use Rattle.std.proofs.lemmas.Bool.{cases_lt, eq-eqb, ne_eqb}
use Rattle.std.proofs.lemmas.Bool.Decides.{eqb_tells}
use Rattle.vx_mask.specs.Mask.{has}
use Rattle.vx_mask.specs.Marks.{Marks, AllGain, AllLose, SomeLoseLoose, MayGain, MayLose, MayTidy}
use Rattle.vx_mask.proofs.MaskLemmas.{has-zero}
use Rattle.vx_mask.proofs.Tests.{not_both, true_or_false, both_parts}
use Rattle.vx_marks.specs.Log.{KeepsLog, OnMarks, ChangesAt, IsMarkedAs, IsUnmarkedAs, MayUnclaim, IsClaimedAs, IsUnclaimedAs, ClaimsAt, MarkHasCause}
use Rattle.vx_marks.specs.declared.marker.MarkFault.{MarkFault}
use Rattle.vx_marks.specs.declared.marker.MarkFault.TheVariants.{Failed, PowerLost, Busy}
use Rattle.vx_pages.specs.Bytes.{same_place}
use Rattle.vx_pages.specs.Firm.{FirmsAll}
use Rattle.vx_pages.specs.Sector.{SectorSeen, KeepsSector, Goes, HasCause, SameBits, Swept, MaySweep, NoneLoose, BitOpened, BitSet, ShownSet, BitLeft, ShownLeft, tells, shown, is_loose, is_sure}
use Rattle.vx_pages.specs.Page.{no_sector, sector_at, faults_in, cut_in, all_tell, EachSector, asked, has_region, marks_of, page_log, AllSet, AllLeft, IsFirmed, IsMarkedIn, IsUnmarkedIn}
use Rattle.vx_pages.proofs.Bits.{empty_bit}
use Rattle.vx_pages.proofs.Telling.{each_tells}

-- ---- what the page keeps

abbrev Kept : List SectorSeen → List SectorSeen → Type 0
Kept xs ys = EachSector (λ map. KeepsSector) xs ys

pub kept_of : (f : ℕ → ℕ → Bool → Bool → Bool → Bool → Type 0) (u : ℕ → ℕ → Bool → Bool → Bool → Type 0) (xs ys : List SectorSeen) → EachSector (λ map. Goes (f map) (u map)) xs ys → Kept xs ys
kept_of f u xs ys h = record { size = h.size; each = λ map lt. (h.each map lt).kept }

tail_kept : (x y : SectorSeen) (xs ys : List SectorSeen) → Kept (x ∷ xs) (y ∷ ys) → Kept xs ys
tail_kept x y xs ys h = let e = h.size in record { size = omega (arith, e); each = λ map lt. h.each (suc map) (omega (arith, lt)) }

head_kept : (x y : SectorSeen) (xs ys : List SectorSeen) → Kept (x ∷ xs) (y ∷ ys) → KeepsSector x y
head_kept x y xs ys h = h.each 0 (omega arith)

faults_kept : (xs ys : List SectorSeen) → Kept xs ys → (copy device : ℕ) → faults_in xs copy device ≤ faults_in ys copy device
faults_kept [] ys h copy device = omega arith
faults_kept (x ∷ xs) [] h copy device = let e = h.size in absurd (omega (arith, e))
faults_kept (x ∷ xs) (y ∷ ys) h copy device =
    let e = (head_kept x y xs ys h).faults copy device in let f = faults_kept xs ys (tail_kept x y xs ys h) copy device in omega (arith, e, f)

cut_kept : (xs ys : List SectorSeen) → Kept xs ys → cut_in xs ≡ true → cut_in ys ≡ true
cut_kept [] ys h is = cc
cut_kept (x ∷ xs) [] h is = let e = h.size in absurd (omega (arith, e))
cut_kept (x ∷ xs) (y ∷ ys) h is = later _ _ _ _ (head_kept x y xs ys h).cut (cut_kept xs ys (tail_kept x y xs ys h)) is
  where
    later : (a b a' b' : Bool) → (a ≡ true → a' ≡ true) → (b ≡ true → b' ≡ true) → (a || b) ≡ true → (a' || b') ≡ true
    later true b a' b' first last is = rw (first refl) refl
    later false b true b' first last is = refl
    later false b false b' first last is = last is

pub tells_kept : (xs ys : List SectorSeen) → Kept xs ys → all_tell ys ≡ all_tell xs
tells_kept [] [] h = refl
tells_kept [] (y ∷ ys) h = let e = h.size in absurd (omega (arith, e))
tells_kept (x ∷ xs) [] h = let e = h.size in absurd (omega (arith, e))
tells_kept (x ∷ xs) (y ∷ ys) h =
    ap (λ (b : Bool). b && all_tell ys) (head_kept x y xs ys h).tells ∙ ap (λ (b : Bool). tells x.copies && b) (tells_kept xs ys (tail_kept x y xs ys h))

first_kept : (xs ys : List SectorSeen) → Kept xs ys → is_some (sector_at ys 0).copies.second ≡ is_some (sector_at xs 0).copies.second
first_kept [] [] h = refl
first_kept [] (y ∷ ys) h = let e = h.size in absurd (omega (arith, e))
first_kept (x ∷ xs) [] h = let e = h.size in absurd (omega (arith, e))
first_kept (x ∷ xs) (y ∷ ys) h = (head_kept x y xs ys h).pair

pub page_kept : (index regions : ℕ) (xs ys : List SectorSeen) → Kept xs ys → KeepsLog (page_log index regions xs) (page_log index regions ys)
page_kept index regions xs ys h =
    record {
      there = refl;
      has_region = refl;
      maps = refl;
      copies = ap (λ (b : Bool). let n : ℕ = if b then 2 else 1 in n) (first_kept xs ys h);
      lent = refl;
      faults = faults_kept xs ys h;
      cut = cut_kept xs ys h;
    }

pub page_cause : (index regions : ℕ) (xs ys : List SectorSeen) (result : Result (Unit {0}) MarkFault) → HasCause (faults_in xs) (faults_in ys) (cut_in ys) result → MarkHasCause (page_log index regions xs) (page_log index regions ys) result
page_cause index regions xs ys (Ok u) cause = cause
page_cause index regions xs ys (Err (Failed copy device)) cause = record { rose = cause.rose; others = cause.others }
page_cause index regions xs ys (Err PowerLost) cause = cause
page_cause index regions xs ys (Err Busy) cause = absurd cause

-- ---- each map, also past the last

tells_at : (xs : List SectorSeen) (map : ℕ) → map < length xs → all_tell xs ≡ true → tells (sector_at xs map).copies ≡ true
tells_at [] map lt t = absurd (omega arith)
tells_at (x ∷ xs) zero lt t = (both_parts _ _ t).0
tells_at (x ∷ xs) (suc map) lt t = tells_at xs map (omega arith) (both_parts _ _ t).1

pub beyond : (xs : List SectorSeen) (map : ℕ) → length xs ≤ map → sector_at xs map ≡ no_sector
beyond [] map le = refl
beyond (x ∷ xs) zero le = absurd (omega arith)
beyond (x ∷ xs) (suc map) le = beyond xs map (omega arith)

nothing_shown : (n region : ℕ) → shown no_sector.copies n region ≡ false
nothing_shown zero region = empty_bit region
nothing_shown (suc n) region = empty_bit region

module _ (f : ℕ → ℕ → Bool → Bool → Bool → Bool → Type 0) (u : ℕ → ℕ → Bool → Bool → Bool → Type 0) (xs ys : List SectorSeen) (size : length xs ≡ 32) (goes : EachSector (λ map. Goes (f map) (u map)) xs ys) where
  pub bits_at : ((map region : ℕ) → 32 ≤ map → f map region false false false false) → (map region : ℕ) →
      f map region (is_sure (sector_at xs map) region) (is_loose (sector_at xs map) region) (is_sure (sector_at ys map) region) (is_loose (sector_at ys map) region)
  bits_at none map region =
      elim (cases_lt map 32) [
        | inl lt ↦ (goes.each map (omega (arith, size))).bits region
        | inr le ↦
            let e = goes.size in
            rw (beyond xs map (omega (arith, size)), beyond ys map (omega (arith, size, e)), empty_bit region) (none map region le)
      ]

  pub shows_at : all_tell xs ≡ true → ((map region : ℕ) → 32 ≤ map → u map region false false false) → (map n region : ℕ) →
      u map region (shown (sector_at xs map).copies n region) (is_loose (sector_at xs map) region) (shown (sector_at ys map).copies n region)
  shows_at t none map n region =
      elim (cases_lt map 32) [
        | inl lt ↦ (goes.each map (omega (arith, size))).shows n (each_tells _ (tells_at xs map (omega (arith, size)) t) n) region
        | inr le ↦
            let e = goes.size in
            rw (beyond xs map (omega (arith, size)), beyond ys map (omega (arith, size, e)), nothing_shown n region, empty_bit region) (none map region le)
      ]

-- ---- the bit that is asked for, by the region

pub asked_here : (bits region map : ℕ) → asked bits region map region ≡ has bits map
asked_here bits region map = ap (λ (b : Bool). has bits map && b) (eq-eqb (region % 4096) (region % 4096) refl) ∙ and_true _
  where
    and_true : (b : Bool) → (b && true) ≡ b
    and_true true = refl
    and_true false = refl

page_index : (index regions region : ℕ) → has_region index regions region ≡ true → region / 4096 ≡ index
page_index index regions region h =
    elim (eqb_tells (region / 4096) index) [ inl same ↦ same.1 | inr other ↦ not_both (both_parts _ _ h).0 other.0 ]

one_region : (index region other : ℕ) → region / 4096 ≡ index → other / 4096 ≡ index → region % 4096 ≡ other % 4096 → other ≡ region
one_region index region other a b c = omega arith

pub asked_other : (index regions bits region map other : ℕ) → has_region index regions region ≡ true → other ≢ region → has_region index regions other ≡ true → asked bits region map other ≡ false
asked_other index regions bits region map other h apart h' =
    ap (λ (b : Bool). has bits map && b)
    (ne_eqb (region % 4096) (other % 4096) (λ same. apart (one_region index region other (page_index index regions region h) (page_index index regions other h') same)))
    ∙ and_false _
  where
    and_false : (b : Bool) → (b && false) ≡ false
    and_false true = refl
    and_false false = refl

pub asked_beyond : (bits region map other : ℕ) → ((k : ℕ) → has bits k ≡ true → k < 32) → 32 ≤ map → asked bits region map other ≡ false
asked_beyond bits region map other maps le =
    elim (true_or_false (has bits map)) [ inl there ↦ let lt = maps map there in absurd (omega (arith, lt)) | inr out ↦ ap (λ (b : Bool). b && same_place region other) out ]

-- ---- one mark of one region: whether the page has it (h), whether it is asked for (a), in the mask (b), shown (x), loose (l), sure (s)

not_true : (x : Bool) → (x && not true) ≡ false
not_true true = refl
not_true false = refl

not_false : (x : Bool) → (x && not false) ≡ x
not_false true = refl
not_false false = refl

or_true : (x : Bool) → (x || true) ≡ true
or_true true = refl
or_true false = refl

or_false : (x : Bool) → (x || false) ≡ x
or_false true = refl
or_false false = refl

gains : (h a b x l x' : Bool) → h ≡ true → a ≡ b → x' ≡ (if a then true else (x && not l)) → (h && x') ≡ (((h && x) && not (h && l)) || b)
gains false a b x l x' here same is = cc
gains true true b x l x' here same is = is ∙ sym (ap (λ (c : Bool). (x && not l) || c) (sym same) ∙ or_true _)
gains true false b x l x' here same is = is ∙ sym (ap (λ (c : Bool). (x && not l) || c) (sym same) ∙ or_false _)

loses : (h a b x l x' : Bool) → h ≡ true → a ≡ b → x' ≡ (if a then false else (x && not l)) → (h && x') ≡ (((h && x) && not (h && l)) && not b)
loses false a b x l x' here same is = cc
loses true true b x l x' here same is = is ∙ sym (ap (λ (c : Bool). (x && not l) && not c) (sym same) ∙ not_true _)
loses true false b x l x' here same is = is ∙ sym (ap (λ (c : Bool). (x && not l) && not c) (sym same) ∙ not_false _)

-- elsewhere what was loose goes
goes_away : (h a on z x l x' : Bool) → z ≡ false → (h ≡ true → a ≡ false) → x' ≡ (if a then on else (x && not l)) → (h && x') ≡ (((h && x) && not (h && l)) && not z)
goes_away false a on z x l x' none out is = refl
goes_away true true on z x l x' none out is = not_both refl (out refl)
goes_away true false on z x l x' none out is = is ∙ sym (ap (λ (c : Bool). (x && not l) && not c) none ∙ not_false _)

pub guarded : (h l : Bool) → (h ≡ true → l ≡ false) → (h && l) ≡ false
guarded true l out = out refl
guarded false l out = refl

guarded_same : (h x y : Bool) → x ≡ y → (h && x) ≡ (h && y)
guarded_same h x y same = ap (λ (b : Bool). h && b) same

may_go : (h x l x' : Bool) → (x' ≡ x) ⊎ ((l ≡ true) × (x' ≡ false)) → ((h && x') ≡ (h && x)) ⊎ (((h && l) ≡ true) × ((h && x') ≡ false))
may_go true x l x' is = is
may_go false x l x' is = inl refl

also_loose : (h a b l l' : Bool) → (h ≡ true → a ≡ b) → (h ≡ false → b ≡ false) → l' ≡ (l || a) → (h && l') ≡ ((h && l) || b)
also_loose true a b l l' same out is = is ∙ ap (λ (c : Bool). l || c) (same refl)
also_loose false a b l l' same out is = sym (out refl)

left_open : (h a b on x l x' : Bool) → h ≡ true → a ≡ b → (x' ≡ (x && not l)) ⊎ ((a ≡ true) × (x' ≡ on)) → ((h && x') ≡ ((h && x) && not (h && l))) ⊎ ((b ≡ true) × ((h && x') ≡ on))
left_open false a b on x l x' here same is = cc
left_open true a b on x l x' here same (inl is) = inl is
left_open true a b on x l x' here same (inr is) = inr (sym same ∙ is.0, is.1)

left_elsewhere : (a on x l x' : Bool) → a ≡ false → (x' ≡ (x && not l)) ⊎ ((a ≡ true) × (x' ≡ on)) → x' ≡ (if a then on else (x && not l))
left_elsewhere true on x l x' out is = not_both refl out
left_elsewhere false on x l x' out (inl is) = is
left_elsewhere false on x l x' out (inr is) = not_both is.0 refl

left_away : (h a on z x l x' : Bool) → z ≡ false → (h ≡ true → a ≡ false) → (x' ≡ (x && not l)) ⊎ ((a ≡ true) × (x' ≡ on)) → (h && x') ≡ (((h && x) && not (h && l)) && not z)
left_away false a on z x l x' none out is = refl
left_away true a on z x l x' none out is = goes_away true a on z x l x' none out (left_elsewhere a on x l x' (out refl) is)

with_bits : (h a b s s' : Bool) → h ≡ true → a ≡ b → s' ≡ (if a then true else s) → (h && s') ≡ ((h && s) || b)
with_bits false a b s s' here same is = cc
with_bits true true b s s' here same is = is ∙ sym (ap (λ (c : Bool). s || c) (sym same) ∙ or_true s)
with_bits true false b s s' here same is = is ∙ sym (ap (λ (c : Bool). s || c) (sym same) ∙ or_false s)

without_bits : (h a b s s' : Bool) → a ≡ b → s' ≡ (s && not a) → (h && s') ≡ ((h && s) && not b)
without_bits true a b s s' same is = is ∙ ap (λ (c : Bool). s && not c) same
without_bits false a b s s' same is = refl

unset_bits : (h a b s s' : Bool) → a ≡ b → s' ≡ (if a then false else s) → (h && s') ≡ ((h && s) && not b)
unset_bits h true b s s' same is = without_bits h true b s s' same (is ∙ sym (not_true s))
unset_bits h false b s s' same is = without_bits h false b s s' same (is ∙ sym (not_false s))

claims_same : (h a on s s' : Bool) → (h ≡ true → a ≡ false) → s' ≡ (if a then on else s) → (h && s') ≡ (h && s)
claims_same true true on s s' out is = not_both refl (out refl)
claims_same true false on s s' out is = is
claims_same false a on s s' out is = refl

kept_claims : (h a s s' : Bool) → (h ≡ true → a ≡ false) → s' ≡ (s && not a) → (h && s') ≡ (h && s)
kept_claims true a s s' out is = is ∙ ap (λ (c : Bool). s && not c) (out refl) ∙ not_false s
kept_claims false a s s' out is = refl

less_claims : (h a s s' : Bool) → s' ≡ (s && not a) → (h && s') ≡ true → (h && s) ≡ true
less_claims true a true s' is there = refl
less_claims true a false s' is there = not_both there is
less_claims false a s s' is there = there

-- ---- the marks of all regions

pub on_marks : (fact : (ℕ → Marks) → (ℕ → Marks) → Type 0) (t t' : Bool) (old new : ℕ → Marks) → t' ≡ t → (t ≡ true → fact old new) → OnMarks fact (if t then Some old else None) (if t' then Some new else None)
on_marks fact true true old new same h = h refl
on_marks fact true false old new same h = cc
on_marks fact false t' old new same h = tt

module _ (index regions region bits : ℕ) (xs ys : List SectorSeen) (size : length xs ≡ 32) (known : has_region index regions region ≡ true) (maps : (k : ℕ) → has bits k ≡ true → k < 32) where
  out : (map other : ℕ) → other ≢ region → has_region index regions other ≡ true → asked bits region map other ≡ false
  out map other apart inside = asked_other index regions bits region map other known apart inside

  -- at Ok of both
  module _ (on : Bool) (all : AllSet bits region on xs ys) where
    set_bits : (map other : ℕ) → BitSet (asked bits region map) on other (is_sure (sector_at xs map) other) (is_loose (sector_at xs map) other) (is_sure (sector_at ys map) other) (is_loose (sector_at ys map) other)
    set_bits = bits_at (λ map. BitSet (asked bits region map) on) (λ map. ShownSet (asked bits region map) on) xs ys size all (λ map other le. (rw (asked_beyond bits region map other maps le) refl, refl))

    set_shows : all_tell xs ≡ true → (map n other : ℕ) → ShownSet (asked bits region map) on other (shown (sector_at xs map).copies n other) (is_loose (sector_at xs map) other) (shown (sector_at ys map).copies n other)
    set_shows t = shows_at (λ map. BitSet (asked bits region map) on) (λ map. ShownSet (asked bits region map) on) xs ys size all t (λ map other le. rw (asked_beyond bits region map other maps le) refl)

    set_elsewhere : all_tell xs ≡ true → (other : ℕ) → other ≢ region → MayTidy (marks_of index regions xs other) (marks_of index regions ys other)
    set_elsewhere t other apart =
        inr (record {
          shows = λ n k. goes_away (has_region index regions other) (asked bits region k other) on (has 0 k) _ _ _ (has-zero k) (out k other apart) (set_shows t k n other);
          loose = λ k. guarded _ _ (λ inside. (set_bits k other).1);
        })

  all_gain : AllSet bits region true xs ys → all_tell xs ≡ true → ChangesAt region (AllGain bits) (marks_of index regions xs) (marks_of index regions ys)
  all_gain all t =
      record {
        here = record {
          shows = λ n k. gains (has_region index regions region) (asked bits region k region) (has bits k) _ _ _ known (asked_here bits region k) (set_shows true all t k n region);
          loose = λ k. guarded _ _ (λ inside. (set_bits true all k region).1);
        };
        elsewhere = set_elsewhere true all t;
      }

  all_lose : AllSet bits region false xs ys → all_tell xs ≡ true → ChangesAt region (AllLose bits) (marks_of index regions xs) (marks_of index regions ys)
  all_lose all t =
      record {
        here = record {
          shows = λ n k. loses (has_region index regions region) (asked bits region k region) (has bits k) _ _ _ known (asked_here bits region k) (set_shows false all t k n region);
          loose = λ k. guarded _ _ (λ inside. (set_bits false all k region).1);
        };
        elsewhere = set_elsewhere false all t;
      }

  -- where the call failed later
  module _ (on : Bool) (all : AllLeft bits region on xs ys) where
    left_bits : (map other : ℕ) → BitLeft (asked bits region map) other (is_sure (sector_at xs map) other) (is_loose (sector_at xs map) other) (is_sure (sector_at ys map) other) (is_loose (sector_at ys map) other)
    left_bits = bits_at (λ map. BitLeft (asked bits region map)) (λ map. ShownLeft (asked bits region map) on) xs ys size all (λ map other le. (refl, sym (asked_beyond bits region map other maps le)))

    left_shows : all_tell xs ≡ true → (map n other : ℕ) → ShownLeft (asked bits region map) on other (shown (sector_at xs map).copies n other) (is_loose (sector_at xs map) other) (shown (sector_at ys map).copies n other)
    left_shows t = shows_at (λ map. BitLeft (asked bits region map)) (λ map. ShownLeft (asked bits region map) on) xs ys size all t (λ map other le. inl refl)

    left_here : all_tell xs ≡ true → (n k : ℕ) → (
        ((has_region index regions region && shown (sector_at ys k).copies n region) ≡ ((has_region index regions region && shown (sector_at xs k).copies n region) && not (has_region index regions region && is_loose (sector_at xs k) region)))
        ⊎ ((has bits k ≡ true) × ((has_region index regions region && shown (sector_at ys k).copies n region) ≡ on))
        )
    left_here t n k = left_open (has_region index regions region) (asked bits region k region) (has bits k) on _ _ _ known (asked_here bits region k) (left_shows t k n region)

    left_loose : (k : ℕ) → (has_region index regions region && is_loose (sector_at ys k) region) ≡ has bits k
    left_loose k = ap (λ (b : Bool). b && is_loose (sector_at ys k) region) known ∙ (left_bits k region).1 ∙ asked_here bits region k

    left_tidy : all_tell xs ≡ true → (other : ℕ) → other ≢ region → MayTidy (marks_of index regions xs other) (marks_of index regions ys other)
    left_tidy t other apart =
        inr (record {
          shows = λ n k. left_away (has_region index regions other) (asked bits region k other) on (has 0 k) _ _ _ (has-zero k) (out k other apart) (left_shows t k n other);
          loose = λ k. guarded _ _ (λ inside. (left_bits k other).1 ∙ out k other apart inside);
        })

  -- where what was loose could not be written again, and these bits are left open, or none
  module _ (also : ℕ) (all : EachSector (λ map. Goes (BitOpened (asked also region map)) MaySweep) xs ys) (few : (k : ℕ) → has also k ≡ true → k < 32) where
    opened_bits : (map other : ℕ) → BitOpened (asked also region map) other (is_sure (sector_at xs map) other) (is_loose (sector_at xs map) other) (is_sure (sector_at ys map) other) (is_loose (sector_at ys map) other)
    opened_bits = bits_at (λ map. BitOpened (asked also region map)) (λ map. MaySweep) xs ys size all (λ map other le. (refl, sym (asked_beyond also region map other few le)))

    swept_shows : all_tell xs ≡ true → (map n other : ℕ) → MaySweep other (shown (sector_at xs map).copies n other) (is_loose (sector_at xs map) other) (shown (sector_at ys map).copies n other)
    swept_shows t = shows_at (λ map. BitOpened (asked also region map)) (λ map. MaySweep) xs ys size all t (λ map other le. inl refl)

    opened_here : all_tell xs ≡ true → SomeLoseLoose also (marks_of index regions xs region) (marks_of index regions ys region)
    opened_here t =
        record {
          shows = λ n k. may_go _ _ _ _ (swept_shows t k n region);
          loose = λ k. also_loose _ (asked also region k region) (has also k) _ _ (λ inside. asked_here also region k) (λ no. not_both known no) (opened_bits k region).1;
        }

    opened_elsewhere : all_tell xs ≡ true → (other : ℕ) → other ≢ region → MayTidy (marks_of index regions xs other) (marks_of index regions ys other)
    opened_elsewhere t other apart =
        inl (record {
          shows = λ n k. may_go _ _ _ _ (swept_shows t k n other);
          loose = λ k.
              also_loose _ (asked also region k other) (has 0 k) _ _ (λ inside. asked_other index regions also region k other known apart inside ∙ sym (has-zero k)) (λ no. has-zero k) (opened_bits k other).1;
        })

none_asked : (region map other : ℕ) → asked 0 region map other ≡ false
none_asked region map other = ap (λ (b : Bool). b && same_place region other) (has-zero map)

as_opened : (region map : ℕ) (x y : SectorSeen) → Goes SameBits MaySweep x y → Goes (BitOpened (asked 0 region map)) MaySweep x y
as_opened region map x y h =
    record {
      kept = h.kept;
      bits = λ other.
          let e = none_asked region map other in
          ((h.bits other).0 ∙ sym (ap (λ (b : Bool). is_sure x other && not b) e ∙ not_false _), (h.bits other).1 ∙ sym (ap (λ (b : Bool). is_loose x other || b) e ∙ or_false _));
      shows = h.shows;
    }

all_opened : (region : ℕ) (xs ys : List SectorSeen) → EachSector (λ map. Goes SameBits MaySweep) xs ys → EachSector (λ map. Goes (BitOpened (asked 0 region map)) MaySweep) xs ys
all_opened region xs ys h = record { size = h.size; each = λ m lt. as_opened region m _ _ (h.each m lt) }

no_bits : (k : ℕ) → has 0 k ≡ true → k < 32
no_bits k there = not_both there (has-zero k)

module _ (index regions region bits : ℕ) (xs ys : List SectorSeen) (size : length xs ≡ 32) (known : has_region index regions region ≡ true) (maps : (k : ℕ) → has bits k ≡ true → k < 32) where
  fails_marking : EachSector (λ map. Goes SameBits MaySweep) xs ys ⊎ AllLeft bits region true xs ys → all_tell xs ≡ true → ChangesAt region (MayGain bits) (marks_of index regions xs) (marks_of index regions ys)
  fails_marking (inl all) t =
      record {
        here = inl (opened_here index regions region 0 xs ys size known no_bits 0 (all_opened region xs ys all) no_bits t);
        elsewhere = opened_elsewhere index regions region 0 xs ys size known no_bits 0 (all_opened region xs ys all) no_bits t;
      }
  fails_marking (inr all) t =
      record {
        here = inr (record { shows = λ n k. left_here index regions region bits xs ys size known maps true all t n k; loose = λ k. left_loose index regions region bits xs ys size known maps true all k });
        elsewhere = left_tidy index regions region bits xs ys size known maps true all t;
      }

  fails_unmarking : EachSector (λ map. Goes (BitOpened (asked bits region map)) MaySweep) xs ys ⊎ AllLeft bits region false xs ys → all_tell xs ≡ true → ChangesAt region (MayLose bits) (marks_of index regions xs) (marks_of index regions ys)
  fails_unmarking (inl all) t =
      record {
        here = inl (opened_here index regions region bits xs ys size known maps bits all maps t);
        elsewhere = opened_elsewhere index regions region bits xs ys size known maps bits all maps t;
      }
  fails_unmarking (inr all) t =
      record {
        here = inr (record { shows = λ n k. left_here index regions region bits xs ys size known maps false all t n k; loose = λ k. left_loose index regions region bits xs ys size known maps false all k });
        elsewhere = left_tidy index regions region bits xs ys size known maps false all t;
      }

  -- ---- what is kept

  kept_set : (on : Bool) → AllSet bits region on xs ys → Kept xs ys
  kept_set on all = kept_of (λ map. BitSet (asked bits region map) on) (λ map. ShownSet (asked bits region map) on) xs ys all

  kept_left : (on : Bool) → AllLeft bits region on xs ys → Kept xs ys
  kept_left on all = kept_of (λ map. BitLeft (asked bits region map)) (λ map. ShownLeft (asked bits region map) on) xs ys all

  kept_marked : (result : Result (Unit {0}) MarkFault) → IsMarkedIn bits region result xs ys → Kept xs ys
  kept_marked (Ok u) all = kept_set true all
  kept_marked (Err fault) (inl all) = kept_of (λ map. SameBits) (λ map. MaySweep) xs ys all
  kept_marked (Err fault) (inr all) = kept_left true all

  kept_unmarked : (result : Result (Unit {0}) MarkFault) → IsUnmarkedIn bits region result xs ys → Kept xs ys
  kept_unmarked (Ok u) all = kept_set false all
  kept_unmarked (Err fault) (inl all) = kept_of (λ map. BitOpened (asked bits region map)) (λ map. MaySweep) xs ys all
  kept_unmarked (Err fault) (inr all) = kept_left false all

  pub mark_kept : (result : Result (Unit {0}) MarkFault) → IsMarkedIn bits region result xs ys → KeepsLog (page_log index regions xs) (page_log index regions ys)
  mark_kept result all = page_kept index regions xs ys (kept_marked result all)

  pub unmark_kept : (result : Result (Unit {0}) MarkFault) → IsUnmarkedIn bits region result xs ys → KeepsLog (page_log index regions xs) (page_log index regions ys)
  unmark_kept result all = page_kept index regions xs ys (kept_unmarked result all)

  -- ---- the marks that are told

  marked_as : (result : Result (Unit {0}) MarkFault) → HasCause (faults_in xs) (faults_in ys) (cut_in ys) result → IsMarkedIn bits region result xs ys → all_tell xs ≡ true → ChangesAt region (IsMarkedAs bits result) (marks_of index regions xs) (marks_of index regions ys)
  marked_as (Ok u) cause all t = all_gain index regions region bits xs ys size known maps all t
  marked_as (Err (Failed copy device)) cause all t = fails_marking all t
  marked_as (Err PowerLost) cause all t = fails_marking all t
  marked_as (Err Busy) cause all t = absurd cause

  unmarked_as : (result : Result (Unit {0}) MarkFault) → HasCause (faults_in xs) (faults_in ys) (cut_in ys) result → IsUnmarkedIn bits region result xs ys → all_tell xs ≡ true → ChangesAt region (IsUnmarkedAs bits result) (marks_of index regions xs) (marks_of index regions ys)
  unmarked_as (Ok u) cause all t = all_lose index regions region bits xs ys size known maps all t
  unmarked_as (Err (Failed copy device)) cause all t = fails_unmarking all t
  unmarked_as (Err PowerLost) cause all t = fails_unmarking all t
  unmarked_as (Err Busy) cause all t = absurd cause

  pub mark_told : (result : Result (Unit {0}) MarkFault) → HasCause (faults_in xs) (faults_in ys) (cut_in ys) result → IsMarkedIn bits region result xs ys →
      OnMarks (ChangesAt region (IsMarkedAs bits result)) (page_log index regions xs).told (page_log index regions ys).told
  mark_told result cause all = on_marks (ChangesAt region (IsMarkedAs bits result)) _ _ _ _ (tells_kept xs ys (kept_marked result all)) (marked_as result cause all)

  pub unmark_told : (result : Result (Unit {0}) MarkFault) → HasCause (faults_in xs) (faults_in ys) (cut_in ys) result → IsUnmarkedIn bits region result xs ys →
      OnMarks (ChangesAt region (IsUnmarkedAs bits result)) (page_log index regions xs).told (page_log index regions ys).told
  unmark_told result cause all = on_marks (ChangesAt region (IsUnmarkedAs bits result)) _ _ _ _ (tells_kept xs ys (kept_unmarked result all)) (unmarked_as result cause all)

  -- ---- what is claimed

  abbrev claims : List SectorSeen → ℕ → ℕ → Bool
  claims zs other map = has_region index regions other && is_sure (sector_at zs map) other

  less_here : (k : ℕ) → is_sure (sector_at ys k) region ≡ (is_sure (sector_at xs k) region && not (asked bits region k region)) → claims ys region k ≡ (claims xs region k && not (has bits k))
  less_here k is = without_bits (has_region index regions region) (asked bits region k region) (has bits k) _ _ (asked_here bits region k) is

  less_elsewhere : (other k : ℕ) → other ≢ region → is_sure (sector_at ys k) other ≡ (is_sure (sector_at xs k) other && not (asked bits region k other)) → claims ys other k ≡ claims xs other k
  less_elsewhere other k apart is = kept_claims _ (asked bits region k other) _ _ (out index regions region bits xs ys size known maps k other apart) is

  unclaims : ((k other : ℕ) → is_sure (sector_at ys k) other ≡ (is_sure (sector_at xs k) other && not (asked bits region k other))) → ClaimsAt region (MayUnclaim bits) (claims xs) (claims ys)
  unclaims is =
      record {
        here = record {
          others = λ k none. less_here k (is k region) ∙ ap (λ (b : Bool). claims xs region k && not b) none ∙ not_false _;
          fewer = λ k there. less_claims _ (asked bits region k region) _ _ (is k region) there;
        };
        elsewhere = λ other k apart. less_elsewhere other k apart (is k other);
      }

  same_claims : ((k other : ℕ) → is_sure (sector_at ys k) other ≡ is_sure (sector_at xs k) other) → ClaimsAt region (MayUnclaim bits) (claims xs) (claims ys)
  same_claims is =
      record {
        here = record { others = λ k none. guarded_same _ _ _ (is k region); fewer = λ k there. sym (guarded_same _ _ _ (is k region)) ∙ there };
        elsewhere = λ other k apart. guarded_same _ _ _ (is k other);
      }

  mark_failed : EachSector (λ map. Goes SameBits MaySweep) xs ys ⊎ AllLeft bits region true xs ys → ClaimsAt region (MayUnclaim bits) (claims xs) (claims ys)
  mark_failed (inl all) = same_claims (λ k other. (bits_at (λ map. SameBits) (λ map. MaySweep) xs ys size all (λ map r le. (refl, refl)) k other).0)
  mark_failed (inr all) = unclaims (λ k other. (left_bits index regions region bits xs ys size known maps true all k other).0)

  pub mark_claims : (result : Result (Unit {0}) MarkFault) → HasCause (faults_in xs) (faults_in ys) (cut_in ys) result → IsMarkedIn bits region result xs ys → ClaimsAt region (IsClaimedAs bits result) (claims xs) (claims ys)
  mark_claims (Ok u) cause all =
      record {
        here = λ k. with_bits (has_region index regions region) (asked bits region k region) (has bits k) _ _ known (asked_here bits region k) (set_bits index regions region bits xs ys size known maps true all k region).0;
        elsewhere = λ other k apart. claims_same _ (asked bits region k other) true _ _ (out index regions region bits xs ys size known maps k other apart) (set_bits index regions region bits xs ys size known maps true all k other).0;
      }
  mark_claims (Err (Failed copy device)) cause all = mark_failed all
  mark_claims (Err PowerLost) cause all = mark_failed all
  mark_claims (Err Busy) cause all = absurd cause

  all_less : ((k other : ℕ) → is_sure (sector_at ys k) other ≡ (is_sure (sector_at xs k) other && not (asked bits region k other))) →
      ClaimsAt region (λ old new. (k : ℕ) → new k ≡ (old k && not (has bits k))) (claims xs) (claims ys)
  all_less is = record { here = λ k. less_here k (is k region); elsewhere = λ other k apart. less_elsewhere other k apart (is k other) }

  unmark_failed : EachSector (λ map. Goes (BitOpened (asked bits region map)) MaySweep) xs ys ⊎ AllLeft bits region false xs ys → ClaimsAt region (λ old new. (k : ℕ) → new k ≡ (old k && not (has bits k))) (claims xs) (claims ys)
  unmark_failed (inl all) = all_less (λ k other. (opened_bits index regions region bits xs ys size known maps bits all maps k other).0)
  unmark_failed (inr all) = all_less (λ k other. (left_bits index regions region bits xs ys size known maps false all k other).0)

  unset : (a s s' : Bool) → s' ≡ (if a then false else s) → s' ≡ (s && not a)
  unset true s s' is = is ∙ sym (not_true s)
  unset false s s' is = is ∙ sym (not_false s)

  pub unmark_claims : (result : Result (Unit {0}) MarkFault) → HasCause (faults_in xs) (faults_in ys) (cut_in ys) result → IsUnmarkedIn bits region result xs ys → ClaimsAt region (IsUnclaimedAs bits result) (claims xs) (claims ys)
  unmark_claims (Ok u) cause all = all_less (λ k other. unset _ _ _ (set_bits index regions region bits xs ys size known maps false all k other).0)
  unmark_claims (Err (Failed copy device)) cause all = unmark_failed all
  unmark_claims (Err PowerLost) cause all = unmark_failed all
  unmark_claims (Err Busy) cause all = absurd cause

-- ---- what is loose is written again

module _ (index regions : ℕ) (xs ys : List SectorSeen) (size : length xs ≡ 32) where
  kept_firmed : (result : Result (Unit {0}) MarkFault) → IsFirmed result xs ys → Kept xs ys
  kept_firmed (Ok u) all = kept_of (λ map. NoneLoose) (λ map. Swept) xs ys all
  kept_firmed (Err fault) all = kept_of (λ map. SameBits) (λ map. MaySweep) xs ys all

  pub firm_kept : (result : Result (Unit {0}) MarkFault) → IsFirmed result xs ys → KeepsLog (page_log index regions xs) (page_log index regions ys)
  firm_kept result all = page_kept index regions xs ys (kept_firmed result all)

  pub firms_all : (result : Result (Unit {0}) MarkFault) → IsFirmed result xs ys → all_tell xs ≡ true → FirmsAll result (marks_of index regions xs) (marks_of index regions ys)
  firms_all (Ok u) all t =
      λ other. record {
        shows = λ n k.
            goes_away (has_region index regions other) false true (has 0 k) _ _ _ (has-zero k) (λ inside. refl)
            (shows_at (λ map. NoneLoose) (λ map. Swept) xs ys size all t (λ map r le. refl) k n other);
        loose = λ k. guarded _ _ (λ inside. (bits_at (λ map. NoneLoose) (λ map. Swept) xs ys size all (λ map r le. (refl, refl)) k other).1);
      }
  firms_all (Err fault) all t =
      λ other. record {
        shows = λ n k. may_go _ _ _ _ (shows_at (λ map. SameBits) (λ map. MaySweep) xs ys size all t (λ map r le. inl refl) k n other);
        loose = λ k.
            guarded_same _ _ _ (bits_at (λ map. SameBits) (λ map. MaySweep) xs ys size all (λ map r le. (refl, refl)) k other).1
            ∙ sym (ap (λ (b : Bool). (has_region index regions other && is_loose (sector_at xs k) other) || b) (has-zero k) ∙ or_false _);
      }

  pub firm_told : (result : Result (Unit {0}) MarkFault) → IsFirmed result xs ys → OnMarks (FirmsAll result) (page_log index regions xs).told (page_log index regions ys).told
  firm_told result all = on_marks (FirmsAll result) _ _ _ _ (tells_kept xs ys (kept_firmed result all)) (firms_all result all)

  pub firm_claims : (result : Result (Unit {0}) MarkFault) → IsFirmed result xs ys → (other k : ℕ) → (page_log index regions ys).claims other k ≡ (page_log index regions xs).claims other k
  firm_claims (Ok u) all other k = guarded_same _ _ _ (bits_at (λ map. NoneLoose) (λ map. Swept) xs ys size all (λ map r le. (refl, refl)) k other).0
  firm_claims (Err fault) all other k = guarded_same _ _ _ (bits_at (λ map. SameBits) (λ map. MaySweep) xs ys size all (λ map r le. (refl, refl)) k other).0
