-- How one page of a map is set after another.
use Rattle.std.proofs.Common.{arith, ◌≡◌, inl, inr, ℕ, ◌+◌, ◌*◌, ◌/◌, ◌%◌, ◌<◌, ◌≤◌, [], Bool, true, false, refl, sym, ◌∙◌, ap, subst, Option, Some, None, Result, Ok, Err}
use Rattle.std.specs.Prelude.{◌==◌, ◌&&◌, nat_lt, if◌then◌else◌}
use Rattle.std.proofs.lemmas.Bool.{cases_order, le-ltb, lt-ltb, ltb-true}
use Rattle.std.proofs.lemmas.Bool.Decides.{eqb_tells}
use Rattle.vx_base.specs.Counts.{Rose}
use Rattle.vx_mask.specs.Marks.{Marks}
use Rattle.vx_mask.proofs.MaskLemmas.{has-zero}
use Rattle.vx_mask.proofs.Tests.{not_both}
use Rattle.vx_marks.specs.Log.{KeepsLog, LogSeen, MarkHasCause, OnMarks}
use Rattle.vx_marks.specs.declared.marker.MarkFault.{MarkFault}
use Rattle.vx_marks.specs.declared.marker.MarkFault.TheVariants.{Failed, PowerLost, Busy}
use Rattle.vx_mapfmt.specs.Sizes.{page_count}
use Rattle.vx_pages.specs.Setting.{Come, Done, Still, IsMapSet, MarksBy, SetsSoFar, claim_by, come_on, come_to}
use Rattle.vx_pages.proofs.Sets.{same_either}
use Rattle.vx_volume.specs.Bytes.{map_bit}

-- ---- what a log keeps, and why a call answers so

pub kept_none : (l : LogSeen) → KeepsLog l l
kept_none l = record { there = refl; has_region = refl; maps = refl; copies = refl; lent = refl; faults = λ copy device. omega arith; cut = λ h. h }

pub kept_then : (a b c : LogSeen) → KeepsLog a b → KeepsLog b c → KeepsLog a c
kept_then a b c first last =
    record {
      there = last.there ∙ first.there;
      has_region = last.has_region ∙ first.has_region;
      maps = last.maps ∙ first.maps;
      copies = last.copies ∙ first.copies;
      lent = last.lent ∙ first.lent;
      faults = λ copy device. let low = first.faults copy device in let high = last.faults copy device in omega (arith, low, high);
      cut = λ h. last.cut (first.cut h);
    }

-- no count had risen before
pub cause_then : (a b c : LogSeen) (result : Result (Unit {0}) MarkFault) → ((copy device : ℕ) → b.faults copy device ≡ a.faults copy device) → b.lent ≡ false → MarkHasCause b c result → MarkHasCause a c result
cause_then a b c (Ok u) quiet lent cause = λ copy device. cause copy device ∙ quiet copy device
cause_then a b c (Err (Failed copy device)) quiet lent cause =
    record {
      rose = subst (λ (n : ℕ). Rose n (c.faults copy device)) (quiet copy device) cause.rose;
      others = λ copy' device' apart. cause.others copy' device' apart ∙ quiet copy' device';
    }
cause_then a b c (Err PowerLost) quiet lent cause = cause
cause_then a b c (Err Busy) quiet lent cause = not_both cause.1 lent

-- ---- marks that are told

on_then : (f g h : (ℕ → Marks) → (ℕ → Marks) → Type 0) → ((x y z : ℕ → Marks) → f x y → g y z → h x z) → (p q r : Option (ℕ → Marks)) → OnMarks f p q → OnMarks g q r → OnMarks h p r
on_then f g h both None q r one two = tt
on_then f g h both (Some x) None r one two = absurd one
on_then f g h both (Some x) (Some y) None one two = absurd two
on_then f g h both (Some x) (Some y) (Some z) one two = both x y z one two

on_same : (f : (ℕ → Marks) → (ℕ → Marks) → Type 0) → ((x : ℕ → Marks) → f x x) → (p : Option (ℕ → Marks)) → OnMarks f p p
on_same f same None = tt
on_same f same (Some x) = same x

on_other : (f g : (ℕ → Marks) → (ℕ → Marks) → Type 0) → ((x y : ℕ → Marks) → f x y → g x y) → (p q : Option (ℕ → Marks)) → OnMarks f p q → OnMarks g p q
on_other f g from None q one = tt
on_other f g from (Some x) None one = absurd one
on_other f g from (Some x) (Some y) one = from x y one

-- ---- how far the setting has come

abbrev claimed : ℕ → Come → Bool → ℕ → Bool → Bool
claimed at come on k was = if k == at then claim_by come was on else was

-- the same, said otherwise
pub alike : (at : ℕ) (bits bits' : ℕ → Bool) (come come' : ℕ → Come) (a b : LogSeen) → ((region : ℕ) → bits' region ≡ bits region) → ((region : ℕ) → a.has_region region ≡ true → come' region ≡ come region) →
    SetsSoFar at bits come a b → SetsSoFar at bits' come' a b
alike at bits bits' come come' a b same_bits same_come h =
    record {
      claims = λ region k known.
          h.claims region k known ∙ ap (λ (c : Come). claimed at c (bits region) k (a.claims region k)) (sym (same_come region known))
          ∙ ap (λ (on : Bool). claimed at (come' region) on k (a.claims region k)) (sym (same_bits region));
      told =
          on_other (λ was is. (region : ℕ) → a.has_region region ≡ true → MarksBy (come region) at (a.claims region at) (bits region) (was region) (is region))
          (λ was is. (region : ℕ) → a.has_region region ≡ true → MarksBy (come' region) at (a.claims region at) (bits' region) (was region) (is region))
          (λ was is marks region known.
          subst (λ (c : Come). MarksBy c at (a.claims region at) (bits' region) (was region) (is region)) (sym (same_come region known))
          (subst (λ (on : Bool). MarksBy (come region) at (a.claims region at) on (was region) (is region)) (sym (same_bits region)) (marks region known))) _ _ h.told;
    }

-- the pages before this one are set
abbrev pub come_before : ℕ → ℕ → Come
come_before page region = if nat_lt (region / 4096) page then Done else Still

pub starts : (at : ℕ) (bits : ℕ → Bool) (a : LogSeen) → SetsSoFar at bits (come_before 0) a a
starts at bits a =
    alike at bits bits (λ region. Still) (come_before 0) a a (λ region. refl) (λ region known. ap (λ (b : Bool). if b then Done else Still) (le-ltb (region / 4096) 0 (omega arith)))
    (record { claims = λ region k known. same_either (k == at) _; told = on_same (λ was is. (region : ℕ) → a.has_region region ≡ true → is region ≡ was region) (λ x region known. refl) a.told })

module _ (at page place : ℕ) (bits image : ℕ → Bool) (after : ℕ → Come) (come : Come) (a b c : LogSeen) (kept : KeepsLog a b) (first : SetsSoFar at bits (come_before page) a b) (here : place ≡ page) (there : SetsSoFar at image (come_on come place) b c)
    (is : (region : ℕ) → a.has_region region ≡ true → region / 4096 ≡ page → image region ≡ bits region) (how : (region : ℕ) → after region ≡ (if (region / 4096) == page then come else come_before page region)) where
  last : SetsSoFar at image (come_on come page) b c
  last = subst (λ (n : ℕ). SetsSoFar at image (come_on come n) b c) here there

  known_now : (region : ℕ) → a.has_region region ≡ true → b.has_region region ≡ true
  known_now region known = ap (λ (f : ℕ → Bool). f region) kept.has_region ∙ known

  not_yet : (region : ℕ) → region / 4096 ≡ page → come_before page region ≡ Still
  not_yet region same = ap (λ (x : Bool). if x then Done else Still) (le-ltb (region / 4096) page (omega (arith, same)))

  as_before : (region k : ℕ) → a.has_region region ≡ true → region / 4096 ≡ page → b.claims region k ≡ a.claims region k
  as_before region k known same = first.claims region k known ∙ ap (λ (x : Come). claimed at x (bits region) k (a.claims region k)) (not_yet region same) ∙ sym (same_either (k == at) _)

  next_claims : (region k : ℕ) → a.has_region region ≡ true → c.claims region k ≡ claimed at (after region) (bits region) k (a.claims region k)
  next_claims region k known =
      elim (eqb_tells (region / 4096) page) [
        | inl same ↦
            last.claims region k (known_now region known) ∙ ap (λ (x : Bool). claimed at (if x then come else Still) (image region) k (b.claims region k)) same.0
            ∙ ap (λ (on : Bool). claimed at come on k (b.claims region k)) (is region known same.1) ∙ ap (λ (was : Bool). claimed at come (bits region) k was) (as_before region k known same.1)
            ∙ ap (λ (x : Come). claimed at x (bits region) k (a.claims region k)) (sym (how region ∙ ap (λ (x : Bool). if x then come else come_before page region) same.0))
        | inr apart ↦
            last.claims region k (known_now region known) ∙ ap (λ (x : Bool). claimed at (if x then come else Still) (image region) k (b.claims region k)) apart.0 ∙ sym (same_either (k == at) _)
            ∙ first.claims region k known
            ∙ ap (λ (x : Come). claimed at x (bits region) k (a.claims region k)) (sym (how region ∙ ap (λ (x : Bool). if x then come else come_before page region) apart.0))
      ]

  next_marks : (region : ℕ) (x y z : Marks) → a.has_region region ≡ true → MarksBy (come_before page region) at (a.claims region at) (bits region) x y → MarksBy (come_on come page region) at (b.claims region at) (image region) y z →
      MarksBy (after region) at (a.claims region at) (bits region) x z
  next_marks region x y z known one two =
      elim (eqb_tells (region / 4096) page) [
        | inl same ↦
            let same_marks : y ≡ x = subst (λ (x' : Come). MarksBy x' at (a.claims region at) (bits region) x y) (not_yet region same.1) one in
            subst (λ (x' : Come). MarksBy x' at (a.claims region at) (bits region) x z) (sym (how region ∙ ap (λ (b' : Bool). if b' then come else come_before page region) same.0))
            (subst (λ (m : Marks). MarksBy come at (a.claims region at) (bits region) m z) same_marks
            (subst (λ (was : Bool). MarksBy come at was (bits region) y z) (as_before region at known same.1)
            (subst (λ (on : Bool). MarksBy come at (b.claims region at) on y z) (is region known same.1)
            (subst (λ (b' : Bool). MarksBy (if b' then come else Still) at (b.claims region at) (image region) y z) same.0 two))))
        | inr apart ↦
            let same_marks : z ≡ y = subst (λ (b' : Bool). MarksBy (if b' then come else Still) at (b.claims region at) (image region) y z) apart.0 two in
            subst (λ (x' : Come). MarksBy x' at (a.claims region at) (bits region) x z) (sym (how region ∙ ap (λ (b' : Bool). if b' then come else come_before page region) apart.0))
            (subst (λ (m : Marks). MarksBy (come_before page region) at (a.claims region at) (bits region) x m) (sym same_marks) one)
      ]

  pub next : SetsSoFar at bits after a c
  next =
      record {
        claims = next_claims;
        told =
            on_then (λ was is'. (region : ℕ) → a.has_region region ≡ true → MarksBy (come_before page region) at (a.claims region at) (bits region) (was region) (is' region))
            (λ was is'. (region : ℕ) → b.has_region region ≡ true → MarksBy (come_on come page region) at (b.claims region at) (image region) (was region) (is' region))
            (λ was is'. (region : ℕ) → a.has_region region ≡ true → MarksBy (after region) at (a.claims region at) (bits region) (was region) (is' region))
            (λ x y z one two region known. next_marks region _ _ _ known (one region known) (two region (known_now region known))) _ _ _ first.told last.told;
      }

-- a page is set, and the next one comes
pub goes_on : (page region : ℕ) → come_before (page + 1) region ≡ (if (region / 4096) == page then Done else come_before page region)
goes_on page region =
    elim (eqb_tells (region / 4096) page) [
      | inl same ↦
          let e = same.1 in
          ap (λ (b : Bool). if b then Done else Still) (lt-ltb (region / 4096) (page + 1) (omega (arith, e))) ∙ sym (ap (λ (b : Bool). if b then Done else come_before page region) same.0)
      | inr apart ↦ one_less (region / 4096) apart.1 ∙ sym (ap (λ (b : Bool). if b then Done else come_before page region) apart.0)
    ]
  where
    one_less : (n : ℕ) → (n ≡ page → ⊥) → (let c : Come = if nat_lt n (page + 1) then Done else Still in c) ≡ (if nat_lt n page then Done else Still)
    one_less n apart =
        elim (cases_order n page) [
          | inl same ↦ absurd (apart same)
          | inr (inl low) ↦ ap (λ (b : Bool). if b then Done else Still) (lt-ltb n (page + 1) (omega (arith, low)) ∙ sym (lt-ltb n page low))
          | inr (inr high) ↦ ap (λ (b : Bool). if b then Done else Still) (le-ltb n (page + 1) (omega (arith, high)) ∙ sym (le-ltb n page (omega (arith, high))))
        ]

-- a page fails
pub stops : (page : ℕ) (come : Come) (region : ℕ) → come_to page come region ≡ (if (region / 4096) == page then come else come_before page region)
stops page come region =
    elim (eqb_tells (region / 4096) page) [
      | inl same ↦
          let e = same.1 in
          ap (λ (b : Bool). if b then Done else come_on come page region) (le-ltb (region / 4096) page (omega (arith, e))) ∙ ap (λ (b : Bool). if b then come else Still) same.0
          ∙ sym (ap (λ (b : Bool). if b then come else come_before page region) same.0)
      | inr apart ↦
          ap (λ (b : Bool). if nat_lt (region / 4096) page then Done else (if b then come else Still)) apart.0 ∙ sym (ap (λ (b : Bool). if b then come else come_before page region) apart.0)
    ]

-- each page was set
pub ends : (at page : ℕ) (bits : ℕ → Bool) (a b : LogSeen) → ((region : ℕ) → a.has_region region ≡ true → region / 4096 < page) → SetsSoFar at bits (come_before page) a b → SetsSoFar at bits (λ region. Done) a b
ends at page bits a b inside h =
    alike at bits bits (come_before page) (λ region. Done) a b (λ region. refl) (λ region known. sym (ap (λ (x : Bool). if x then Done else Still) (lt-ltb (region / 4096) page (inside region known)))) h

pub in_pages : (region regions pages page : ℕ) → pages ≡ page_count regions → pages ≤ page → nat_lt region regions ≡ true → region / 4096 < page
in_pages region regions pages page count le known = let lt : region < regions = ltb-true region regions known in omega (arith, count, le)

pub page_now : (page : ℕ) → 4096 * page / 4096 ≡ page
page_now page = omega arith

-- a region that is known lies before the last
pub known_bit : (b : Bool) (region regions regions' : ℕ) → regions' ≡ regions → nat_lt region regions ≡ true → (b && nat_lt region regions') ≡ b
known_bit true region regions regions' same known = ap (λ (n : ℕ). nat_lt region n) same ∙ known
known_bit false region regions regions' same known = refl

-- no bit is asked for
pub clears : (at : ℕ) (a b : LogSeen) (result : Result (Unit {0}) MarkFault) → IsMapSet at (map_bit []) result a b → IsMapSet at (λ region. false) result a b
clears at a b (Ok u) h = alike at (map_bit []) (λ region. false) _ _ a b (λ region. sym (has-zero (region % 8))) (λ region known. refl) h
clears at a b (Err fault) h = (h.0, h.1, alike at (map_bit []) (λ region. false) _ _ a b (λ region. sym (has-zero (region % 8))) (λ region known. refl) h.2)
