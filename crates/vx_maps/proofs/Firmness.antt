-- How the pages of a store are written again one after another, and what that is to the store.
use Rattle.std.proofs.Common.{◌≡◌, inl, inr, ℕ, zero, suc, ◌+◌, ◌/◌, ◌<◌, ◌≤◌, Bool, true, false, refl, sym, ◌∙◌, ap, subst, arith, List, [], ◌∷◌, length, map, get_or, set, Option, Some, None, Result, Ok, Err}
use Rattle.std.specs.Prelude.{◌&&◌, ◌||◌, is_some}
use Rattle.std.proofs.lemmas.Bool.{cases_lt}
use Rattle.vx_base.specs.Counts.{Rose}
use Rattle.vx_mask.specs.Marks.{Marks, AllLose, MayTidy}
use Rattle.vx_mask.proofs.MarkLemmas.{tidy_same}
use Rattle.vx_mask.proofs.Tests.{not_both, both_parts}
use Rattle.vx_marks.specs.Log.{LogSeen, KeepsLog, OnMarks, MarkHasCause}
use Rattle.vx_marks.specs.declared.marker.MarkFault.{MarkFault}
use Rattle.vx_marks.specs.declared.marker.MarkFault.TheVariants.{Failed, PowerLost, Busy}
use Rattle.vx_pages.specs.Items.{EachItem}
use Rattle.vx_pages.specs.Reading.{HasRisen}
use Rattle.vx_pages.specs.Firm.{FirmsAll, FirmsStore}
use Rattle.vx_pages.specs.Sector.{HasCause}
use Rattle.vx_maps.specs.Store.{no_page, no_marks, page_at, marks_in, pages_tell, pages_faults, pages_cut, ArePages, PageGoes, ArePagesFirmed, store_log}
use Rattle.vx_maps.proofs.StoreChanges.{tells_page, on_both, faults_set, part_le, cut_set, same_sum, rise_sum}

abbrev AllFirm : (ℕ → Marks) → (ℕ → Marks) → Type 0
AllFirm = FirmsStore {T = Unit {0}} (Ok tt)

-- ---- one page

on_map : (f g : (ℕ → Marks) → (ℕ → Marks) → Type 0) → ((o n : ℕ → Marks) → f o n → g o n) → (a b : Option (ℕ → Marks)) → OnMarks f a b → OnMarks g a b
on_map f g from None b h = tt
on_map f g from (Some a) None h = absurd h
on_map f g from (Some a) (Some b) h = from a b h

pub firm_page : (a b : LogSeen) → KeepsLog a b → OnMarks (FirmsAll {T = Unit {0}} (Ok tt)) a.told b.told → ((region map : ℕ) → b.claims region map ≡ a.claims region map) → PageGoes (FirmsStore {T = Unit {0}} (Ok tt)) a b
firm_page a b kept told claims = record { kept = kept; told = told; claims = claims }

pub torn_page : (fault : MarkFault) (a b : LogSeen) → KeepsLog a b → OnMarks (FirmsAll {T = Unit {0}} (Err fault)) a.told b.told → ((region map : ℕ) → b.claims region map ≡ a.claims region map) →
    PageGoes (FirmsStore {T = Unit {0}} (Err fault)) a b
torn_page fault a b kept told claims =
    record { kept = kept; told = on_map (FirmsAll {T = Unit {0}} (Err fault)) (FirmsStore {T = Unit {0}} (Err fault)) (λ o n h region. inl (h region)) a.told b.told told; claims = claims }

pub firm_tidies : (fault : MarkFault) (a b : LogSeen) → PageGoes (FirmsStore {T = Unit {0}} (Ok tt)) a b → PageGoes (FirmsStore {T = Unit {0}} (Err fault)) a b
firm_tidies fault a b h =
    record { kept = h.kept; told = on_map (FirmsStore {T = Unit {0}} (Ok tt)) (FirmsStore {T = Unit {0}} (Err fault)) (λ o n lost region. inr (lost region)) a.told b.told h.told; claims = h.claims }

on_same : (a : Option (ℕ → Marks)) → OnMarks (λ o n. (region : ℕ) → MayTidy (o region) (n region)) a a
on_same None = tt
on_same (Some a) = λ region. tidy_same (a region)

pub page_idle : (fault : MarkFault) (a : LogSeen) → PageGoes (FirmsStore {T = Unit {0}} (Err fault)) a a
page_idle fault a =
    record {
      kept = record { there = refl; has_region = refl; maps = refl; copies = refl; lent = refl; faults = λ copy device. omega arith; cut = λ h. h };
      told = on_same a.told;
      claims = λ region map. refl;
    }

-- ---- causes

module _ {T : Type 0} (see : T → LogSeen) where
  here : (now : List T) (i : ℕ) (p q : T) (copy device : ℕ) → i < length now → p ≡ get_or now i p →
      pages_faults (map see (set now i q)) copy device + (see p).faults copy device ≡ pages_faults (map see now) copy device + (see q).faults copy device
  here now i p q copy device lt is = ap (λ (x : LogSeen). pages_faults (map see (set now i q)) copy device + x.faults copy device) (ap see is) ∙ faults_set see now i p q copy device lt

  pub quiet_on : (old : ℕ → ℕ → ℕ) (now : List T) (i : ℕ) (p q : T) → i < length now → p ≡ get_or now i p → ((copy device : ℕ) → pages_faults (map see now) copy device ≡ old copy device) →
      ((copy device : ℕ) → (see q).faults copy device ≡ (see p).faults copy device) → (copy device : ℕ) → pages_faults (map see (set now i q)) copy device ≡ old copy device
  quiet_on old now i p q lt is quiet same copy device = same_sum _ _ _ _ (here now i p q copy device lt is) (same copy device) ∙ quiet copy device

  few : (now : List T) (i : ℕ) (p : T) (copy device : ℕ) → i < length now → p ≡ get_or now i p → (see p).faults copy device ≤ pages_faults (map see now) copy device
  few now i p copy device lt is =
      let e : (see p).faults copy device ≡ (see (get_or now i p)).faults copy device = ap (λ (x : T). (see x).faults copy device) is in
      let f = part_le see now i p copy device lt in omega (arith, e, f)

  pub cause_on : (old : ℕ → ℕ → ℕ) (now : List T) (i : ℕ) (p q : T) (fault : MarkFault) → i < length now → p ≡ get_or now i p → (see p).lent ≡ false → ((copy device : ℕ) → pages_faults (map see now) copy device ≡ old copy device) →
      MarkHasCause {T = Unit {0}} (see p) (see q) (Err fault) → HasCause {T = Unit {0}} old (pages_faults (map see (set now i q))) (pages_cut (map see (set now i q))) (Err fault)
  cause_on old now i p q (Failed copy device) lt is lent quiet cause =
      record {
        rose = subst (λ (n : ℕ). Rose n (pages_faults (map see (set now i q)) copy device)) (quiet copy device) (rise_sum _ _ _ _ (few now i p copy device lt is) (here now i p q copy device lt is) cause.rose);
        others = λ copy' device' apart. same_sum _ _ _ _ (here now i p q copy' device' lt is) (cause.others copy' device' apart) ∙ quiet copy' device';
      }
  cause_on old now i p q PowerLost lt is lent quiet cause = cut_set see now i q lt cause
  cause_on old now i p q Busy lt is lent quiet cause = not_both cause.1 lent

  -- ---- causes of calls that go on after a failed read

  pub grown_on : (old : ℕ → ℕ → ℕ) (now : List T) (i : ℕ) (p q : T) → i < length now → p ≡ get_or now i p → ((copy device : ℕ) → old copy device ≤ pages_faults (map see now) copy device) →
      ((copy device : ℕ) → (see p).faults copy device ≤ (see q).faults copy device) → (copy device : ℕ) → old copy device ≤ pages_faults (map see (set now i q)) copy device
  grown_on old now i p q lt is grown more copy device =
      let e = here now i p q copy device lt is in
      let low = grown copy device in
      let up = more copy device in
      let part = few now i p copy device lt is in omega (arith, e, low, up, part)

  pub risen_on : (old : ℕ → ℕ → ℕ) (now : List T) (i : ℕ) (p q : T) (fault : MarkFault) → i < length now → p ≡ get_or now i p → ((copy device : ℕ) → old copy device ≤ pages_faults (map see now) copy device) →
      HasRisen {T = Unit {0}} (see p).faults (see q).faults (see q).cut (Err fault) → HasRisen {T = Unit {0}} old (pages_faults (map see (set now i q))) (pages_cut (map see (set now i q))) (Err fault)
  risen_on old now i p q (Failed copy device) lt is grown cause = under _ _ _ (grown copy device) (rise_sum _ _ _ _ (few now i p copy device lt is) (here now i p q copy device lt is) cause)
    where
      under : (a b c : ℕ) → a ≤ b → Rose b c → Rose a c
      under a b c le rose = omega arith
  risen_on old now i p q PowerLost lt is grown cause = cut_set see now i q lt cause
  risen_on old now i p q Busy lt is grown cause = cause

-- ---- the store

module _ (fact : (ℕ → Marks) → (ℕ → Marks) → Type 0) where
  tail : (x y : LogSeen) (xs ys : List LogSeen) → EachItem no_page (λ i. PageGoes fact) (x ∷ xs) (y ∷ ys) → EachItem no_page (λ i. PageGoes fact) xs ys
  tail x y xs ys h = let e = h.size in record { size = omega (arith, e); each = λ i lt. h.each (suc i) (omega (arith, lt)) }

  head : (x y : LogSeen) (xs ys : List LogSeen) → EachItem no_page (λ i. PageGoes fact) (x ∷ xs) (y ∷ ys) → PageGoes fact x y
  head x y xs ys h = h.each 0 (omega arith)

  faults_kept : (xs ys : List LogSeen) → EachItem no_page (λ i. PageGoes fact) xs ys → (copy device : ℕ) → pages_faults xs copy device ≤ pages_faults ys copy device
  faults_kept [] ys h copy device = omega arith
  faults_kept (x ∷ xs) [] h copy device = let e = h.size in absurd (omega (arith, e))
  faults_kept (x ∷ xs) (y ∷ ys) h copy device = let e = (head x y xs ys h).kept.faults copy device in let f = faults_kept xs ys (tail x y xs ys h) copy device in omega (arith, e, f)

  cut_kept : (xs ys : List LogSeen) → EachItem no_page (λ i. PageGoes fact) xs ys → pages_cut xs ≡ true → pages_cut ys ≡ true
  cut_kept [] ys h is = cc
  cut_kept (x ∷ xs) [] h is = let e = h.size in absurd (omega (arith, e))
  cut_kept (x ∷ xs) (y ∷ ys) h is = later _ _ _ _ (head x y xs ys h).kept.cut (cut_kept xs ys (tail x y xs ys h)) is
    where
      later : (a b a' b' : Bool) → (a ≡ true → a' ≡ true) → (b ≡ true → b' ≡ true) → (a || b) ≡ true → (a' || b') ≡ true
      later true b a' b' first last is = rw (first refl) refl
      later false b true b' first last is = refl
      later false b false b' first last is = last is

  still_told : (a b : Option (ℕ → Marks)) → OnMarks fact a b → is_some a ≡ true → is_some b ≡ true
  still_told None b h t = cc
  still_told (Some a) None h t = absurd h
  still_told (Some a) (Some b) h t = refl

  tells_kept : (xs ys : List LogSeen) → EachItem no_page (λ i. PageGoes fact) xs ys → pages_tell xs ≡ true → pages_tell ys ≡ true
  tells_kept [] [] h t = refl
  tells_kept [] (y ∷ ys) h t = let e = h.size in absurd (omega (arith, e))
  tells_kept (x ∷ xs) [] h t = let e = h.size in absurd (omega (arith, e))
  tells_kept (x ∷ xs) (y ∷ ys) h t = and_both _ _ (still_told x.told y.told (head x y xs ys h).told (both_parts _ _ t).0) (tells_kept xs ys (tail x y xs ys h) (both_parts _ _ t).1)
    where
      and_both : (a b : Bool) → a ≡ true → b ≡ true → (a && b) ≡ true
      and_both a b one two = rw (one, two) refl

  first_copies : (xs ys : List LogSeen) → EachItem no_page (λ i. PageGoes fact) xs ys → (page_at ys 0).copies ≡ (page_at xs 0).copies
  first_copies [] [] h = refl
  first_copies [] (y ∷ ys) h = let e = h.size in absurd (omega (arith, e))
  first_copies (x ∷ xs) [] h = let e = h.size in absurd (omega (arith, e))
  first_copies (x ∷ xs) (y ∷ ys) h = (head x y xs ys h).kept.copies

  pub pages_kept : (regions : ℕ) (xs ys : List LogSeen) → EachItem no_page (λ i. PageGoes fact) xs ys → KeepsLog (store_log regions xs) (store_log regions ys)
  pages_kept regions xs ys h =
      record { there = refl; has_region = refl; maps = refl; copies = first_copies xs ys h; lent = refl; faults = faults_kept xs ys h; cut = cut_kept xs ys h }

  pub pages_still : (regions : ℕ) (xs ys : List LogSeen) → EachItem no_page (λ i. PageGoes fact) xs ys → ArePages regions xs → ArePages regions ys
  pages_still regions xs ys h paged =
      let e = h.size in
      record {
        count = e ∙ paged.count;
        place = λ i r lt. ap (λ (f : ℕ → Bool). f r) (h.each i (omega (arith, e, lt))).kept.has_region ∙ paged.place i r (omega (arith, e, lt));
        maps = λ i lt. (h.each i (omega (arith, e, lt))).kept.maps ∙ paged.maps i (omega (arith, e, lt));
        there = λ i lt. (h.each i (omega (arith, e, lt))).kept.there ∙ paged.there i (omega (arith, e, lt));
        lent = λ i lt. (h.each i (omega (arith, e, lt))).kept.lent ∙ paged.lent i (omega (arith, e, lt));
      }

  beyond : (xs : List LogSeen) (i : ℕ) → length xs ≤ i → page_at xs i ≡ no_page
  beyond [] i le = refl
  beyond (x ∷ xs) zero le = absurd (omega arith)
  beyond (x ∷ xs) (suc i) le = beyond xs i (omega arith)

  pub pages_claims : (xs ys : List LogSeen) → EachItem no_page (λ i. PageGoes fact) xs ys → (region map : ℕ) → (page_at ys (region / 4096)).claims region map ≡ (page_at xs (region / 4096)).claims region map
  pages_claims xs ys h region map =
      elim (cases_lt (region / 4096) (length xs)) [
        | inl lt ↦ (h.each (region / 4096) lt).claims region map
        | inr le ↦
            let e = h.size in
            ap (λ (x : LogSeen). x.claims region map) (beyond ys (region / 4096) (omega (arith, e, le)) ∙ sym (beyond xs (region / 4096) le))
      ]

  in_page : (effect : Marks → Marks → Type 0) (region : ℕ) (a b : Option (ℕ → Marks)) → ((o n : ℕ → Marks) → fact o n → effect (o region) (n region)) → OnMarks fact a b → is_some a ≡ true → effect (marks_in a region) (marks_in b region)
  in_page effect region None b from h t = cc
  in_page effect region (Some a) None from h t = absurd h
  in_page effect region (Some a) (Some b) from h t = from a b h

  in_store : (effect : Marks → Marks → Type 0) (xs ys : List LogSeen) → effect no_marks no_marks → ((o n : ℕ → Marks) (region : ℕ) → fact o n → effect (o region) (n region)) → EachItem no_page (λ i. PageGoes fact) xs ys →
      pages_tell xs ≡ true → (region : ℕ) → effect (marks_in (page_at xs (region / 4096)).told region) (marks_in (page_at ys (region / 4096)).told region)
  in_store effect xs ys none from h t region =
      elim (cases_lt (region / 4096) (length xs)) [
        | inl lt ↦ in_page effect region _ _ (λ o n is. from o n region is) (h.each (region / 4096) lt).told (tells_page xs (region / 4096) lt t)
        | inr le ↦
            let e = h.size in
            subst (λ (x : LogSeen). effect (marks_in x.told region) (marks_in (page_at ys (region / 4096)).told region)) (sym (beyond xs (region / 4096) le))
            (subst (λ (x : LogSeen). effect no_marks (marks_in x.told region)) (sym (beyond ys (region / 4096) (omega (arith, e, le)))) none)
      ]

nothing_lost : AllLose 0 no_marks no_marks
nothing_lost = record { shows = λ n k. refl; loose = λ k. refl }

pub store_firm_told : (regions : ℕ) (xs ys : List LogSeen) (result : Result (Unit {0}) MarkFault) → ArePagesFirmed result xs ys → OnMarks (FirmsStore result) (store_log regions xs).told (store_log regions ys).told
store_firm_told regions xs ys (Ok u) h =
    on_both (FirmsStore {T = Unit {0}} (Ok tt)) (pages_tell xs) (pages_tell ys) (λ r. marks_in (page_at xs (r / 4096)).told r) (λ r. marks_in (page_at ys (r / 4096)).told r)
    (λ t. (tells_kept (FirmsStore {T = Unit {0}} (Ok tt)) xs ys h t, in_store (FirmsStore {T = Unit {0}} (Ok tt)) (AllLose 0) xs ys nothing_lost (λ o n region is. is region) h t))
store_firm_told regions xs ys (Err fault) h =
    on_both (FirmsStore {T = Unit {0}} (Err fault)) (pages_tell xs) (pages_tell ys) (λ r. marks_in (page_at xs (r / 4096)).told r) (λ r. marks_in (page_at ys (r / 4096)).told r)
    (λ t. (tells_kept (FirmsStore {T = Unit {0}} (Err fault)) xs ys h t, in_store (FirmsStore {T = Unit {0}} (Err fault)) MayTidy xs ys (inr nothing_lost) (λ o n region is. is region) h t))

pub store_firm_kept : (regions : ℕ) (xs ys : List LogSeen) (result : Result (Unit {0}) MarkFault) → ArePagesFirmed result xs ys → KeepsLog (store_log regions xs) (store_log regions ys)
store_firm_kept regions xs ys (Ok u) h = pages_kept (FirmsStore {T = Unit {0}} (Ok tt)) regions xs ys h
store_firm_kept regions xs ys (Err fault) h = pages_kept (FirmsStore {T = Unit {0}} (Err fault)) regions xs ys h

pub store_firm_still : (regions : ℕ) (xs ys : List LogSeen) (result : Result (Unit {0}) MarkFault) → ArePagesFirmed result xs ys → ArePages regions xs → ArePages regions ys
store_firm_still regions xs ys (Ok u) h = pages_still (FirmsStore {T = Unit {0}} (Ok tt)) regions xs ys h
store_firm_still regions xs ys (Err fault) h = pages_still (FirmsStore {T = Unit {0}} (Err fault)) regions xs ys h

pub store_firm_claims : (regions : ℕ) (xs ys : List LogSeen) (result : Result (Unit {0}) MarkFault) → ArePagesFirmed result xs ys → (region map : ℕ) → (store_log regions ys).claims region map ≡ (store_log regions xs).claims region map
store_firm_claims regions xs ys (Ok u) h = pages_claims (FirmsStore {T = Unit {0}} (Ok tt)) xs ys h
store_firm_claims regions xs ys (Err fault) h = pages_claims (FirmsStore {T = Unit {0}} (Err fault)) xs ys h

pub store_firm_cause : (regions : ℕ) (xs ys : List LogSeen) (result : Result (Unit {0}) MarkFault) → HasCause (pages_faults xs) (pages_faults ys) (pages_cut ys) result → MarkHasCause (store_log regions xs) (store_log regions ys) result
store_firm_cause regions xs ys (Ok u) cause = cause
store_firm_cause regions xs ys (Err (Failed copy device)) cause = record { rose = cause.rose; others = cause.others }
store_firm_cause regions xs ys (Err PowerLost) cause = cause
store_firm_cause regions xs ys (Err Busy) cause = absurd cause
