-- What a call on one page of a store is to the store.
use Rattle.std.proofs.Common.{◌≡◌, ◌≢◌, inl, inr, ℕ, zero, suc, ◌+◌, ◌/◌, ◌<◌, ◌≤◌, Bool, true, false, refl, sym, ◌∙◌, ap, subst, arith, List, [], ◌∷◌, length, map, get_or, set, Option, Some, None, Result, Ok, Err}
use Rattle.std.specs.Prelude.{◌==◌, ◌&&◌, ◌||◌, nat_lt, is_some, if◌then◌else◌}
use Rattle.std.proofs.lemmas.Bool.{eq-eqb, ltb-true}
use Rattle.std.proofs.lemmas.Bool.Decides.{eqb_tells}
use Rattle.vx_base.specs.Counts.{Rose}
use Rattle.vx_mask.specs.Marks.{Marks, MayTidy}
use Rattle.vx_mask.proofs.MarkLemmas.{tidy_same}
use Rattle.vx_mask.proofs.Tests.{not_both, both_parts}
use Rattle.vx_marks.specs.Log.{LogSeen, IsAskable, KeepsLog, OnMarks, ChangesAt, ClaimsAt, MarkHasCause}
use Rattle.vx_marks.specs.declared.marker.MarkFault.{MarkFault}
use Rattle.vx_marks.specs.declared.marker.MarkFault.TheVariants.{Failed, PowerLost, Busy}
use Rattle.vx_mapfmt.specs.Sizes.{page_count}
use Rattle.vx_pages.specs.Page.{has_region}
use Rattle.vx_pages.specs.Setting.{Come, Still, MarksBy, SetsSoFar, claim_by, come_on}
use Rattle.vx_pages.proofs.Sets.{same_either}
use Rattle.vx_maps.specs.Store.{no_page, page_at, marks_in, pages_tell, pages_faults, pages_cut, ArePages, store_log}
use Rattle.vx_pages.proofs.Items.{at_is, at_set, at_other, set_size}

-- ---- told marks

pub tells_page : (pages : List LogSeen) (i : ℕ) → i < length pages → pages_tell pages ≡ true → is_some (page_at pages i).told ≡ true
tells_page [] i lt t = absurd (omega arith)
tells_page (p ∷ ps) zero lt t = (both_parts _ _ t).0
tells_page (p ∷ ps) (suc i) lt t = tells_page ps i (omega arith) (both_parts _ _ t).1

changes_in : (region : ℕ) (effect : Marks → Marks → Type 0) (a b : Option (ℕ → Marks)) → OnMarks (ChangesAt region effect) a b → is_some a ≡ true → (is_some b ≡ true) × ChangesAt region effect (marks_in a) (marks_in b)
changes_in region effect None b h t = cc
changes_in region effect (Some a) None h t = absurd h
changes_in region effect (Some a) (Some b) h t = (refl, record { here = h.here; elsewhere = h.elsewhere })

set_in : (effect : ℕ → Marks → Marks → Type 0) (has : ℕ → Bool) (a b : Option (ℕ → Marks)) → OnMarks (λ was is. (region : ℕ) → has region ≡ true → effect region (was region) (is region)) a b → is_some a ≡ true →
    (is_some b ≡ true) × ((region : ℕ) → has region ≡ true → effect region (marks_in a region) (marks_in b region))
set_in effect has None b h t = cc
set_in effect has (Some a) None h t = absurd h
set_in effect has (Some a) (Some b) h t = (refl, λ region known. h region known)

pub on_both : (fact : (ℕ → Marks) → (ℕ → Marks) → Type 0) (t t' : Bool) (old new : ℕ → Marks) → (t ≡ true → (t' ≡ true) × fact old new) → OnMarks fact (if t then Some old else None) (if t' then Some new else None)
on_both fact true true old new h = (h refl).1
on_both fact true false old new h = not_both (h refl).0 refl
on_both fact false t' old new h = tt

pub same_sum : (a b s s' : ℕ) → s' + a ≡ s + b → b ≡ a → s' ≡ s
same_sum a b s s' e f = omega arith

pub rise_sum : (a b s s' : ℕ) → a ≤ s → s' + a ≡ s + b → Rose a b → Rose s s'
rise_sum a b s s' le e f = omega arith

le_sum : (a b s s' : ℕ) → s' + a ≡ s + b → a ≤ b → s ≤ s'
le_sum a b s s' e f = omega arith

module _ {T : Type 0} (see : T → LogSeen) where
  pub faults_set : (xs : List T) (i : ℕ) (d q : T) (copy device : ℕ) → i < length xs →
      pages_faults (map see (set xs i q)) copy device + (see (get_or xs i d)).faults copy device ≡ pages_faults (map see xs) copy device + (see q).faults copy device
  faults_set [] i d q copy device lt = absurd (omega arith)
  faults_set (x ∷ xs) zero d q copy device lt = omega arith
  faults_set (x ∷ xs) (suc i) d q copy device lt = let e = faults_set xs i d q copy device (omega arith) in omega (arith, e)

  pub part_le : (xs : List T) (i : ℕ) (d : T) (copy device : ℕ) → i < length xs → (see (get_or xs i d)).faults copy device ≤ pages_faults (map see xs) copy device
  part_le [] i d copy device lt = absurd (omega arith)
  part_le (x ∷ xs) zero d copy device lt = omega arith
  part_le (x ∷ xs) (suc i) d copy device lt = let e = part_le xs i d copy device (omega arith) in omega (arith, e)

  or_later : (a b a' b' : Bool) → (a ≡ true → a' ≡ true) → (b ≡ true → b' ≡ true) → (a || b) ≡ true → (a' || b') ≡ true
  or_later true b a' b' first last is = rw (first refl) refl
  or_later false b true b' first last is = refl
  or_later false b false b' first last is = last is

  cut_keeps : (xs : List T) (i : ℕ) (d q : T) → i < length xs → ((see (get_or xs i d)).cut ≡ true → (see q).cut ≡ true) → pages_cut (map see xs) ≡ true → pages_cut (map see (set xs i q)) ≡ true
  cut_keeps [] i d q lt stays is = absurd (omega arith)
  cut_keeps (x ∷ xs) zero d q lt stays is = or_later _ _ _ _ stays (λ h. h) is
  cut_keeps (x ∷ xs) (suc i) d q lt stays is = or_later (see x).cut _ (see x).cut _ (λ h. h) (cut_keeps xs i d q (omega arith) stays) is

  pub cut_set : (xs : List T) (i : ℕ) (q : T) → i < length xs → (see q).cut ≡ true → pages_cut (map see (set xs i q)) ≡ true
  cut_set [] i q lt is = absurd (omega arith)
  cut_set (x ∷ xs) zero q lt is = rw is refl
  cut_set (x ∷ xs) (suc i) q lt is = or_right _ _ (cut_set xs i q (omega arith) is)
    where
      or_right : (a b : Bool) → b ≡ true → (a || b) ≡ true
      or_right true b e = refl
      or_right false b e = e

  tell_set : (xs : List T) (i : ℕ) (q : T) → i < length xs → is_some (see q).told ≡ true → pages_tell (map see xs) ≡ true → pages_tell (map see (set xs i q)) ≡ true
  tell_set [] i q lt told t = absurd (omega arith)
  tell_set (x ∷ xs) zero q lt told t = and_both _ _ told (both_parts _ _ t).1
    where
      and_both : (a b : Bool) → a ≡ true → b ≡ true → (a && b) ≡ true
      and_both a b one two = rw (one, two) refl
  tell_set (x ∷ xs) (suc i) q lt told t = and_both _ _ (both_parts _ _ t).0 (tell_set xs i q (omega arith) told (both_parts _ _ t).1)
    where
      and_both : (a b : Bool) → a ≡ true → b ≡ true → (a && b) ≡ true
      and_both a b one two = rw (one, two) refl

  pub size_seen : (xs : List T) → length (map see xs) ≡ length xs
  size_seen [] = refl
  size_seen (x ∷ xs) = ap (λ (n : ℕ). suc n) (size_seen xs)

  module _ (regions region : ℕ) (xs : List T) (p : T) (paged : ArePages regions (map see xs)) (lt : region / 4096 < length xs) (is : p ≡ get_or xs (region / 4096) p) where
    i_is : page_at (map see xs) (region / 4096) ≡ see p
    i_is = at_is no_page see xs (region / 4096) p lt ∙ ap see (sym is)

    inside : region / 4096 < length (map see xs)
    inside = let e = size_seen xs in omega (arith, e, lt)

    pub known : nat_lt region regions ≡ true → (see p).has_region region ≡ true
    known h =
        ap (λ (x : LogSeen). x.has_region region) (sym i_is) ∙ paged.place (region / 4096) region inside
        ∙ ap (λ (b : Bool). b && nat_lt region regions) (eq-eqb (region / 4096) (region / 4096) refl) ∙ h

    pub askable : (bits : ℕ) → IsAskable (store_log regions (map see xs)) region bits → IsAskable (see p) region bits
    askable bits h =
        let few : (see p).maps ≡ 32 = ap (λ (x : LogSeen). x.maps) (sym i_is) ∙ paged.maps (region / 4096) inside in
        record { known = known h.known; maps = λ k there. let lt' = h.maps k there in omega (arith, few, lt'); some = h.some }

    pub there_is : (see p).there ≡ true
    there_is = ap (λ (x : LogSeen). x.there) (sym i_is) ∙ paged.there (region / 4096) inside

    lent_is : (see p).lent ≡ false
    lent_is = ap (λ (x : LogSeen). x.lent) (sym i_is) ∙ paged.lent (region / 4096) inside

    pub claims_in : (k : ℕ) → (see p).claims region k ≡ (page_at (map see xs) (region / 4096)).claims region k
    claims_in k = ap (λ (x : LogSeen). x.claims region k) (sym i_is)

    module _ (q : T) (kept : KeepsLog (see p) (see q)) where
      abbrev ys : List LogSeen
      ys = map see (set xs (region / 4096) q)

      q_is : page_at ys (region / 4096) ≡ see q
      q_is = at_set no_page see xs (region / 4096) q lt

      other_is : (j : ℕ) → j ≢ region / 4096 → page_at ys j ≡ page_at (map see xs) j
      other_is j apart = at_other no_page see xs (region / 4096) j q apart

      -- what every page has, each has still
      still : (fact : ℕ → LogSeen → Type 0) → (fact (region / 4096) (see p) → fact (region / 4096) (see q)) → ((j : ℕ) → j < length (map see xs) → fact j (page_at (map see xs) j)) → (j : ℕ) → j < length ys → fact j (page_at ys j)
      still fact moves all j low =
          let e = set_size no_page see xs (region / 4096) q in
          elim (eqb_tells j (region / 4096)) [
            | inl same ↦
                subst (λ (n : ℕ). fact n (page_at ys n)) (sym same.1)
                (subst (λ (x : LogSeen). fact (region / 4096) x) (sym q_is) (moves (subst (λ (x : LogSeen). fact (region / 4096) x) i_is (all (region / 4096) inside))))
            | inr apart ↦ subst (λ (x : LogSeen). fact j x) (sym (other_is j apart.1)) (all j (omega (arith, e, low)))
          ]

      pub paged_still : ArePages regions ys
      paged_still =
          record {
            count = set_size no_page see xs (region / 4096) q ∙ paged.count;
            place = λ j r low.
                still (λ n x. x.has_region r ≡ has_region n regions r) (λ h. ap (λ (f : ℕ → Bool). f r) kept.has_region ∙ h) (λ n below. paged.place n r below) j low;
            maps = still (λ n x. x.maps ≡ 32) (λ h. kept.maps ∙ h) paged.maps;
            there = still (λ n x. x.there ≡ true) (λ h. kept.there ∙ h) paged.there;
            lent = still (λ n x. x.lent ≡ false) (λ h. kept.lent ∙ h) paged.lent;
          }

      sum : (copy device : ℕ) → pages_faults ys copy device + (see p).faults copy device ≡ pages_faults (map see xs) copy device + (see q).faults copy device
      sum copy device =
          ap (λ (x : LogSeen). pages_faults ys copy device + x.faults copy device) (ap see is) ∙ faults_set xs (region / 4096) p q copy device lt

      first_copies : (page_at ys 0).copies ≡ (page_at (map see xs) 0).copies
      first_copies =
          elim (eqb_tells 0 (region / 4096)) [
            | inl same ↦
                ap (λ (n : ℕ). (page_at ys n).copies) same.1 ∙ ap (λ (x : LogSeen). x.copies) q_is ∙ kept.copies ∙ ap (λ (x : LogSeen). x.copies) (sym i_is)
                ∙ ap (λ (n : ℕ). (page_at (map see xs) n).copies) (sym same.1)
            | inr apart ↦ ap (λ (x : LogSeen). x.copies) (other_is 0 apart.1)
          ]

      pub store_kept : KeepsLog (store_log regions (map see xs)) (store_log regions ys)
      store_kept =
          record {
            there = refl;
            has_region = refl;
            maps = refl;
            copies = first_copies;
            lent = refl;
            faults = λ copy device. le_sum _ _ _ _ (sum copy device) (kept.faults copy device);
            cut = cut_keeps xs (region / 4096) p q lt (λ h. kept.cut (ap (λ (x : T). (see x).cut) is ∙ h));
          }

      tells_here : pages_tell (map see xs) ≡ true → is_some (see p).told ≡ true
      tells_here t = ap (λ (x : LogSeen). is_some x.told) (sym i_is) ∙ tells_page (map see xs) (region / 4096) inside t

      pub store_told : (effect : Marks → Marks → Type 0) → OnMarks (ChangesAt region effect) (see p).told (see q).told → OnMarks (ChangesAt region effect) (store_log regions (map see xs)).told (store_log regions ys).told
      store_told effect h =
          on_both (ChangesAt region effect) (pages_tell (map see xs)) (pages_tell ys) (λ r. marks_in (page_at (map see xs) (r / 4096)).told r) (λ r. marks_in (page_at ys (r / 4096)).told r)
          (λ t.
          let parts = changes_in region effect (see p).told (see q).told h (tells_here t) in (
            tell_set xs (region / 4096) q lt parts.0 t,
            record {
              here =
                  subst (λ (x : LogSeen). effect (marks_in x.told region) (marks_in (page_at ys (region / 4096)).told region)) (sym i_is)
                  (subst (λ (x : LogSeen). effect (marks_in (see p).told region) (marks_in x.told region)) (sym q_is) parts.1.here);
              elsewhere = λ other apart. elsewhere other (parts.1.elsewhere other apart);
            },
          ))
        where
          elsewhere : (other : ℕ) → MayTidy (marks_in (see p).told other) (marks_in (see q).told other) → MayTidy (marks_in (page_at (map see xs) (other / 4096)).told other) (marks_in (page_at ys (other / 4096)).told other)
          elsewhere other tidy =
              elim (eqb_tells (other / 4096) (region / 4096)) [
                | inl same ↦
                    subst (λ (n : ℕ). MayTidy (marks_in (page_at (map see xs) n).told other) (marks_in (page_at ys n).told other)) (sym same.1)
                    (subst (λ (x : LogSeen). MayTidy (marks_in x.told other) (marks_in (page_at ys (region / 4096)).told other)) (sym i_is)
                    (subst (λ (x : LogSeen). MayTidy (marks_in (see p).told other) (marks_in x.told other)) (sym q_is) tidy))
                | inr apart ↦
                    subst (λ (x : LogSeen). MayTidy (marks_in (page_at (map see xs) (other / 4096)).told other) (marks_in x.told other)) (sym (other_is (other / 4096) apart.1))
                    (tidy_same (marks_in (page_at (map see xs) (other / 4096)).told other))
              ]

      pub store_claims : (change : (ℕ → Bool) → (ℕ → Bool) → Type 0) → ClaimsAt region change (see p).claims (see q).claims → ClaimsAt region change (store_log regions (map see xs)).claims (store_log regions ys).claims
      store_claims change h =
          record {
            here =
                subst (λ (x : LogSeen). change (x.claims region) ((page_at ys (region / 4096)).claims region)) (sym i_is)
                (subst (λ (x : LogSeen). change ((see p).claims region) (x.claims region)) (sym q_is) h.here);
            elsewhere = λ other k apart.
                elim (eqb_tells (other / 4096) (region / 4096)) [
                  | inl same ↦
                      ap (λ (n : ℕ). (page_at ys n).claims other k) same.1 ∙ ap (λ (x : LogSeen). x.claims other k) q_is ∙ h.elsewhere other k apart ∙ ap (λ (x : LogSeen). x.claims other k) (sym i_is)
                      ∙ ap (λ (n : ℕ). (page_at (map see xs) n).claims other k) (sym same.1)
                  | inr page ↦ ap (λ (x : LogSeen). x.claims other k) (other_is (other / 4096) page.1)
                ];
          }

      module _ (at : ℕ) (bits : ℕ → Bool) (come : Come) (h : SetsSoFar at bits (λ r. come) (see p) (see q)) where
        known_here : (other : ℕ) → other / 4096 ≡ region / 4096 → nat_lt other regions ≡ true → (see p).has_region other ≡ true
        known_here other same known' =
            ap (λ (x : LogSeen). x.has_region other) (sym i_is) ∙ paged.place (region / 4096) other inside
            ∙ ap (λ (b : Bool). b && nat_lt other regions) (eq-eqb (other / 4096) (region / 4096) same) ∙ known'

        abbrev claimed : ℕ → ℕ → Come → Bool → Bool
        claimed other k c was = if k == at then claim_by c was (bits other) else was

        set_claims : (other k : ℕ) → nat_lt other regions ≡ true → (page_at ys (other / 4096)).claims other k ≡ claimed other k (come_on come (region / 4096) other) ((page_at (map see xs) (other / 4096)).claims other k)
        set_claims other k known' =
            elim (eqb_tells (other / 4096) (region / 4096)) [
              | inl same ↦
                  ap (λ (n : ℕ). (page_at ys n).claims other k) same.1 ∙ ap (λ (x : LogSeen). x.claims other k) q_is ∙ h.claims other k (known_here other same.1 known')
                  ∙ ap (λ (was : Bool). claimed other k come was) (ap (λ (x : LogSeen). x.claims other k) (sym i_is) ∙ ap (λ (n : ℕ). (page_at (map see xs) n).claims other k) (sym same.1))
                  ∙ ap (λ (b : Bool). claimed other k (if b then come else Still) ((page_at (map see xs) (other / 4096)).claims other k)) (sym same.0)
              | inr apart ↦
                  ap (λ (x : LogSeen). x.claims other k) (other_is (other / 4096) apart.1) ∙ same_either (k == at) _
                  ∙ ap (λ (b : Bool). claimed other k (if b then come else Still) ((page_at (map see xs) (other / 4096)).claims other k)) (sym apart.0)
            ]

        abbrev Marked : ℕ → Come → LogSeen → LogSeen → Type 0
        Marked other c x y = MarksBy c at (x.claims other at) (bits other) (marks_in x.told other) (marks_in y.told other)

        set_told : ((other : ℕ) → (see p).has_region other ≡ true → Marked other come (see p) (see q)) → (other : ℕ) → nat_lt other regions ≡ true →
            Marked other (come_on come (region / 4096) other) (page_at (map see xs) (other / 4096)) (page_at ys (other / 4096))
        set_told marked other known' =
            elim (eqb_tells (other / 4096) (region / 4096)) [
              | inl same ↦
                  subst (λ (b : Bool). Marked other (if b then come else Still) (page_at (map see xs) (other / 4096)) (page_at ys (other / 4096))) (sym same.0)
                  (subst (λ (n : ℕ). Marked other come (page_at (map see xs) n) (page_at ys n)) (sym same.1)
                  (subst (λ (x : LogSeen). Marked other come x (page_at ys (region / 4096))) (sym i_is) (subst (λ (y : LogSeen). Marked other come (see p) y) (sym q_is) (marked other (known_here other same.1 known')))))
              | inr apart ↦
                  subst (λ (b : Bool). Marked other (if b then come else Still) (page_at (map see xs) (other / 4096)) (page_at ys (other / 4096))) (sym apart.0)
                  (ap (λ (x : LogSeen). marks_in x.told other) (other_is (other / 4096) apart.1))
            ]

        pub store_set : SetsSoFar at bits (come_on come (region / 4096)) (store_log regions (map see xs)) (store_log regions ys)
        store_set =
            record {
              claims = set_claims;
              told =
                  on_both
                  (λ (was is : ℕ → Marks).
                  (other : ℕ) → nat_lt other regions ≡ true →
                  MarksBy (come_on come (region / 4096) other) at ((page_at (map see xs) (other / 4096)).claims other at) (bits other) (was other) (is other))
                  (pages_tell (map see xs)) (pages_tell ys) (λ r. marks_in (page_at (map see xs) (r / 4096)).told r) (λ r. marks_in (page_at ys (r / 4096)).told r)
                  (λ t.
                  let parts = set_in (λ other. MarksBy come at ((see p).claims other at) (bits other)) (see p).has_region (see p).told (see q).told h.told (tells_here t) in
                  (tell_set xs (region / 4096) q lt parts.0 t, set_told parts.1));
            }

      pub store_cause : (result : Result (Unit {0}) MarkFault) → MarkHasCause (see p) (see q) result → MarkHasCause (store_log regions (map see xs)) (store_log regions ys) result
      store_cause (Ok u) cause = λ copy device. same_sum _ _ _ _ (sum copy device) (cause copy device)
      store_cause (Err (Failed copy device)) cause =
          record {
            rose = rise_sum _ _ _ _ (few copy device) (sum copy device) cause.rose;
            others = λ copy' device' apart. same_sum _ _ _ _ (sum copy' device') (cause.others copy' device' apart);
          }
        where
          few : (copy device : ℕ) → (see p).faults copy device ≤ pages_faults (map see xs) copy device
          few copy device =
              let e : (see p).faults copy device ≡ (see (get_or xs (region / 4096) p)).faults copy device = ap (λ (x : T). (see x).faults copy device) is in
              let f = part_le xs (region / 4096) p copy device lt in omega (arith, e, f)
      store_cause (Err PowerLost) cause = cut_set xs (region / 4096) q lt cause
      store_cause (Err Busy) cause = not_both cause.1 lent_is

-- a region has its page
pub has_page : (regions region pages : ℕ) → pages ≡ page_count regions → nat_lt region regions ≡ true → region / 4096 < pages
has_page regions region pages e h = let lt : region < regions = ltb-true region regions h in omega arith
