-- How a loop over the sectors of a page goes on and ends.
use Rattle.std.proofs.Common.{◌≡◌, ℕ, zero, suc, ◌+◌, ◌<◌, ◌≤◌, Bool, true, false, refl, sym, ◌∙◌, ap, subst, arith, List, [], ◌∷◌, length, map, get_or, set, Err}
use Rattle.std.specs.Prelude.{◌||◌}
use Rattle.vx_base.specs.Counts.{Rose}
use Rattle.vx_marks.specs.declared.marker.MarkFault.{MarkFault}
use Rattle.vx_marks.specs.declared.marker.MarkFault.TheVariants.{Failed, PowerLost, Busy}
use Rattle.vx_pages.specs.Sector.{SectorSeen, faults_at, is_cut, HasCause}
use Rattle.vx_pages.specs.Reading.{HasRisen}
use Rattle.vx_pages.proofs.Rounds as rounds
use Rattle.vx_pages.specs.Page.{no_sector, sector_at, faults_in, cut_in, EachSector}

-- the sectors below this map have gone so, and the others are as they were
abbrev pub Went : (ℕ → SectorSeen → SectorSeen → Type 0) → ℕ → List SectorSeen → List SectorSeen → Type 0
Went fact i old now = rounds.Went no_sector fact i old now

module _ {T : Type 0} (see : T → SectorSeen) where
  faults_set : (xs : List T) (i : ℕ) (d q : T) (copy device : ℕ) → i < length xs →
      faults_in (map see (set xs i q)) copy device + faults_at (see (get_or xs i d)).copies copy device ≡ faults_in (map see xs) copy device + faults_at (see q).copies copy device
  faults_set [] i d q copy device lt = absurd (omega arith)
  faults_set (x ∷ xs) zero d q copy device lt = omega arith
  faults_set (x ∷ xs) (suc i) d q copy device lt = let e = faults_set xs i d q copy device (omega arith) in omega (arith, e)

  cut_set : (xs : List T) (i : ℕ) (q : T) → i < length xs → is_cut (see q).copies ≡ true → cut_in (map see (set xs i q)) ≡ true
  cut_set [] i q lt is = absurd (omega arith)
  cut_set (x ∷ xs) zero q lt is = rw is refl
  cut_set (x ∷ xs) (suc i) q lt is = or_right _ _ (cut_set xs i q (omega arith) is)
    where
      or_right : (a b : Bool) → b ≡ true → (a || b) ≡ true
      or_right true b e = refl
      or_right false b e = e

  -- the sector at an index is still as it was
  pub still : (fact : ℕ → SectorSeen → SectorSeen → Type 0) (old : List SectorSeen) (now : List T) (i : ℕ) (p : T) → i < length now → p ≡ get_or now i p → Went fact i old (map see now) → see p ≡ sector_at old i
  still = rounds.still no_sector see

  pub inside_old : (fact : ℕ → SectorSeen → SectorSeen → Type 0) (old : List SectorSeen) (now : List T) (i : ℕ) → i < length now → Went fact i old (map see now) → i < length old
  inside_old = rounds.inside_old no_sector see

  pub goes_on : (fact : ℕ → SectorSeen → SectorSeen → Type 0) (old : List SectorSeen) (now : List T) (i : ℕ) (p q : T) → i < length now → p ≡ get_or now i p → Went fact i old (map see now) →
      fact i (see p) (see q) → Went fact (i + 1) old (map see (set now i q))
  goes_on = rounds.goes_on no_sector see

  -- a call on one sector fails
  pub stops : (fact fails : ℕ → SectorSeen → SectorSeen → Type 0) (old : List SectorSeen) (now : List T) (i : ℕ) (p q : T) → i < length now → p ≡ get_or now i p → Went fact i old (map see now) →
      ((map : ℕ) (a b : SectorSeen) → fact map a b → fails map a b) → ((map : ℕ) (a : SectorSeen) → fails map a a) → fails i (see p) (see q) → EachSector fails old (map see (set now i q))
  stops = rounds.stops no_sector see

  -- ---- causes

  same_sum : (a b s s' : ℕ) → s' + a ≡ s + b → b ≡ a → s' ≡ s
  same_sum a b s s' e f = omega arith

  rise_sum : (a b s s' : ℕ) → a ≤ s → s' + a ≡ s + b → Rose a b → Rose s s'
  rise_sum a b s s' le e f = omega arith

  part_le : (xs : List T) (i : ℕ) (d : T) (copy device : ℕ) → i < length xs → faults_at (see (get_or xs i d)).copies copy device ≤ faults_in (map see xs) copy device
  part_le [] i d copy device lt = absurd (omega arith)
  part_le (x ∷ xs) zero d copy device lt = omega arith
  part_le (x ∷ xs) (suc i) d copy device lt = let e = part_le xs i d copy device (omega arith) in omega (arith, e)

  pub quiet_on : (old : ℕ → ℕ → ℕ) (now : List T) (i : ℕ) (p q : T) → i < length now → p ≡ get_or now i p → ((copy device : ℕ) → faults_in (map see now) copy device ≡ old copy device) →
      ((copy device : ℕ) → faults_at (see q).copies copy device ≡ faults_at (see p).copies copy device) → (copy device : ℕ) → faults_in (map see (set now i q)) copy device ≡ old copy device
  quiet_on old now i p q lt is quiet same copy device =
      let e = faults_set now i p q copy device lt in
      let f : faults_at (see (get_or now i p)).copies copy device ≡ faults_at (see p).copies copy device = ap (λ (x : T). faults_at (see x).copies copy device) (sym is) in
      same_sum _ _ _ _ e (same copy device ∙ sym f) ∙ quiet copy device

  pub cause_on : (old : ℕ → ℕ → ℕ) (now : List T) (i : ℕ) (p q : T) (fault : MarkFault) → i < length now → p ≡ get_or now i p → ((copy device : ℕ) → faults_in (map see now) copy device ≡ old copy device) →
      HasCause {T = Unit {0}} (faults_at (see p).copies) (faults_at (see q).copies) (is_cut (see q).copies) (Err fault) → HasCause {T = Unit {0}} old (faults_in (map see (set now i q))) (cut_in (map see (set now i q))) (Err fault)
  cause_on old now i p q (Failed copy device) lt is quiet cause =
      let who : (copy device : ℕ) → faults_at (see (get_or now i p)).copies copy device ≡ faults_at (see p).copies copy device = λ copy device. ap (λ (x : T). faults_at (see x).copies copy device) (sym is) in
      record {
        rose =
            subst (λ (n : ℕ). Rose n (faults_in (map see (set now i q)) copy device)) (quiet copy device)
            (rise_sum _ _ _ _ (part_le now i p copy device lt) (faults_set now i p q copy device lt) (subst (λ (n : ℕ). Rose n (faults_at (see q).copies copy device)) (sym (who copy device)) cause.rose));
        others = λ copy' device' apart. same_sum _ _ _ _ (faults_set now i p q copy' device' lt) (cause.others copy' device' apart ∙ sym (who copy' device')) ∙ quiet copy' device';
      }
  cause_on old now i p q PowerLost lt is quiet cause = cut_set now i q lt cause
  cause_on old now i p q Busy lt is quiet cause = cause

  -- ---- causes of calls that go on after a failed read

  pub grown_on : (old : ℕ → ℕ → ℕ) (now : List T) (i : ℕ) (p q : T) → i < length now → p ≡ get_or now i p → ((copy device : ℕ) → old copy device ≤ faults_in (map see now) copy device) →
      ((copy device : ℕ) → faults_at (see p).copies copy device ≤ faults_at (see q).copies copy device) → (copy device : ℕ) → old copy device ≤ faults_in (map see (set now i q)) copy device
  grown_on old now i p q lt is grown more copy device =
      let e = faults_set now i p q copy device lt in
      let f : faults_at (see (get_or now i p)).copies copy device ≡ faults_at (see p).copies copy device = ap (λ (x : T). faults_at (see x).copies copy device) (sym is) in
      let low = grown copy device in
      let up = more copy device in
      let part = part_le now i p copy device lt in omega (arith, e, f, low, up, part)

  rose_under : (a b c : ℕ) → a ≤ b → Rose b c → Rose a c
  rose_under a b c le rose = omega arith

  pub risen_on : (old : ℕ → ℕ → ℕ) (now : List T) (i : ℕ) (p q : T) (fault : MarkFault) → i < length now → p ≡ get_or now i p → ((copy device : ℕ) → old copy device ≤ faults_in (map see now) copy device) →
      HasRisen {T = Unit {0}} (faults_at (see p).copies) (faults_at (see q).copies) (is_cut (see q).copies) (Err fault) → HasRisen {T = Unit {0}} old (faults_in (map see (set now i q))) (cut_in (map see (set now i q))) (Err fault)
  risen_on old now i p q (Failed copy device) lt is grown cause =
      let who : faults_at (see (get_or now i p)).copies copy device ≡ faults_at (see p).copies copy device = ap (λ (x : T). faults_at (see x).copies copy device) (sym is) in
      rose_under _ _ _ (grown copy device)
      (rise_sum _ _ _ _ (part_le now i p copy device lt) (faults_set now i p q copy device lt) (subst (λ (n : ℕ). Rose n (faults_at (see q).copies copy device)) (sym who) cause))
  risen_on old now i p q PowerLost lt is grown cause = cut_set now i q lt cause
  risen_on old now i p q Busy lt is grown cause = cause
