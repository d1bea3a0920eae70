-- What a call on all sectors of a page does to each, where it ends well and where it fails.
use Rattle.std.proofs.Common.{◌≡◌, ◌⊎◌, inl, inr, ℕ, Bool, true, false, refl, sym, ◌∙◌, ap, subst, arith}
use Rattle.std.specs.Prelude.{◌&&◌, ◌||◌, not, is_some, if◌then◌else◌}
use Rattle.vx_mask.proofs.Tests.{not_both}
use Rattle.vx_marks.specs.declared.marker.MarkFault.{MarkFault}
use Rattle.vx_pages.specs.Sector.{SectorSeen, Copies, KeepsSector, Goes, BitSet, ShownSet, BitLeft, ShownLeft, Turns, SameBits, Swept, MaySweep, NoneLoose, BitPut, BitMay, ShownPut, ShownMay, BitOpened, IsFirm, tells, shown, is_loose, faults_at, is_cut, KeepsPiece, copy_of}
use Rattle.vx_pages.specs.Stays.{piece_same, piece_then}

pub keeps_none : (s : SectorSeen) → KeepsSector s s
keeps_none s = record { each = λ n. piece_same (copy_of s.copies n); pair = refl; tells = refl; faults = λ copy device. omega arith; cut = λ h. h }

-- ---- what is loose is written again

may_sweep : (x l x' : Bool) → x' ≡ (x && not l) → (x' ≡ x) ⊎ ((l ≡ true) × (x' ≡ false))
may_sweep true true x' e = inr (refl, e)
may_sweep true false x' e = inl e
may_sweep false l x' e = inl e

pub tidied_may : (fault : MarkFault) (a b : SectorSeen) → Goes SameBits Swept a b → Goes SameBits MaySweep a b
tidied_may fault a b h = record { kept = h.kept; bits = h.bits; shows = λ n t region. may_sweep _ _ _ (h.shows n t region) }

pub tidied_none : (fault : MarkFault) (a : SectorSeen) → Goes SameBits MaySweep a a
tidied_none fault a = record { kept = keeps_none a; bits = λ region. (refl, refl); shows = λ n t region. inl refl }

-- ---- a bit is put

may_bits : (w on s l s' l' : Bool) → s' ≡ (if w then on else s) → l' ≡ l → w ≡ false → (s' ≡ s) × (l' ≡ l)
may_bits true on s l s' l' is same out = not_both refl out
may_bits false on s l s' l' is same out = (is, same)

may_show : (w on x x' : Bool) → x' ≡ (if w then on else x) → (x' ≡ x) ⊎ ((w ≡ true) × (x' ≡ on))
may_show true on x x' is = inr (refl, is)
may_show false on x x' is = inl is

pub put_may : (want : ℕ → Bool) (on : Bool) (fault : MarkFault) (a b : SectorSeen) → Goes (BitPut want on) (ShownPut want on) a b → Goes (BitMay want) (ShownMay want on) a b
put_may want on fault a b h =
    record {
      kept = h.kept;
      bits = λ region. may_bits _ _ _ _ _ _ (h.bits region).0 (h.bits region).1;
      shows = λ n t region. may_show _ _ _ _ (h.shows n t region);
    }

pub put_none : (want : ℕ → Bool) (on : Bool) (fault : MarkFault) (a : SectorSeen) → Goes (BitMay want) (ShownMay want on) a a
put_none want on fault a = record { kept = keeps_none a; bits = λ region out. (refl, refl); shows = λ n t region. inl refl }

-- ---- one call after another

keeps_on : (a b c : SectorSeen) → KeepsSector a b → KeepsSector b c → KeepsSector a c
keeps_on a b c first last =
    record {
      each = λ n. piece_then _ _ _ (first.each n) (last.each n);
      pair = last.pair ∙ first.pair;
      tells = last.tells ∙ first.tells;
      faults = λ copy device. let le = first.faults copy device in let le' = last.faults copy device in omega (arith, le, le');
      cut = λ cut. last.cut (first.cut cut);
    }

pub turned_kept : (a b : SectorSeen) → b.copies ≡ a.copies → KeepsSector a b
turned_kept a b same =
    record {
      each = λ n. subst (λ (c : Copies). KeepsPiece (copy_of a.copies n) (copy_of c n)) (sym same) (piece_same (copy_of a.copies n));
      pair = ap (λ (x : Copies). is_some x.second) same;
      tells = ap tells same;
      faults = λ copy device. let e : faults_at b.copies copy device ≡ faults_at a.copies copy device = ap (λ (x : Copies). faults_at x copy device) same in omega (arith, e);
      cut = λ cut. ap is_cut same ∙ cut;
    }

module _ (f g h : ℕ → Bool → Bool → Bool → Bool → Type 0) (u v w : ℕ → Bool → Bool → Bool → Type 0) (a b c : SectorSeen) where
  pub goes_then : ((r : ℕ) (s l s' l' s'' l'' : Bool) → f r s l s' l' → g r s' l' s'' l'' → h r s l s'' l'') →
      ((r : ℕ) (s l s' l' x x' x'' : Bool) → f r s l s' l' → u r x l x' → v r x' l' x'' → w r x l x'') → Goes f u a b → Goes g v b c → Goes h w a c
  goes_then bits shows first last =
      record {
        kept = keeps_on a b c first.kept last.kept;
        bits = λ r. bits r _ _ _ _ _ _ (first.bits r) (last.bits r);
        shows = λ n t r. shows r _ _ _ _ _ _ _ (first.bits r) (first.shows n t r) (last.shows n ((first.kept.each n).tells ∙ t) r);
      }

module _ (f g h : ℕ → Bool → Bool → Bool → Bool → Type 0) (u : ℕ → Bool → Bool → Bool → Type 0) (a b c : SectorSeen) where
  -- the last one in memory alone
  goes_turns : ((r : ℕ) (s l s' l' s'' l'' : Bool) → f r s l s' l' → g r s' l' s'' l'' → h r s l s'' l'') → Goes f u a b → Turns g b c → Goes h u a c
  goes_turns bits first last =
      record {
        kept = keeps_on a b c first.kept (turned_kept b c last.copies);
        bits = λ r. bits r _ _ _ _ _ _ (first.bits r) (last.bits r);
        shows = λ n t r. subst (λ (x : Copies). u r (shown a.copies n r) (is_loose a r) (shown x n r)) (sym last.copies) (first.shows n t r);
      }

none_bits : (r : ℕ) (s l s' l' s'' l'' : Bool) → SameBits r s l s' l' → NoneLoose r s' l' s'' l'' → NoneLoose r s l s'' l''
none_bits r s l s' l' s'' l'' first last = (last.0 ∙ first.0, last.1)

pub firms : (a b c : SectorSeen) → Goes SameBits Swept a b → Turns NoneLoose b c → Goes NoneLoose Swept a c
firms a b c first last = goes_turns SameBits NoneLoose NoneLoose Swept a b c none_bits first last

-- what was tidied shows no loose mark
pub tidied_firm : (a b : SectorSeen) → Goes SameBits Swept a b → IsFirm b
tidied_firm a b h n t region = gone _ _ _ _ (h.shows n (sym (h.kept.each n).tells ∙ t) region) (h.bits region).1
  where
    gone : (x l x' l' : Bool) → x' ≡ (x && not l) → l' ≡ l → (x' && l') ≡ false
    gone true true x' l' is same = rw is refl
    gone true false x' l' is same = rw (is, same) refl
    gone false l x' l' is same = rw is refl

left_bits : (want : ℕ → Bool) (r : ℕ) (s l s' l' s'' l'' : Bool) → BitMay want r s l s' l' → BitOpened want r s' l' s'' l'' → BitOpened want r s l s'' l''
left_bits want r s l s' l' s'' l'' first last = cases (want r) first last.0 last.1
  where
    cases : (a : Bool) → (a ≡ false → (s' ≡ s) × (l' ≡ l)) → s'' ≡ (s' && not a) → l'' ≡ (l' || a) → (s'' ≡ (s && not a)) × (l'' ≡ (l || a))
    cases true may is unsure = (is ∙ none s' ∙ sym (none s), unsure ∙ all l' ∙ sym (all l))
      where
        none : (x : Bool) → (x && false) ≡ false
        none true = refl
        none false = refl

        all : (x : Bool) → (x || true) ≡ true
        all true = refl
        all false = refl
    cases false may is unsure = let same = may refl in (is ∙ ap (λ (x : Bool). x && not false) same.0, unsure ∙ ap (λ (x : Bool). x || false) same.1)

pub fails : (want : ℕ → Bool) (on : Bool) (a b c : SectorSeen) → Goes (BitMay want) (ShownMay want on) a b → Turns (BitOpened want) b c → Goes (BitOpened want) (ShownMay want on) a c
fails want on a b c first last = goes_turns (BitMay want) (BitOpened want) (BitOpened want) (ShownMay want on) a b c (left_bits want) first last

opened_bits : (want : ℕ → Bool) (r : ℕ) (s l s' l' s'' l'' : Bool) → SameBits r s l s' l' → BitOpened want r s' l' s'' l'' → BitOpened want r s l s'' l''
opened_bits want r s l s' l' s'' l'' first last = (last.0 ∙ ap (λ (x : Bool). x && not (want r)) first.0, last.1 ∙ ap (λ (x : Bool). x || want r) first.1)

pub leaves_open : (want : ℕ → Bool) (a b c : SectorSeen) → Goes SameBits MaySweep a b → Turns (BitOpened want) b c → Goes (BitOpened want) MaySweep a c
leaves_open want a b c first last = goes_turns SameBits (BitOpened want) (BitOpened want) MaySweep a b c (opened_bits want) first last

set_bits : (want : ℕ → Bool) (on : Bool) (r : ℕ) (s l s' l' s'' l'' : Bool) → NoneLoose r s l s' l' → BitPut want on r s' l' s'' l'' → BitSet want on r s l s'' l''
set_bits want on r s l s' l' s'' l'' first last = (last.0 ∙ ap (λ (x : Bool). if want r then on else x) first.0, last.1 ∙ first.1)

pub sets : (want : ℕ → Bool) (on : Bool) (a b c : SectorSeen) → Goes NoneLoose Swept a b → Goes (BitPut want on) (ShownPut want on) b c → Goes (BitSet want on) (ShownSet want on) a c
sets want on a b c first last =
    goes_then NoneLoose (BitPut want on) (BitSet want on) Swept (ShownPut want on) (ShownSet want on) a b c (set_bits want on) (λ r s l s' l' x x' x'' bits one two. two ∙ ap (λ (y : Bool). if want r then on else y) one) first last

lost_bits : (want : ℕ → Bool) (r : ℕ) (s l s' l' s'' l'' : Bool) → NoneLoose r s l s' l' → BitOpened want r s' l' s'' l'' → BitLeft want r s l s'' l''
lost_bits want r s l s' l' s'' l'' first last = (last.0 ∙ ap (λ (x : Bool). x && not (want r)) first.0, last.1 ∙ ap (λ (x : Bool). x || want r) first.1)

left_shown : (want : ℕ → Bool) (on : Bool) (r : ℕ) (x l x' x'' : Bool) → Swept r x l x' → ShownMay want on r x' l x'' → ShownLeft want on r x l x''
left_shown want on r x l x' x'' one (inl same) = inl (same ∙ one)
left_shown want on r x l x' x'' one (inr put) = inr put

pub leaves : (want : ℕ → Bool) (on : Bool) (a b c : SectorSeen) → Goes NoneLoose Swept a b → Goes (BitOpened want) (ShownMay want on) b c → Goes (BitLeft want) (ShownLeft want on) a c
leaves want on a b c first last =
    goes_then NoneLoose (BitOpened want) (BitLeft want) Swept (ShownMay want on) (ShownLeft want on) a b c (lost_bits want) (λ r s l s' l' x x' x'' bits one two. left_shown want on r x l x' x'' one (again want on r x' l' l x'' two)) first last
  where
    again : (want : ℕ → Bool) (on : Bool) (r : ℕ) (x l l' x' : Bool) → ShownMay want on r x l x' → ShownMay want on r x l' x'
    again want on r x l l' x' h = h
