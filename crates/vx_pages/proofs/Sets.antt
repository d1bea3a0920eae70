-- How all bits of a map are set on a page.
use Rattle.std.proofs.Common.{arith, ◌≡◌, ◌⊎◌, inl, inr, ℕ, ◌<◌, ◌≤◌, Bool, true, false, refl, sym, ◌∙◌, ap, subst, List, length, map, get_or, set, Result, Ok, Err}
use Rattle.std.specs.Prelude.{◌==◌, ◌&&◌, not, if◌then◌else◌}
use Rattle.std.proofs.lemmas.Bool.{ne_eqb}
use Rattle.std.proofs.lemmas.Bool.Decides.{eqb_tells}
use Rattle.std.proofs.lemmas.List.{length-map}
use Rattle.vx_mask.specs.Marks.{Marks}
use Rattle.vx_mask.proofs.Tests.{not_both}
use Rattle.vx_mapfmt.specs.Bits.{bit_in}
use Rattle.vx_marks.specs.declared.marker.MarkFault.{MarkFault}
use Rattle.vx_pages.specs.Page.{AreClean, EachSector, all_tell, cut_in, faults_in, has_region, marks_of, no_sector, page_log, sector_at}
use Rattle.vx_pages.specs.Sector.{Copies, Goes, HasCause, IsFormed, IsPut, KeepsSector, MaySweep, NoneLoose, SameBits, SectorSeen, Swept, faults_at, is_cut, is_loose, is_sure, shown}
use Rattle.vx_pages.specs.Setting.{BitsLeft, BitsSet, Come, Done, Torn, Begun, IsPageSet, IsSetIn, MarksBy, SetEach, SetsBits, SetsSoFar, ShownBits, ShownEither, claim_by, differ}
use Rattle.vx_pages.proofs.Steps.{and_all, firm_shows, kept_of as copies_kept, seen, torn_page}
use Rattle.vx_pages.proofs.Items.{at_is, at_set, at_other, set_size}
use Rattle.vx_pages.proofs.Loops.{cause_on, quiet_on}
use Rattle.vx_pages.proofs.MarkSteps.{bits_at, firms_all, guarded, kept_of, on_marks, shows_at, tells_kept}
use Rattle.vx_pages.proofs.Ways.{goes_then, keeps_none}
use Rattle.vx_pages.proofs.Whole.{each_then}

-- nothing is loose, so nothing is lost
none_lost : (x l : Bool) → l ≡ false → (x && not l) ≡ x
none_lost x l none = ap (λ (b : Bool). x && not b) none ∙ and_all x

-- ---- one sector

module _ (c : Copies) (sure loose image : List ℕ) (formed : IsFormed (seen c sure loose)) (clean : (other : ℕ) → bit_in loose other ≡ false) (c' : Copies) (sure' loose' : List ℕ) (fault : MarkFault) (put : IsPut {T = Unit {0}} image c c' (Err fault))
    (fewer : (region : ℕ) → bit_in sure' region ≡ (bit_in sure region && bit_in image region)) (opened : (region : ℕ) → bit_in loose' region ≡ differ (bit_in sure region) (bit_in image region)) where
  pub set_failed : SetsBits {T = Unit {0}} true (bit_in image) (Err fault) (seen c sure loose) (seen c' sure' loose')
  set_failed =
      record {
        kept = copies_kept c c' sure loose sure' loose' put.kept;
        bits = λ region. (fewer region, opened region);
        shows = λ n t region.
            elim (torn_page _ _ _ region (put.holds n t)) [
              | inl same ↦ inl (same ∙ sym (none_lost (shown c n region) (bit_in loose region) (clean region)))
              | inr is ↦ inr (refl, is)
            ];
      }

  pub failed_set_formed : length sure' ≡ 512 → length loose' ≡ 512 → IsFormed (seen c' sure' loose')
  failed_set_formed len len' =
      record {
        sectors = put.kept.sectors formed.sectors;
        sure = len;
        loose = len';
        shows = λ n t region.
            let t' = sym (put.kept.each n).tells ∙ t in
            ap (λ (l : Bool). shown c' n region && not l) (opened region)
            ∙ in_both _ _ _ _ (firm_shows c sure loose formed clean n t' region) (torn_page _ _ _ region (put.holds n t')) ∙ sym (fewer region);
      }
    where
      in_both : (x x' s i : Bool) → x ≡ s → (x' ≡ x) ⊎ (x' ≡ i) → (x' && not (differ s i)) ≡ (s && i)
      in_both x x' true true firm (inl same) = rw (same, firm) refl
      in_both x x' true true firm (inr is) = rw is refl
      in_both x true true false firm torn = refl
      in_both x false true false firm torn = refl
      in_both x true false true firm torn = refl
      in_both x false false true firm torn = refl
      in_both x x' false false firm (inl same) = rw (same, firm) refl
      in_both x x' false false firm (inr is) = rw is refl

-- ---- the sectors of a page

-- a sector is set of which what was loose had gone
then_set : (here : Bool) (bits : ℕ → Bool) (result : Result (Unit {0}) MarkFault) (a b c : SectorSeen) → Goes NoneLoose Swept a b → SetsBits here bits result b c → SetsBits here bits result a c
then_set here bits (Ok u) a b c first last =
    goes_then NoneLoose (BitsSet here bits) (BitsSet here bits) Swept (ShownBits here bits) (ShownBits here bits) a b c
    (λ r s l s' l' s'' l'' one two. (two.0 ∙ ap (λ (x : Bool). if here then bits r else x) one.0, two.1))
    (λ r s l s' l' x x' x'' facts one two. two ∙ ap (λ (y : Bool). if here then bits r else y) (none_lost x' l' facts.1 ∙ one)) first last
then_set here bits (Err fault) a b c first last =
    goes_then NoneLoose (BitsLeft here bits) (BitsLeft here bits) Swept (ShownEither here bits) (ShownEither here bits) a b c
    (λ r s l s' l' s'' l'' one two. (two.0 ∙ ap (λ (x : Bool). if here then (x && bits r) else x) one.0, two.1 ∙ ap (λ (x : Bool). here && differ x (bits r)) one.0))
    (λ r s l s' l' x x' x'' facts one two. elim two [ inl is ↦ inl (is ∙ none_lost x' l' facts.1 ∙ one) | inr is ↦ inr is ]) first last

pub set_after : (at : ℕ) (bits : ℕ → Bool) (result : Result (Unit {0}) MarkFault) (xs ys zs : List SectorSeen) → EachSector (λ m. Goes NoneLoose Swept) xs ys → SetEach at bits result ys zs → IsSetIn at bits result xs zs
set_after at bits result xs ys zs first last = in_all result (each_then (λ m. Goes NoneLoose Swept) (λ m. SetsBits (m == at) bits result) (λ m. SetsBits (m == at) bits result) xs ys zs (λ m x y z one two. then_set (m == at) bits result x y z one two) first last)
  where
    in_all : (result : Result (Unit {0}) MarkFault) → SetEach at bits result xs zs → IsSetIn at bits result xs zs
    in_all (Ok u) all = all
    in_all (Err fault) all = inr all

-- a sector of another map of which nothing is loose
set_none : (bits : ℕ → Bool) (result : Result (Unit {0}) MarkFault) (a : SectorSeen) → ((region : ℕ) → is_loose a region ≡ false) → SetsBits false bits result a a
set_none bits (Ok u) a clean = record { kept = keeps_none a; bits = λ region. (refl, clean region); shows = λ n t region. sym (none_lost _ _ (clean region)) }
set_none bits (Err fault) a clean = record { kept = keeps_none a; bits = λ region. (refl, clean region); shows = λ n t region. inl (sym (none_lost _ _ (clean region))) }

module _ {T : Type 0} (see : T → SectorSeen) (at : ℕ) (xs : List T) (p : T) (lt : at < length xs) (is : p ≡ get_or xs at p) where
  here_is : sector_at (map see xs) at ≡ see p
  here_is = at_is no_sector see xs at p lt ∙ ap see (sym is)

  pub still_clean : AreClean (map see xs) → (region : ℕ) → is_loose (see p) region ≡ false
  still_clean clean region = ap (λ (s : SectorSeen). is_loose s region) (sym here_is) ∙ clean at region (let e = length-map xs see in omega (arith, e, lt))

  pub one_set : (q : T) (bits : ℕ → Bool) (result : Result (Unit {0}) MarkFault) → AreClean (map see xs) → SetsBits true bits result (see p) (see q) → SetEach at bits result (map see xs) (map see (set xs at q))
  one_set q bits result clean step =
      record {
        size = set_size no_sector see xs at q;
        each = λ m inside.
            elim (eqb_tells m at) [
              | inl same ↦
                  subst (λ (b : Bool). SetsBits b bits result (sector_at (map see xs) m) (sector_at (map see (set xs at q)) m)) (sym same.0)
                  (subst (λ (k : ℕ). SetsBits true bits result (sector_at (map see xs) k) (sector_at (map see (set xs at q)) k)) (sym same.1) here)
              | inr apart ↦
                  subst (λ (b : Bool). SetsBits b bits result (sector_at (map see xs) m) (sector_at (map see (set xs at q)) m)) (sym apart.0)
                  (subst (λ (s : SectorSeen). SetsBits false bits result (sector_at (map see xs) m) s) (sym (at_other no_sector see xs at m q apart.1)) (set_none bits result _ (λ region. clean m region inside)))
            ];
      }
    where
      here : SetsBits true bits result (sector_at (map see xs) at) (sector_at (map see (set xs at q)) at)
      here =
          subst (λ (s : SectorSeen). SetsBits true bits result s (sector_at (map see (set xs at q)) at)) (sym here_is)
          (subst (λ (s : SectorSeen). SetsBits true bits result (see p) s) (sym (at_set no_sector see xs at q lt)) step)

pub one_cause : {T : Type 0} (see : T → SectorSeen) (at : ℕ) (result : Result (Unit {0}) MarkFault) (xs : List T) (p q : T) → at < length xs → p ≡ get_or xs at p →
    HasCause (faults_at (see p).copies) (faults_at (see q).copies) (is_cut (see q).copies) result → HasCause (faults_in (map see xs)) (faults_in (map see (set xs at q))) (cut_in (map see (set xs at q))) result
one_cause see at (Ok u) xs p q lt is cause = quiet_on see _ xs at p q lt is (λ copy device. refl) cause
one_cause see at (Err fault) xs p q lt is cause = cause_on see _ xs at p q fault lt is (λ copy device. refl) cause

-- ---- the page as a log of marks: whether it has the region (h), and the sector is the map's (here)

claims_at : (come : Come) (h here on s s' : Bool) → h ≡ true → s' ≡ (if here then claim_by come s on else s) → (h && s') ≡ (if here then claim_by come (h && s) on else (h && s))
claims_at come true here on s s' known is = is
claims_at come false here on s s' known is = cc

shows_set : (h here on x l x' : Bool) → h ≡ true → x' ≡ (if here then on else (x && not l)) → (h && x') ≡ (if here then on else ((h && x) && not (h && l)))
shows_set true here on x l x' known is = is
shows_set false here on x l x' known is = cc

shows_either : (h on x l x' : Bool) (k at : ℕ) → h ≡ true → (x' ≡ (x && not l)) ⊎ (((k == at) ≡ true) × (x' ≡ on)) → ((h && x') ≡ ((h && x) && not (h && l))) ⊎ ((k ≡ at) × ((h && x') ≡ on))
shows_either true on x l x' k at known (inl is) = inl is
shows_either true on x l x' k at known (inr is) = inr (elim (eqb_tells k at) [ inl same ↦ same.1 | inr other ↦ not_both is.0 other.0 ], is.1)
shows_either false on x l x' k at known is = cc

pub same_either : (here s : Bool) → s ≡ (if here then s else s)
same_either true s = refl
same_either false s = refl

module _ (index regions at : ℕ) (bits : ℕ → Bool) (xs ys : List SectorSeen) (size : length xs ≡ 32) (few : at < 32) where
  apart : (m : ℕ) → 32 ≤ m → (m == at) ≡ false
  apart m le = ne_eqb m at (λ e. absurd (omega (arith, e)))

  so_far : (come : Come) → EachSector (λ m. KeepsSector) xs ys →
      ((m region : ℕ) → is_sure (sector_at ys m) region ≡ (if m == at then claim_by come (is_sure (sector_at xs m) region) (bits region) else is_sure (sector_at xs m) region)) →
      (all_tell xs ≡ true → (region : ℕ) → has_region index regions region ≡ true →
      MarksBy come at (has_region index regions region && is_sure (sector_at xs at) region) (bits region) (marks_of index regions xs region) (marks_of index regions ys region)) →
      SetsSoFar at bits (λ region. come) (page_log index regions xs) (page_log index regions ys)
  so_far come kept sure marks =
      record {
        claims = λ region k known. claims_at come (has_region index regions region) (k == at) (bits region) _ _ known (sure k region);
        told =
            on_marks
            (λ (was is : ℕ → Marks).
            (region : ℕ) → has_region index regions region ≡ true → MarksBy come at (has_region index regions region && is_sure (sector_at xs at) region) (bits region) (was region) (is region)) _ _ _ _
            (tells_kept xs ys kept) marks;
      }

  done : SetEach {T = Unit {0}} at bits (Ok tt) xs ys → SetsSoFar at bits (λ region. Done) (page_log index regions xs) (page_log index regions ys)
  done all =
      so_far Done (kept_of (λ m. BitsSet (m == at) bits) (λ m. ShownBits (m == at) bits) xs ys all) (λ m region. (set_bits m region).0)
      (λ t region known. record {
        shows = λ n k.
            shows_set (has_region index regions region) (k == at) (bits region) _ _ _ known
            (shows_at (λ m. BitsSet (m == at) bits) (λ m. ShownBits (m == at) bits) xs ys size all t (λ m r le. sym (ap (λ (b : Bool). if b then bits r else false) (apart m le))) k n region);
        loose = λ k. guarded _ _ (λ inside. (set_bits k region).1);
      })
    where
      set_bits : (m region : ℕ) → BitsSet (m == at) bits region (is_sure (sector_at xs m) region) (is_loose (sector_at xs m) region) (is_sure (sector_at ys m) region) (is_loose (sector_at ys m) region)
      set_bits = bits_at (λ m. BitsSet (m == at) bits) (λ m. ShownBits (m == at) bits) xs ys size all (λ m r le. (sym (ap (λ (b : Bool). if b then bits r else false) (apart m le)), refl))

  torn : (fault : MarkFault) → SetEach {T = Unit {0}} at bits (Err fault) xs ys → SetsSoFar at bits (λ region. Torn) (page_log index regions xs) (page_log index regions ys)
  torn fault all =
      so_far Torn (kept_of (λ m. BitsLeft (m == at) bits) (λ m. ShownEither (m == at) bits) xs ys all) (λ m region. (left_bits m region).0)
      (λ t region known. record {
        shows = λ n k.
            shows_either (has_region index regions region) (bits region) _ _ _ k at known (shows_at (λ m. BitsLeft (m == at) bits) (λ m. ShownEither (m == at) bits) xs ys size all t (λ m r le. inl refl) k n region);
        loose = λ k.
            ap (λ (h : Bool). h && is_loose (sector_at ys k) region) known ∙ (left_bits k region).1 ∙ of_map region k
            ∙ sym (ap (λ (h : Bool). (k == at) && differ (h && is_sure (sector_at xs at) region) (bits region)) known);
      })
    where
      left_bits : (m region : ℕ) → BitsLeft (m == at) bits region (is_sure (sector_at xs m) region) (is_loose (sector_at xs m) region) (is_sure (sector_at ys m) region) (is_loose (sector_at ys m) region)
      left_bits =
          bits_at (λ m. BitsLeft (m == at) bits) (λ m. ShownEither (m == at) bits) xs ys size all
          (λ m r le. (sym (ap (λ (b : Bool). if b then (false && bits r) else false) (apart m le)), sym (ap (λ (b : Bool). b && differ false (bits r)) (apart m le))))

      of_map : (region k : ℕ) → ((k == at) && differ (is_sure (sector_at xs k) region) (bits region)) ≡ ((k == at) && differ (is_sure (sector_at xs at) region) (bits region))
      of_map region k =
          elim (eqb_tells k at) [
            | inl same ↦ ap (λ (j : ℕ). (k == at) && differ (is_sure (sector_at xs j) region) (bits region)) same.1
            | inr other ↦
                ap (λ (b : Bool). b && differ (is_sure (sector_at xs k) region) (bits region)) other.0 ∙ sym (ap (λ (b : Bool). b && differ (is_sure (sector_at xs at) region) (bits region)) other.0)
          ]

  begun : (fault : MarkFault) → EachSector (λ m. Goes SameBits MaySweep) xs ys → SetsSoFar at bits (λ region. Begun) (page_log index regions xs) (page_log index regions ys)
  begun fault all =
      so_far Begun (kept_of (λ m. SameBits) (λ m. MaySweep) xs ys all)
      (λ m region. (bits_at (λ m. SameBits) (λ m. MaySweep) xs ys size all (λ m r le. (refl, refl)) m region).0 ∙ same_either (m == at) _)
      (λ t region known. firms_all index regions xs ys size (Err fault) all t region)

  pub page_set : (result : Result (Unit {0}) MarkFault) → IsSetIn at bits result xs ys → IsPageSet at bits result (page_log index regions xs) (page_log index regions ys)
  page_set (Ok u) all = (true, done all)
  page_set (Err fault) (inl all) = (false, begun fault all)
  page_set (Err fault) (inr all) = (true, torn fault all)

-- what the sectors keep
pub kept_set : (at : ℕ) (bits : ℕ → Bool) (result : Result (Unit {0}) MarkFault) (xs ys : List SectorSeen) → IsSetIn at bits result xs ys → EachSector (λ m. KeepsSector) xs ys
kept_set at bits (Ok u) xs ys all = kept_of (λ m. BitsSet (m == at) bits) (λ m. ShownBits (m == at) bits) xs ys all
kept_set at bits (Err fault) xs ys (inl all) = kept_of (λ m. SameBits) (λ m. MaySweep) xs ys all
kept_set at bits (Err fault) xs ys (inr all) = kept_of (λ m. BitsLeft (m == at) bits) (λ m. ShownEither (m == at) bits) xs ys all
