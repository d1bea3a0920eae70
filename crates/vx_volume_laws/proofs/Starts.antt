-- How a life of a volume begins.
use Rattle.std.proofs.Common.{◌≡◌, inl, inr, ℕ, ◌<◌, ◌/◌, Bool, true, false, refl, sym, ◌∙◌, subst, ap, List, [], ◌∷◌, arith, length}
use Rattle.std.specs.Prelude.{◌&&◌, ◌||◌, ◌==◌, not, nat_le, Contains}
use Rattle.std.specs.List.{list_all}
use Rattle.std.proofs.lemmas.Bool.Decides.{nat_tests}
use Rattle.vx_life.specs.Candidates.{IsAmong, IsListed}
use Rattle.vx_mask.proofs.Tests.{not_both, true_or_false, or_cases, both_parts}
use Rattle.vx_config_parts.specs.declared.state.VolState.{VolState}
use Rattle.vx_config_parts.specs.declared.state.VolState.TheVariants as vol
use Rattle.vx_core.specs.Schedule.{run}
use Rattle.vx_core.proofs.ScheduleLaws.{keeps_run, kept_from_fresh}
use Rattle.vx_core_laws.proofs.Beginnings.{settled_begins}
use Rattle.vx_image.proofs.PlexMembers.{IsIn}
use Rattle.vx_image.specs.Image.{PlexImage, LogCopy, Image, regions_of, has_no_copy, is_available, is_alone, is_unmarked_by_some}
use Rattle.vx_image.specs.Meaning.{lowest_of, plexes_read, plex_values, candidates_read}
use Rattle.vx_image.specs.Soundness.{IsChoiceOfMarks, PlexesAgree}
use Rattle.vx_image.proofs.Members.{is_in, contains, each_from_all, one_from_any, from_filter}
use Rattle.vx_image.proofs.Readings.{listed}
use Rattle.vx_volume_laws.specs.Opening.{HaveOwnMaps}
use Rattle.vx_volume_laws.specs.Start.{IsSamePlex, IsStartOf, EachEmptyBegins, EachSettledVolumeBegins}
use Rattle.vx_moments.proofs.Blocks.{below_count}
use Rattle.vx_volume_laws.proofs.Losses.{list_of, read_of, not_true}

-- ---- an empty volume

-- two plexes of the lowest map have one map
same_lowest : (ps : List PlexImage) (p q : PlexImage) → Contains (lowest_of ps) p → Contains (lowest_of ps) q → p.map ≡ q.map
same_lowest ps p q low_p low_q =
    let x = from_filter (λ (p : PlexImage). list_all (λ (q : PlexImage). nat_le p.map q.map) ps) ps p low_p in
    let y = from_filter (λ (p : PlexImage). list_all (λ (q : PlexImage). nat_le p.map q.map) ps) ps q low_q in
    let le : nat_le p.map q.map ≡ true = each_from_all (λ (z : PlexImage). nat_le p.map z.map) ps q x.1 y.0 in
    let ge : nat_le q.map p.map ≡ true = each_from_all (λ (z : PlexImage). nat_le q.map z.map) ps p y.1 x.0 in
    grind (arith, nat_tests)

-- plexes with one map are one
one_plex : (ps : List PlexImage) (p q : PlexImage) → HaveOwnMaps ps → IsIn ps p → IsIn ps q → p.map ≡ q.map → p ≡ q
one_plex [] p q own one_p one_q same = absurd one_p
one_plex (x ∷ xs) p q own (inl here) (inl there) same = here ∙ sym there
one_plex (x ∷ xs) p q own (inl here) (inr one_q) same = absurd (own.0 q (contains xs q one_q) (sym (ap (λ (p : PlexImage). p.map) here) ∙ same))
one_plex (x ∷ xs) p q own (inr one_p) (inl there) same = absurd (own.0 p (contains xs p one_p) (sym (ap (λ (p : PlexImage). p.map) there) ∙ sym same))
one_plex (x ∷ xs) p q own (inr one_p) (inr one_q) same = one_plex xs p q own.1 one_p one_q same

-- where not every copy marks it, some copy does not
not_all : (copies : List LogCopy) (r k : ℕ) → list_all (λ (d : LogCopy). d r k) copies ≡ false → (d : LogCopy) × IsIn copies d × (d r k ≡ false)
not_all [] r k h = cc
not_all (d ∷ ds) r k h =
    elim (true_or_false (d r k)) [
      | inr none ↦ (d, inl refl, none)
      | inl is ↦ let rest = not_all ds r k (subst (λ (b : Bool). (b && list_all (λ (d : LogCopy). d r k) ds) ≡ false) is h) in (rest.0, inr rest.1, rest.2)
    ]

-- an unmarked plex is a lowest one
unmarked_low : (empty v : Image) → IsStartOf empty v → (r : ℕ) → r < regions_of v → (B : ℕ → Bool) → IsChoiceOfMarks v r B → (p : PlexImage) → Contains v.plexes p → B p.map ≡ false →
    (q : PlexImage) × Contains (lowest_of empty.plexes) q × IsSamePlex q p
unmarked_low empty v is r low B choice p one clear =
    elim (true_or_false (list_all (λ (d : LogCopy). d r p.map) v.copies)) [
      | inl all ↦ not_both (choice.least p.map all) clear
      | inr some ↦ let d = not_all v.copies r p.map some in is.marked d.0 (contains v.copies d.0 d.1) r low p one d.2
    ]

empty_agrees : (empty v : Image) → IsStartOf empty v → HaveOwnMaps v.plexes → (r : ℕ) → r < regions_of v → (B : ℕ → Bool) → IsChoiceOfMarks v r B → PlexesAgree v r B
empty_agrees empty v is own r low B choice p q at_p at_q b lt here =
    let x = unmarked_low empty v is r low B choice p at_p.of at_p.unmarked in
    let y = unmarked_low empty v is r low B choice q at_q.of at_q.unmarked in
    ap (λ (x : PlexImage). x.values b) (one_plex v.plexes p q own (is_in v.plexes p at_p.of) (is_in v.plexes q at_q.of) (x.2.map ∙ same_lowest empty.plexes x.0 y.0 x.1 y.1 ∙ sym y.2.map))

empty_read : (state : VolState) (v : Image) (b r : ℕ) (q : PlexImage) → state ≡ vol.Empty → Contains (lowest_of v.plexes) q → IsListed (plex_values b (plexes_read state v r)) (q.values b)
empty_read vol.Empty v b r q is low = listed (lowest_of v.plexes) q b low
empty_read vol.Clean v b r q is low = cc
empty_read vol.Active v b r q is low = cc
empty_read vol.NeedSync v b r q is low = cc
empty_read vol.Sync v b r q is low = cc

in_none : (ms : List ℕ) (m : ℕ) → ms ≡ [] → Contains ms m → ⊥
in_none [] m is one = is_in [] m one
in_none (n ∷ ns) m is one = cc

pub each_empty_begins : EachEmptyBegins
each_empty_begins empty v is well = (
  λ r B low choice. record {
    unmarked = (
      is.low.0,
      is.low.1,
      elim (true_or_false (B is.low.0.map)) [
        | inr none ↦ none
        | inl marked ↦ let c = one_from_any (λ (c : LogCopy). c r is.low.0.map) v.copies (choice.most is.low.0.map marked) in not_both c.2 (is.low.2 c.0 c.1 r)
      ],
    );
    agree = inl (empty_agrees empty v is well.maps r low B choice);
    tracked = λ m snap clear. absurd (in_none v.snaps m is.alone snap);
  },
  λ b lt p one.
      let r = b / v.region in
      let read = read_of v.state v r p is.filled one in
      let parts = both_parts (is_available p) (is_unmarked_by_some v r p.map || is_alone v) read.1 in
      elim (or_cases (is_unmarked_by_some v r p.map) (is_alone v) parts.1) [
        | inl some ↦
            let c = one_from_any (λ (c : LogCopy). not (c r p.map)) v.copies some in
            let q = is.marked c.0 c.1 r (below_count b v.length v.region well.region lt) p read.0 (not_true (c.0 r p.map) c.2) in
            subst (λ (value : List ℕ). IsAmong (candidates_read empty b) value) (sym (q.2.values b)) (empty_read empty.state empty b (b / empty.region) q.0 is.empty_is q.1)
        | inr alone ↦ not_both (both_parts (has_no_copy v) (length v.plexes == 1) alone).0 is.copy
      ],
)

-- ---- a new life

pub each_settled_volume_begins : EachSettledVolumeBegins
each_settled_volume_begins regions happenings fresh fits settled length size =
    let kept = keeps_run happenings regions (λ k. kept_from_fresh (regions k) (fresh k)) fits in
    let after = run happenings regions in
    record {
      list = list_of size after kept settled;
      lists = λ r. (settled_begins (after r) (kept r) (settled r)).0;
      own = λ b. refl;
      fresh = λ r. (settled_begins (after r) (kept r) (settled r)).1.fresh;
      life = record { candidates = λ b lt. refl; last = λ r. refl };
    }
