-- A settling on its way: the other current plexes are made equal to the source.
use Rattle.std.proofs.Common.{◌≡◌, ◌≢◌, ℕ, ◌<◌, ◌^◌, ◌⊎◌, inl, inr, Bool, true, false, refl, sym, ◌∙◌, ap, subst, arith}
use Rattle.std.specs.Prelude.{◌==◌}
use Rattle.vx_core.specs.declared.stage.Job.{Job}
use Rattle.vx_core.specs.declared.stage.Stage.{Stage}
use Rattle.vx_core.specs.declared.stage.Act.TheVariants.{Fault, Lost}
use Rattle.vx_core.specs.declared.stage.Step.TheVariants.{MarkFailed as AtMarkFailed, Equal as AtEqual}
use Rattle.vx_core.specs.declared.stage.Phase.TheVariants.{Settled, Unsettled, Dead}
use Rattle.vx_base.specs.Blocks.{Contents}
use Rattle.vx_mask.specs.Mask.{has, only, union, without, lowest, above_lowest}
use Rattle.vx_mask.specs.Marks.{AllGain, MayGain}
use Rattle.vx_mask.proofs.MaskLemmas.{has-zero, has-only_same, has-only_other, has-lowest, has-lt, lowest-lt, without-lt, union-lt, only-lt, same_as_only, apart_from_only, empty_from_test, some_from_test}
use Rattle.vx_mask.proofs.Sets.{union_parts, union_cases, out_union, in_without, without_parts, out_without, out_without_left, out_of, same_or_not}
use Rattle.vx_mask.proofs.Tests.{not_both, true_or_false}
use Rattle.vx_core.specs.Table.{current, ended, level, marked_failed}
use Rattle.vx_core.specs.Region.{Disks, Around, Gets, MayGet, SameMarks, CallOf}
use Rattle.vx_core.specs.Soundness.{IsUnmarked, Agree, IsDirty}
use Rattle.vx_core.specs.Form.{IsStage}
use Rattle.vx_core.proofs.Base.{IsBase, Lands, MayDiffer, holds_from_base, lands_unsettled_fault, lands_lost}
use Rattle.vx_core.proofs.Effects.{with_disks, HasFree, base_after_gain, base_after_wrong_mark, base_after_write}
use Rattle.vx_core.proofs.Facts.{IsLevelling, level_of}
use Rattle.vx_core.proofs.Jobs.{mk, if_lands, agree_moved, agree_or_open, current_unmarked}
use Rattle.vx_core.proofs.Settles.{lands_start}
use Rattle.vx_core.proofs.Writes.{may_get}

-- in a dirty region an unmarked plex is current
dirty_current : (s : Stage) (held : ℕ → Bool) (k : ℕ) → IsStage s held → IsDirty s held (has s.bits) → held k ≡ true → has s.bits k ≡ false → has (current s) k ≡ true
dirty_current s held k stage dirty is_held none =
    elim (stage.plexes k is_held) [
      | inl on ↦ in_without _ _ _ on none
      | inr off ↦ not_both (dirty.off k off is_held) none
    ]

-- ---- one plex is made equal to the source

-- a plex that gets a part of the source's blocks
base_after_level : (s : Stage) (a : Around) (k0 source : ℕ) (now : Disks) → IsBase s a → IsUnmarked a (has s.bits) source → SameMarks a.disks now →
    MayGet k0 (a.disks.blocks source) a.disks.blocks now.blocks → IsBase s (with_disks a now)
base_after_level s a k0 source now base at_source same gets =
    base_after_write s a now base same
    (λ k i unmarked.
    elim (same_or_not k0 k) [
      | inr other ↦ rw (gets.others k i other) (base.candidates k i unmarked)
      | inl here ↦
          elim (gets.either i) [
            | inl kept ↦ rw (ap (λ x. now.blocks x i) here ∙ kept ∙ ap (λ x. a.disks.blocks x i) (sym here)) (base.candidates k i unmarked)
            | inr new ↦ rw (ap (λ x. now.blocks x i) here ∙ new) (base.candidates source i at_source)
          ]
    ])
    (λ m k i snap out unmarked.
    elim (same_or_not k0 k) [
      | inr other ↦ gets.others k i other ∙ base.tracked m k i snap out unmarked
      | inl here ↦
          elim (gets.either i) [
            | inl kept ↦ ap (λ x. now.blocks x i) here ∙ kept ∙ ap (λ x. a.disks.blocks x i) (sym here) ∙ base.tracked m k i snap out unmarked
            | inr new ↦ ap (λ x. now.blocks x i) here ∙ new ∙ base.tracked m source i snap out at_source
          ]
    ])

-- where the unmarked plexes agree, each holds still what the source held
level_like : (s : Stage) (a : Around) (k0 source : ℕ) (now : Disks) → IsUnmarked a (has s.bits) source → MayGet k0 (a.disks.blocks source) a.disks.blocks now.blocks →
    Agree a (has s.bits) → (k i : ℕ) → IsUnmarked a (has s.bits) k → now.blocks k i ≡ a.disks.blocks source i
level_like s a k0 source now at_source gets agree k i unmarked =
    elim (same_or_not k0 k) [
      | inr other ↦ gets.others k i other ∙ agree k source i unmarked at_source
      | inl here ↦
          elim (gets.either i) [
            | inl kept ↦ ap (λ x. now.blocks x i) here ∙ kept ∙ ap (λ x. a.disks.blocks x i) (sym here) ∙ agree k source i unmarked at_source
            | inr new ↦ ap (λ x. now.blocks x i) here ∙ new
          ]
    ]

may_differ_level : (s : Stage) (a : Around) (k0 source : ℕ) (now : Disks) → IsUnmarked a (has s.bits) source → MayGet k0 (a.disks.blocks source) a.disks.blocks now.blocks →
    MayDiffer s a → MayDiffer s (with_disks a now)
may_differ_level s a k0 source now at_source gets (inl agree) =
    let like = level_like s a k0 source now at_source gets agree in
    inl (λ j k i at_j at_k. like j i at_j ∙ sym (like k i at_k))
may_differ_level s a k0 source now at_source gets (inr dirty) = inr dirty

level_apart : (left source k0 : ℕ) → has left k0 ≡ true → has left source ≡ false → source ≢ k0
level_apart left source k0 there out e = let moved : has left k0 ≡ false = rw (sym e) out in not_both there moved

-- what is not among those left but for this one, is this one or was not among them
level_left : (left k0 k : ℕ) → has (without left (only k0)) k ≡ false → (has left k ≡ false) ⊎ (k ≡ k0)
level_left left k0 k out =
    elim (true_or_false (has left k)) [
      | inr none ↦ inl none
      | inl there ↦ inr (same_as_only k0 k (out_without _ _ _ out there))
    ]

level_reaches : (all source left failed k0 : ℕ) (a : Around) (now : Disks) → IsLevelling all source left failed a.disks.blocks → has left k0 ≡ true →
    Gets k0 (a.disks.blocks source) a.disks.blocks now.blocks → IsLevelling all source (without left (only k0)) failed now.blocks
level_reaches all source left failed k0 a now levelling there gets =
    let source_stays = λ (i : ℕ). gets.others source i (level_apart left source k0 there levelling.source_kept.0) in
    record {
      source_current = levelling.source_current;
      source_kept = (out_without_left left (only k0) source levelling.source_kept.0, levelling.source_kept.1);
      left_current = λ k h. levelling.left_current k (without_parts _ _ _ h).0;
      failed_current = levelling.failed_current;
      equal = λ k i in_all out not_failed.
          elim (same_or_not k0 k) [
            | inl here ↦ ap (λ x. now.blocks x i) here ∙ gets.gets i ∙ sym (source_stays i)
            | inr other ↦
                elim (level_left left k0 k out) [
                  | inl none ↦ gets.others k i other ∙ levelling.equal k i in_all none not_failed ∙ sym (source_stays i)
                  | inr here ↦ absurd (other here)
                ]
          ];
    }

level_misses : (all source left failed k0 : ℕ) (a : Around) (now : Disks) → IsLevelling all source left failed a.disks.blocks → has left k0 ≡ true → k0 < 64 →
    MayGet k0 (a.disks.blocks source) a.disks.blocks now.blocks → IsLevelling all source (without left (only k0)) (union failed (only k0)) now.blocks
level_misses all source left failed k0 a now levelling there low gets =
    let source_apart = level_apart left source k0 there levelling.source_kept.0 in
    let source_stays = λ (i : ℕ). gets.others source i source_apart in
    record {
      source_current = levelling.source_current;
      source_kept = (out_without_left left (only k0) source levelling.source_kept.0, out_union _ _ _ levelling.source_kept.1 (has-only_other k0 source source_apart));
      left_current = λ k h. levelling.left_current k (without_parts _ _ _ h).0;
      failed_current = λ k h.
          elim (union_cases _ _ _ h) [
            | inl old ↦ levelling.failed_current k old
            | inr here ↦ levelling.left_current k (rw (same_as_only k0 k here) there)
          ];
      equal = λ k i in_all out not_failed.
          let parts = union_parts _ _ _ not_failed in
          elim (level_left left k0 k out) [
            | inl none ↦ gets.others k i (apart_from_only k0 k low parts.1) ∙ levelling.equal k i in_all none parts.0 ∙ sym (source_stays i)
            | inr here ↦ absurd (apart_from_only k0 k low parts.1 here)
          ];
    }

-- ---- the end of a settling

-- each unmarked plex that has not failed holds what the source holds
levelled : (s : Stage) (source failed : ℕ) (a : Around) → IsStage s a.fixed.held → MayDiffer s a → IsLevelling (current s) source 0 failed a.disks.blocks →
    (k i : ℕ) → IsUnmarked a (has s.bits) k → has failed k ≡ false → a.disks.blocks k i ≡ a.disks.blocks source i
levelled s source failed a stage (inl agree) levelling k i unmarked none =
    agree k source i unmarked (current_unmarked s a stage source levelling.source_current)
levelled s source failed a stage (inr dirty) levelling k i unmarked none =
    levelling.equal k i (dirty_current s a.fixed.held k stage dirty unmarked.0 unmarked.1) (has-zero k) none

lands_levelled : (s : Stage) (job : Job) (source failed : ℕ) (a : Around) (p : Contents) → IsBase s a → MayDiffer s a → CallOf job a.pending →
    failed < 2 ^ 64 → IsLevelling (current s) source 0 failed a.disks.blocks →
    Lands (level s (mk job AtEqual source 0 0 failed)) a p
lands_levelled s job source failed a p base may of fits levelling =
    if_lands (failed == 0) _ _ a p
    (λ none.
    let like = λ (k i : ℕ) (unmarked : IsUnmarked a (has s.bits) k).
    levelled s source failed a base.stage may levelling k i unmarked (rw (empty_from_test failed none) (has-zero k)) in
    lands_start (record s { phase = Settled }) job a p base
    (λ j k i at_j at_k. like j i at_j ∙ sym (like k i at_k)) of)
    (λ some.
    holds_from_base (λ k. refl) base
    (agree_or_open s (mk job AtMarkFailed source 0 0 failed) a may tt) tt (
      of,
      omega arith,
      omega arith,
      fits,
      inl (level_of levelling, refl, some_from_test failed some),
      ((λ good. levelling.equal), (λ good. absurd (good refl))),
    ))

pub lands_level : (s : Stage) (job : Job) (source left failed : ℕ) (a : Around) (p : Contents) → IsBase s a → MayDiffer s a → CallOf job a.pending →
    left < 2 ^ 64 → failed < 2 ^ 64 → IsLevelling (current s) source left failed a.disks.blocks →
    Lands (level s (mk job AtEqual source left 0 failed)) a p
lands_level s job source left failed a p base may of fits fits_failed levelling =
    elim (true_or_false (left == 0)) [
      | inl none ↦
          let e = empty_from_test left none in
          let last : IsLevelling (current s) source 0 failed a.disks.blocks = subst (λ (l : ℕ). IsLevelling (current s) source l failed a.disks.blocks) e levelling in
          subst (λ (l : ℕ). Lands (level s (mk job AtEqual source l 0 failed)) a p) (sym e)
          (lands_levelled s job source failed a p base may of fits_failed last)
      | inr some ↦
          if_lands (left == 0) _ _ a p
          (λ none. not_both none some)
          (λ more.
          holds_from_base (λ k. refl) base
          (agree_or_open s (mk job AtEqual source left 0 failed) a may tt) tt
          (of, fits, omega arith, fits_failed, (level_of levelling, refl, some_from_test left more), levelling.equal))
    ]

-- the source is found
level_begins : (all source : ℕ) (a : Around) → has all source ≡ true → source < 64 → IsLevelling all source (without all (only source)) 0 a.disks.blocks
level_begins all source a there low =
    record {
      source_current = there;
      source_kept = (out_of all (only source) source (has-only_same source low), has-zero source);
      left_current = λ k h. (without_parts _ _ _ h).0;
      failed_current = λ k h. not_both h (has-zero k);
      equal = λ k i in_all out none.
          elim (level_left all source k out) [
            | inl nowhere ↦ not_both in_all nowhere
            | inr here ↦ ap (λ x. a.disks.blocks x i) here
          ];
    }

pub lands_found : (s : Stage) (job : Job) (source : ℕ) (a : Around) (p : Contents) → IsBase s a → MayDiffer s a → CallOf job a.pending → has (current s) source ≡ true →
    Lands (level s (mk job AtEqual source (without (current s) (only source)) 0 0)) a p
lands_found s job source a p base may of there =
    let fits : current s < 2 ^ 64 = without-lt s.on s.bits base.stage.on_fits in
    lands_level s job source (without (current s) (only source)) 0 a p base may of (without-lt (current s) (only source) fits) (omega arith)
    (level_begins (current s) source a there (has-lt (current s) source fits there))

pub lands_level_reached : (s : Stage) (job : Job) (source left failed : ℕ) (a : Around) (now : Disks) (p : Contents) → IsBase s a → MayDiffer s a → CallOf job a.pending →
    left < 2 ^ 64 → failed < 2 ^ 64 → left ≢ 0 → IsLevelling (current s) source left failed a.disks.blocks →
    Gets (lowest left) (a.disks.blocks source) a.disks.blocks now.blocks → SameMarks a.disks now →
    Lands (level s (mk job AtEqual source (above_lowest left) 0 failed)) (with_disks a now) p
lands_level_reached s job source left failed a now p base may of fits fits_failed some levelling gets same =
    let at_source = current_unmarked s a base.stage source levelling.source_current in
    let half = may_get (lowest left) (a.disks.blocks source) a.disks.blocks now.blocks gets in
    lands_level s job source (above_lowest left) failed (with_disks a now) p
    (base_after_level s a (lowest left) source now base at_source same half)
    (may_differ_level s a (lowest left) source now at_source half may)
    of (without-lt left (only (lowest left)) fits) fits_failed
    (level_reaches (current s) source left failed (lowest left) a now levelling (has-lowest left some fits) gets)

pub lands_level_missed : (s : Stage) (job : Job) (source left failed : ℕ) (a : Around) (now : Disks) (p : Contents) → IsBase s a → MayDiffer s a → CallOf job a.pending →
    left < 2 ^ 64 → failed < 2 ^ 64 → left ≢ 0 → IsLevelling (current s) source left failed a.disks.blocks →
    MayGet (lowest left) (a.disks.blocks source) a.disks.blocks now.blocks → SameMarks a.disks now →
    Lands (level s (mk job AtEqual source (above_lowest left) 0 (union failed (only (lowest left))))) (with_disks a now) p
lands_level_missed s job source left failed a now p base may of fits fits_failed some levelling gets same =
    let at_source = current_unmarked s a base.stage source levelling.source_current in
    lands_level s job source (above_lowest left) (union failed (only (lowest left))) (with_disks a now) p
    (base_after_level s a (lowest left) source now base at_source same gets)
    (may_differ_level s a (lowest left) source now at_source gets may)
    of (without-lt left (only (lowest left)) fits) (union-lt failed (only (lowest left)) fits_failed (only-lt (lowest left)))
    (level_misses (current s) source left failed (lowest left) a now levelling (has-lowest left some fits) (lowest-lt left some fits) gets)

pub lands_level_cut : (s : Stage) (k0 source : ℕ) (a : Around) (now : Disks) (p : Contents) → IsBase s a → MayDiffer s a → has (current s) source ≡ true →
    MayGet k0 (a.disks.blocks source) a.disks.blocks now.blocks → SameMarks a.disks now → Lands (ended s Dead Lost) (with_disks a now) p
lands_level_cut s k0 source a now p base may there gets same =
    let at_source = current_unmarked s a base.stage source there in
    lands_lost s (with_disks a now) p (base_after_level s a k0 source now base at_source same gets) (may_differ_level s a k0 source now at_source gets may)

-- ---- the failed plexes of a settling are marked

level_free : (s : Stage) (source failed : ℕ) (a : Around) → IsLevelling (current s) source 0 failed a.disks.blocks → HasFree s a failed
level_free s source failed a levelling =
    let parts = without_parts _ _ _ levelling.source_current in
    (source, parts.0, parts.1, levelling.source_kept.1)

level_logged : (s : Stage) (source failed : ℕ) (a : Around) → IsStage s a.fixed.held → IsLevelling (current s) source 0 failed a.disks.blocks → s.logged ≡ false → (k : ℕ) → has failed k ≡ false
level_logged s source failed a stage levelling plain k =
    elim (true_or_false (has failed k)) [
      | inr none ↦ none
      | inl there ↦
          let on = (without_parts _ _ _ (levelling.failed_current k there)).0 in
          let source_on = (without_parts _ _ _ levelling.source_current).0 in
          let e : k ≡ source = stage.alone plain k source on source_on in
          let moved : has failed source ≡ true = rw (sym e) there in
          not_both moved levelling.source_kept.1
    ]

pub lands_level_marked : (s : Stage) (job : Job) (source left failed : ℕ) (a : Around) (now : Disks) (p : Contents) → IsBase s a → MayDiffer s a → CallOf job a.pending →
    failed < 2 ^ 64 → IsLevelling (current s) source 0 failed a.disks.blocks → now.blocks ≡ a.disks.blocks → AllGain failed a.disks.marks now.marks →
    Lands (marked_failed (record s { bits = union s.bits failed }) (mk job AtMarkFailed source left 0 failed)) (with_disks a now) p
lands_level_marked s job source left failed a now p base may of fits levelling same gain =
    let like = λ (k i : ℕ) (unmarked : IsUnmarked a (has (union s.bits failed)) k).
    levelled s source failed a base.stage may levelling k i (unmarked.0, (union_parts _ _ _ unmarked.1).0) (union_parts _ _ _ unmarked.1).1 in
    lands_start (record s { bits = union s.bits failed; phase = Settled }) job (with_disks a now) p
    (base_after_gain s a failed now base same gain fits (level_free s source failed a levelling) (level_logged s source failed a base.stage levelling))
    (agree_moved a now (has (union s.bits failed)) same (λ j k i at_j at_k. like j i at_j ∙ sym (like k i at_k)))
    of

base_level_unmarked : (s : Stage) (source failed : ℕ) (a : Around) (now : Disks) → IsBase s a → IsLevelling (current s) source 0 failed a.disks.blocks →
    now.blocks ≡ a.disks.blocks → MayGain failed a.disks.marks now.marks → IsBase s (with_disks a now)
base_level_unmarked s source failed a now base levelling same wrong =
    base_after_wrong_mark s a failed now base same wrong (level_free s source failed a levelling)
    (λ k there. (without_parts _ _ _ (levelling.failed_current k there)).1)

pub may_differ_moved : (s : Stage) (a : Around) (now : Disks) → now.blocks ≡ a.disks.blocks → MayDiffer s a → MayDiffer s (with_disks a now)
may_differ_moved s a now same (inl agree) = inl (agree_moved a now (has s.bits) same agree)
may_differ_moved s a now same (inr dirty) = inr dirty

pub lands_level_unmarked : (s : Stage) (source failed : ℕ) (a : Around) (now : Disks) (p : Contents) → IsBase s a → MayDiffer s a → IsLevelling (current s) source 0 failed a.disks.blocks →
    now.blocks ≡ a.disks.blocks → MayGain failed a.disks.marks now.marks → Lands (ended s Unsettled Fault) (with_disks a now) p
lands_level_unmarked s source failed a now p base may levelling same wrong =
    lands_unsettled_fault s (with_disks a now) p (base_level_unmarked s source failed a now base levelling same wrong) (may_differ_moved s a now same may)

pub lands_level_mark_cut : (s : Stage) (source failed : ℕ) (a : Around) (now : Disks) (p : Contents) → IsBase s a → MayDiffer s a → IsLevelling (current s) source 0 failed a.disks.blocks →
    now.blocks ≡ a.disks.blocks → MayGain failed a.disks.marks now.marks → Lands (ended s Dead Lost) (with_disks a now) p
lands_level_mark_cut s source failed a now p base may levelling same wrong =
    lands_lost s (with_disks a now) p (base_level_unmarked s source failed a now base levelling same wrong) (may_differ_moved s a now same may)
