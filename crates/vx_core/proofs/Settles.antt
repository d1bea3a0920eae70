-- Reads, copies, clears, and the beginning of a settling.
use Rattle.std.proofs.Common.{◌≡◌, ◌≢◌, ℕ, ◌<◌, ◌^◌, inl, inr, true, false, refl, sym, ◌∙◌, ap, arith}
use Rattle.std.specs.Prelude.{◌&&◌, ◌==◌}
use Rattle.vx_core.specs.declared.stage.Job.{Job}
use Rattle.vx_core.specs.declared.stage.Work.{Work}
use Rattle.vx_core.specs.declared.stage.Stage.{Stage}
use Rattle.vx_core.specs.declared.stage.Job.TheVariants.{Read as ReadJob, Write as WriteJob, Copy as CopyJob, Settle, Clear}
use Rattle.vx_core.specs.declared.stage.Act.TheVariants.{Done, Fault, Lost}
use Rattle.vx_core.specs.declared.stage.Step.TheVariants.{Find as AtFind, Copy as AtCopy, Unmark as AtUnmark, Read as AtRead}
use Rattle.vx_core.specs.declared.stage.Phase.TheVariants.{Settled, Dead, Busy}
use Rattle.vx_base.specs.Blocks.{Contents}
use Rattle.vx_mask.specs.Mask.{has, only, without, lowest, above_lowest}
use Rattle.vx_mask.specs.Marks.{AllLose, MayLose}
use Rattle.vx_mask.proofs.MaskLemmas.{has-lowest, without-lt, same_as_only, empty_from_test, some_from_test}
use Rattle.vx_mask.proofs.Sets.{without_parts, left_out}
use Rattle.vx_mask.proofs.Tests.{not_both, or_from_left, or_from_right, or_cases, or_none, and_not, and_not_parts, both_parts, never_true}
use Rattle.vx_core.specs.Table.{current, need, freed_by, ended, busy, read_from, copy, settle, start, offered}
use Rattle.vx_core.specs.Region.{Disks, Around, Gets, MayGet, SameMarks, CallOf, AreOf}
use Rattle.vx_core.specs.Soundness.{IsUnmarked, Agree}
use Rattle.vx_core.specs.Form.{IsStage, IsFinding}
use Rattle.vx_core.proofs.Base.{Holds, IsBase, Lands, MayDiffer, ends_with, holds_from_base, lands_settled_fault, lands_unsettled_fault, lands_lost, lands_done}
use Rattle.vx_core.proofs.Begins.{marked_if_none_needed, no_call_copy, no_call_settle, no_call_clear, lands_quiet_done, lands_skipped, IsFreed, lands_clear_begun, lands_copied, bit_logged}
use Rattle.vx_core.proofs.Effects.{with_disks, base_after_write}
use Rattle.vx_core.proofs.Histories.{read_candidate, done_read_record}
use Rattle.vx_core.proofs.Jobs.{mk, if_lands, agree_or_open, lands_write, current_unmarked}

-- ---- the dirty bit may go where the unmarked plexes agree

still_unmarked : (s : Stage) (a : Around) (k : ℕ) → IsStage s a.fixed.held → IsUnmarked a (has (without s.bits (only 30))) k → IsUnmarked a (has s.bits) k
still_unmarked s a k stage unmarked =
    elim (left_out s.bits 30 k unmarked.1) [
      | inl none ↦ (unmarked.0, none)
      | inr same ↦
          let is_held : a.fixed.held 30 ≡ true = rw (sym same) unmarked.0 in
          elim (stage.plexes 30 is_held) [ inl on ↦ not_both on stage.dirty_apart.0 | inr off ↦ not_both off stage.dirty_apart.1 ]
    ]

clear_freed : (s : Stage) (a : Around) → IsBase s a → Agree a (has s.bits) → has s.bits 30 ≡ true → IsFreed s a (only 30)
clear_freed s a base agree dirty =
    record {
      claimed = λ k same. rw (same_as_only 30 k same) dirty;
      candidates = λ k i unmarked. base.candidates k i (still_unmarked s a k base.stage unmarked);
      agree = λ j k i at_j at_k. agree j k i (still_unmarked s a j base.stage at_j) (still_unmarked s a k base.stage at_k);
      tracked = λ m k i snap out unmarked.
          elim (left_out s.bits 30 m out) [
            | inl none ↦ base.tracked m k i snap none (still_unmarked s a k base.stage unmarked)
            | inr same ↦
                let snap_30 : has s.snaps 30 ≡ true = rw (sym same) snap in
                not_both snap_30 base.stage.dirty_apart.2
          ];
    }

-- ---- a plex may be unmarked once it holds what an unmarked plex holds

like_source : (s : Stage) (a : Around) (plex source : ℕ) → Agree a (has s.bits) → IsUnmarked a (has s.bits) source →
    ((i : ℕ) → a.disks.blocks plex i ≡ a.disks.blocks source i) →
    (k i : ℕ) → IsUnmarked a (has (without s.bits (only plex))) k → a.disks.blocks k i ≡ a.disks.blocks source i
like_source s a plex source agree at_source same k i unmarked =
    elim (left_out s.bits plex k unmarked.1) [
      | inl none ↦ agree k source i (unmarked.0, none) at_source
      | inr here ↦ ap (λ x. a.disks.blocks x i) here ∙ same i
    ]

copy_freed : (s : Stage) (a : Around) (plex source : ℕ) → IsBase s a → Agree a (has s.bits) → has s.on plex ≡ true → has s.bits plex ≡ true →
    IsUnmarked a (has s.bits) source → ((i : ℕ) → a.disks.blocks plex i ≡ a.disks.blocks source i) → IsFreed s a (only plex)
copy_freed s a plex source base agree on bit at_source same =
    let like = like_source s a plex source agree at_source same in
    record {
      claimed = λ k here. rw (same_as_only plex k here) bit;
      candidates = λ k i unmarked. rw (like k i unmarked) (base.candidates source i at_source);
      agree = λ j k i at_j at_k. like j i at_j ∙ sym (like k i at_k);
      tracked = λ m k i snap out unmarked.
          elim (left_out s.bits plex m out) [
            | inl none ↦ like k i unmarked ∙ base.tracked m source i snap none at_source
            | inr here ↦
                let snap_here : has s.snaps plex ≡ true = rw (sym here) snap in
                not_both snap_here (base.stage.snaps_apart plex on)
          ];
    }

-- ---- what a marked plex gets changes nothing

not_marked : (s : Stage) (a : Around) (plex k : ℕ) → has s.bits plex ≡ true → IsUnmarked a (has s.bits) k → k ≢ plex
not_marked s a plex k bit unmarked e = let moved : has s.bits k ≡ true = rw e bit in not_both moved unmarked.1

base_after_marked_plex : (s : Stage) (a : Around) (plex : ℕ) (now : Disks) → IsBase s a → has s.bits plex ≡ true → SameMarks a.disks now →
    ((j i : ℕ) → j ≢ plex → now.blocks j i ≡ a.disks.blocks j i) → IsBase s (with_disks a now)
base_after_marked_plex s a plex now base bit same others =
    base_after_write s a now base same
    (λ k i unmarked. rw (others k i (not_marked s a plex k bit unmarked)) (base.candidates k i unmarked))
    (λ m k i snap out unmarked. others k i (not_marked s a plex k bit unmarked) ∙ base.tracked m k i snap out unmarked)

agree_after_marked_plex : (s : Stage) (a : Around) (plex : ℕ) (now : Disks) → has s.bits plex ≡ true →
    ((j i : ℕ) → j ≢ plex → now.blocks j i ≡ a.disks.blocks j i) → Agree a (has s.bits) → Agree (with_disks a now) (has s.bits)
agree_after_marked_plex s a plex now bit others agree j k i at_j at_k =
    others j i (not_marked s a plex j bit at_j) ∙ agree j k i at_j at_k ∙ sym (others k i (not_marked s a plex k bit at_k))

pub lands_copy_wrote : (s : Stage) (plex source left good failed : ℕ) (a : Around) (now : Disks) (p : Contents) → IsBase s a → Agree a (has s.bits) →
    CallOf (CopyJob plex) a.pending → has s.on plex ≡ true → has s.bits plex ≡ true → has (current s) source ≡ true →
    left < 2 ^ 64 → good < 2 ^ 64 → failed < 2 ^ 64 → Gets plex (a.disks.blocks source) a.disks.blocks now.blocks → SameMarks a.disks now →
    Lands (busy (record s { bits = without s.bits (only plex) }) (mk (CopyJob plex) AtUnmark source left good failed)) (with_disks a now) p
lands_copy_wrote s plex source left good failed a now p base agree of on bit there fits fits_good fits_failed gets same =
    let at_source = current_unmarked s a base.stage source there in
    let base_now = base_after_marked_plex s a plex now base bit same gets.others in
    lands_copied s plex source left good failed (with_disks a now) p (bit_logged s a.fixed.held plex base.stage bit) base_now
    (copy_freed s (with_disks a now) plex source base_now (agree_after_marked_plex s a plex now bit gets.others agree) on bit at_source
    (λ i. gets.gets i ∙ sym (gets.others source i (not_marked s a plex source bit at_source))))
    of on fits fits_good fits_failed

pub lands_copy_failed : (s : Stage) (plex source : ℕ) (a : Around) (now : Disks) (p : Contents) → IsBase s a → Agree a (has s.bits) → has s.bits plex ≡ true →
    MayGet plex (a.disks.blocks source) a.disks.blocks now.blocks → SameMarks a.disks now → Lands (ended s Settled Fault) (with_disks a now) p
lands_copy_failed s plex source a now p base agree bit gets same =
    lands_settled_fault s (with_disks a now) p (base_after_marked_plex s a plex now base bit same gets.others) (agree_after_marked_plex s a plex now bit gets.others agree)

pub lands_copy_cut : (s : Stage) (plex source : ℕ) (a : Around) (now : Disks) (p : Contents) → IsBase s a → Agree a (has s.bits) → has s.bits plex ≡ true →
    MayGet plex (a.disks.blocks source) a.disks.blocks now.blocks → SameMarks a.disks now → Lands (ended s Dead Lost) (with_disks a now) p
lands_copy_cut s plex source a now p base agree bit gets same =
    lands_lost s (with_disks a now) p (base_after_marked_plex s a plex now base bit same gets.others) (inl (agree_after_marked_plex s a plex now bit gets.others agree))

-- ---- a mark has been taken away, or not

pub base_after_lose : (s : Stage) (w : Work) (a : Around) (now : Disks) → Holds s (Busy (record w { step = AtUnmark })) a → ((k : ℕ) → has (freed_by w.job) k ≡ true → has s.bits k ≡ false) →
    now.blocks ≡ a.disks.blocks → AllLose (freed_by w.job) a.disks.marks now.marks → IsBase s (with_disks a now)
base_after_lose s w a now holds apart same lost =
    record {
      stage = holds.stage;
      apart = λ k loose. not_both loose (lost.loose k);
      shown = λ n k copy bit.
          lost.shows n k ∙ and_not _ _ (and_not _ _ (holds.ends.shown n k copy bit) (never_true _ _ (holds.apart k) bit)) (never_true _ _ (apart k) bit);
      bounded = λ n k copy shows.
          let parts = and_not_parts _ _ (sym (lost.shows n k) ∙ shows) in
          let shown = and_not_parts _ _ parts.0 in
          elim (holds.ends.bounded n k copy shown.0) [
            | inl bit ↦ inl bit
            | inr rest ↦ elim rest [ inl loose ↦ not_both loose shown.1 | inr freed ↦ not_both freed parts.1 ]
          ];
      readable = let r = holds.ends.readable in (r.0, r.1, r.2.bits, lost.loose r.0);
      candidates = λ k i unmarked. rw same (holds.ends.candidates k i unmarked);
      tracked = λ m k i snap out unmarked. rw same (holds.ends.tracked m k i snap out unmarked);
      history = holds.history;
    }

pub base_after_wrong_unmark : (s : Stage) (w : Work) (a : Around) (now : Disks) → Holds s (Busy (record w { step = AtUnmark })) a → ((k : ℕ) → has (freed_by w.job) k ≡ true → has s.bits k ≡ false) →
    now.blocks ≡ a.disks.blocks → MayLose (freed_by w.job) a.disks.marks now.marks → IsBase s (with_disks a now)
base_after_wrong_unmark s w a now holds apart same (inl lost) =
    record {
      stage = holds.stage;
      apart = λ k loose. elim (or_cases _ _ (sym (lost.loose k) ∙ loose)) [ inl old ↦ holds.apart k old | inr freed ↦ apart k freed ];
      shown = λ n k copy bit.
          elim (lost.shows n k) [ inl kept ↦ kept ∙ holds.ends.shown n k copy bit | inr gone ↦ not_both gone.0 (never_true _ _ (holds.apart k) bit) ];
      bounded = λ n k copy shows.
          elim (lost.shows n k) [
            | inl kept ↦
                elim (holds.ends.bounded n k copy (sym kept ∙ shows)) [
                  | inl bit ↦ inl bit
                  | inr rest ↦ inr (lost.loose k ∙ elim rest [ inl loose ↦ or_from_left _ _ loose | inr freed ↦ or_from_right _ _ freed ])
                ]
            | inr gone ↦ not_both shows gone.1
          ];
      readable = let r = holds.ends.readable in (r.0, r.1, r.2.bits, lost.loose r.0 ∙ or_none _ _ r.2.loose r.2.freeing);
      candidates = λ k i unmarked. rw same (holds.ends.candidates k i unmarked);
      tracked = λ m k i snap out unmarked. rw same (holds.ends.tracked m k i snap out unmarked);
      history = holds.history;
    }
base_after_wrong_unmark s w a now holds apart same (inr lost) =
    record {
      stage = holds.stage;
      apart = λ k loose. apart k (sym (lost.loose k) ∙ loose);
      shown = λ n k copy bit.
          elim (lost.shows n k) [
            | inl kept ↦ kept ∙ and_not _ _ (holds.ends.shown n k copy bit) (never_true _ _ (holds.apart k) bit)
            | inr gone ↦ not_both bit (apart k gone.0)
          ];
      bounded = λ n k copy shows.
          elim (lost.shows n k) [
            | inl kept ↦
                let parts = and_not_parts _ _ (sym kept ∙ shows) in
                elim (holds.ends.bounded n k copy parts.0) [
                  | inl bit ↦ inl bit
                  | inr rest ↦ elim rest [ inl loose ↦ not_both loose parts.1 | inr freed ↦ inr (lost.loose k ∙ freed) ]
                ]
            | inr gone ↦ not_both shows gone.1
          ];
      readable = let r = holds.ends.readable in (r.0, r.1, r.2.bits, lost.loose r.0 ∙ r.2.freeing);
      candidates = λ k i unmarked. rw same (holds.ends.candidates k i unmarked);
      tracked = λ m k i snap out unmarked. rw same (holds.ends.tracked m k i snap out unmarked);
      history = holds.history;
    }

-- ---- a read of a call

base_after_read : (s : Stage) (a : Around) (p : Contents) (k : ℕ) → IsBase s a → Agree a (has s.bits) → IsUnmarked a (has s.bits) k →
    AreOf a.pending (a.disks.blocks k) p → IsBase s (ends_with Done a p)
base_after_read s a p k base agree at_k read =
    record {
      stage = base.stage;
      apart = base.apart;
      shown = base.shown;
      bounded = base.bounded;
      readable = base.readable;
      candidates = λ j i unmarked.
          read_candidate a.fixed.first a.entries a.pending p (a.disks.blocks k) i (a.disks.blocks j i) read (agree j k i unmarked at_k) (base.candidates j i unmarked);
      tracked = base.tracked;
      history =
          done_read_record a.fixed.region a.fixed.from a.fixed.first a.entries a.pending p (a.disks.blocks k) a.last read (λ i. base.candidates k i at_k) base.history;
    }

pub lands_read : (s : Stage) (a : Around) (p : Contents) (k : ℕ) → IsBase s a → Agree a (has s.bits) → has (current s) k ≡ true →
    AreOf a.pending (a.disks.blocks k) p → Lands (ended s Settled Done) a p
lands_read s a p k base agree there read =
    lands_done s a p (base_after_read s a p k base agree (current_unmarked s a base.stage k there) read) agree

pub lands_offered : (s : Stage) (source left good failed plex : ℕ) (a : Around) (p : Contents) → IsBase s a → Agree a (has s.bits) → CallOf ReadJob a.pending →
    left < 2 ^ 64 → good < 2 ^ 64 → failed < 2 ^ 64 → ((k : ℕ) → has left k ≡ true → has (current s) k ≡ true) →
    Lands (offered s (mk ReadJob AtRead source left good failed) (without left (only plex))) a p
lands_offered s source left good failed plex a p base agree of fits fits_good fits_failed inside =
    if_lands (without left (only plex) == 0) _ _ a p
    (λ none. lands_settled_fault s a p base agree)
    (λ some.
    holds_from_base (λ k. refl) base (inl agree) tt
    (of, without-lt left (only plex) fits, fits_good, fits_failed, ((λ k there. inside k (without_parts _ _ _ there).0), some_from_test (without left (only plex)) some), tt))

-- ---- the region is read from the plexes in turn

finding : (all left : ℕ) → left ≢ 0 → left < 2 ^ 64 → ((k : ℕ) → has left k ≡ true → has all k ≡ true) → IsFinding all (lowest left) (above_lowest left)
finding all left some fits inside =
    record {
      source_current = inside (lowest left) (has-lowest left some fits);
      left_current = λ k there. inside k (without_parts _ _ _ there).0;
    }

pub lands_copy : (s : Stage) (plex left : ℕ) (a : Around) (p : Contents) → IsBase s a → Agree a (has s.bits) → CallOf (CopyJob plex) a.pending →
    has s.on plex ≡ true → has s.bits plex ≡ true → left < 2 ^ 64 → ((k : ℕ) → has left k ≡ true → has (current s) k ≡ true) →
    Lands (copy s (CopyJob plex) left) a p
lands_copy s plex left a p base agree of on bit fits inside =
    if_lands (left == 0) _ _ a p
    (λ none. lands_settled_fault s a p base agree)
    (λ some.
    holds_from_base (λ k. refl) base (inl agree) tt (
      of,
      without-lt left (only (lowest left)) fits,
      omega arith,
      omega arith,
      (finding (current s) left (some_from_test left some) fits inside, on, bit),
      tt,
    ))

pub lands_settle : (s : Stage) (job : Job) (left : ℕ) (a : Around) (p : Contents) → IsBase s a → MayDiffer s a → CallOf job a.pending →
    left < 2 ^ 64 → ((k : ℕ) → has left k ≡ true → has (current s) k ≡ true) →
    Lands (settle s job left) a p
lands_settle s job left a p base may of fits inside =
    if_lands (left == 0) _ _ a p
    (λ none. lands_unsettled_fault s a p base may)
    (λ some.
    holds_from_base (λ k. refl) base (agree_or_open s (read_from job AtFind left) a may tt) tt (
      of,
      without-lt left (only (lowest left)) fits,
      omega arith,
      omega arith,
      (finding (current s) left (some_from_test left some) fits inside, refl, refl),
      tt,
    ))

-- ---- a job in a settled region

pub lands_start : (s : Stage) (job : Job) (a : Around) (p : Contents) → IsBase s a → Agree a (has s.bits) → CallOf job a.pending → Lands (start s job) a p
lands_start s WriteJob a p base agree of =
    if_lands (need s == 0) _ _ a p
    (λ none. lands_write s a p base agree of (marked_if_none_needed s (empty_from_test (need s) none)))
    (λ some.
    holds_from_base (λ k. refl) base (inl agree) tt
    (of, omega arith, omega arith, omega arith, some_from_test (need s) some, tt))
lands_start s ReadJob a p base agree of =
    if_lands (current s == 0) _ _ a p
    (λ none. lands_settled_fault s a p base agree)
    (λ some.
    holds_from_base (λ k. refl) base (inl agree) tt
    (of, without-lt s.on s.bits base.stage.on_fits, omega arith, omega arith, ((λ k there. there), some_from_test (current s) some), tt))
lands_start s (CopyJob k) a p base agree of =
    if_lands (has s.on k && has s.bits k) _ _ a p
    (λ there.
    let parts = both_parts _ _ there in
    lands_copy s k (current s) a p base agree of parts.0 parts.1 (without-lt s.on s.bits base.stage.on_fits) (λ j h. h))
    (λ out. lands_skipped s a p base agree (no_call_copy k a.pending of))
lands_start s Settle a p base agree of = lands_quiet_done s a p base agree (no_call_settle a.pending of)
lands_start s Clear a p base agree of =
    if_lands (has s.bits 30) _ _ a p
    (λ dirty. lands_clear_begun s 0 0 0 0 a p (bit_logged s a.fixed.held 30 base.stage dirty) base (clear_freed s a base agree dirty) of (omega arith) (omega arith) (omega arith))
    (λ out. lands_skipped s a p base agree (no_call_clear a.pending of))

pub lands_copy_read : (s : Stage) (plex source left good failed : ℕ) (a : Around) (p : Contents) → IsBase s a → Agree a (has s.bits) → CallOf (CopyJob plex) a.pending →
    left < 2 ^ 64 → good < 2 ^ 64 → failed < 2 ^ 64 → has s.on plex ≡ true → has s.bits plex ≡ true → has (current s) source ≡ true →
    Lands (busy s (mk (CopyJob plex) AtCopy source left good failed)) a p
lands_copy_read s plex source left good failed a p base agree of fits fits_good fits_failed on bit there =
    holds_from_base (λ k. refl) base (inl agree) tt
    (of, fits, fits_good, fits_failed, (there, on, bit), tt)
