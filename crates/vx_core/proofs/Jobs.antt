-- Each rule of a write leads from a sound region to a sound one.
use Rattle.std.proofs.Common.{◌≡◌, ◌≢◌, ℕ, ◌<◌, ◌^◌, ◌⊎◌, inl, inr, Bool, true, false, refl, sym, ◌∙◌, ap, subst, arith, cond}
use Rattle.std.specs.Prelude.{◌||◌, ◌==◌}
use Rattle.vx_core.specs.declared.stage.Job.{Job}
use Rattle.vx_core.specs.declared.stage.Act.{Act}
use Rattle.vx_core.specs.declared.stage.Step.{Step}
use Rattle.vx_core.specs.declared.stage.Work.{Work}
use Rattle.vx_core.specs.declared.stage.Stage.{Stage}
use Rattle.vx_core.specs.declared.stage.Job.TheVariants.{Write as WriteJob}
use Rattle.vx_core.specs.declared.stage.Act.TheVariants.{Done, Fault, Lost}
use Rattle.vx_core.specs.declared.stage.Step.TheVariants.{Write as AtWrite, MarkFailed as AtMarkFailed}
use Rattle.vx_core.specs.declared.stage.Phase.TheVariants.{Settled, Unsettled, Dead, Busy}
use Rattle.vx_base.specs.Blocks.{Contents}
use Rattle.vx_mask.specs.Mask.{has, only, union, lowest, above_lowest}
use Rattle.vx_mask.specs.Marks.{AllGain, MayGain}
use Rattle.vx_mask.proofs.MaskLemmas.{has-zero, has-lowest, lowest-lt, without-lt, union-lt, only-lt, one, empty_from_test, some_from_test}
use Rattle.vx_mask.proofs.Sets.{union_parts, without_parts}
use Rattle.vx_mask.proofs.Tests.{not_both, true_or_false, and_none, right_false}
use Rattle.vx_core.specs.Table.{current, ended, busy, write, written, wrote, marked_failed}
use Rattle.vx_core.specs.History.{overlaid}
use Rattle.vx_core.specs.Region.{Disks, Around, Gets, MayGet, SameMarks, CallOf}
use Rattle.vx_core.specs.Soundness.{IsUnmarked, Agree, IsDirty, IsOpenStep, IsMarkedForWrite}
use Rattle.vx_core.specs.Form.{IsStage}
use Rattle.vx_core.proofs.Base.{IsBase, MayAgree, Lands, holds_from_base, lands_settled_fault, lands_unsettled_fault, lands_lost, lands_done}
use Rattle.vx_core.proofs.Effects.{with_disks, HasFree, base_after_gain, base_after_wrong_mark}
use Rattle.vx_core.proofs.Facts.{IsWriting, reached_of}
use Rattle.vx_core.proofs.Writes.{write_reaches, write_misses, unmarked_current, marked_agrees, base_after_call, may_get, base_after_write_done, good_of, failed_of, good_in, failed_in}

-- both ways of an `if`
pub if_lands : (b : Bool) (x y : Stage × Act) (a : Around) (p : Contents) → (b ≡ true → Lands x a p) → (b ≡ false → Lands y a p) → Lands (cond b x y) a p
if_lands true x y a p here there = here refl
if_lands false x y a p here there = there refl

abbrev pub mk : Job → Step → ℕ → ℕ → ℕ → ℕ → Work
mk job step source left good failed = record { job = job; step = step; source = source; left = left; good = good; failed = failed }

-- ---- write

pub agree_or_open : (s : Stage) (w : Work) (a : Around) → Agree a (has s.bits) ⊎ IsDirty s a.fixed.held (has s.bits) → IsOpenStep w.step → MayAgree (record s { phase = Busy w }) (Busy w) a
agree_or_open s w a (inl agree) open_step = inl agree
agree_or_open s w a (inr dirty) open_step = inr (open_step, dirty)

-- the call goes on to the plexes that are left
lands_write_on : (s : Stage) (source left good failed : ℕ) (a : Around) (p : Contents) → IsBase s a → CallOf WriteJob a.pending → IsMarkedForWrite s →
    left < 2 ^ 64 → good < 2 ^ 64 → failed < 2 ^ 64 → left ≢ 0 → IsWriting (current s) left good failed a.pending a.disks.blocks →
    Lands (busy s (mk WriteJob AtWrite source left good failed)) a p
lands_write_on s source left good failed a p base of marked fits fits_good fits_failed some writing =
    holds_from_base (λ k. refl) base
    (agree_or_open s (mk WriteJob AtWrite source left good failed) a (marked_agrees s a base marked) tt)
    marked (of, fits, fits_good, fits_failed, (writing.parted, some), reached_of writing)

-- each unmarked plex is good, so it holds the blocks of the write over the old ones
goods : (s : Stage) (good failed : ℕ) (a : Around) → IsStage s a.fixed.held → IsMarkedForWrite s → (w : IsWriting (current s) 0 good failed a.pending a.disks.blocks) →
    ((k : ℕ) → has (current s) k ≡ true → has failed k ≡ false) →
    (k i : ℕ) → IsUnmarked a (has s.bits) k → a.disks.blocks k i ≡ overlaid a.pending w.old i
goods s good failed a stage marked w none k i unmarked =
    let there = unmarked_current s a.fixed.held k stage marked unmarked.0 unmarked.1 in
    w.after k i (good_of (current s) good failed k w.parted there (none k there))

lands_write_done : (s : Stage) (a : Around) (p : Contents) (old : Contents) → IsBase s a → CallOf WriteJob a.pending →
    ((k i : ℕ) → IsUnmarked a (has s.bits) k → a.disks.blocks k i ≡ overlaid a.pending old i) →
    Lands (ended s Settled Done) a p
lands_write_done s a p old base of same =
    lands_done s a p (base_after_write_done s a p old of base same)
    (λ j k i at_j at_k. same j i at_j ∙ sym (same k i at_k))

lands_all_failed : (s : Stage) (b : Bool) (a : Around) (p : Contents) → IsBase s a → IsMarkedForWrite s → (b ≡ true → Agree a (has s.bits)) →
    Lands (ended s (cond b Settled Unsettled) Fault) a p
lands_all_failed s true a p base marked agree = lands_settled_fault s a p base (agree refl)
lands_all_failed s false a p base marked agree = lands_unsettled_fault s a p base (marked_agrees s a base marked)

-- the last plex has been written
lands_written : (s : Stage) (source good failed : ℕ) (a : Around) (p : Contents) → IsBase s a → CallOf WriteJob a.pending → IsMarkedForWrite s →
    good < 2 ^ 64 → failed < 2 ^ 64 → IsWriting (current s) 0 good failed a.pending a.disks.blocks →
    Lands (written s (mk WriteJob AtWrite source 0 good failed)) a p
lands_written s source good failed a p base of marked fits_good fits writing =
    if_lands (failed == 0) _ _ a p
    (λ none.
    lands_write_done s a p writing.old base of
    (goods s good failed a base.stage marked writing (λ k there. rw (empty_from_test failed none) (has-zero k))))
    (λ some.
    if_lands (good == 0) _ _ a p
    (λ none.
    lands_all_failed s (above_lowest failed == 0) a p base marked
    (λ single j k i at_j at_k.
    let is_lowest = λ (x : ℕ) (at_x : IsUnmarked a (has s.bits) x).
    one failed x fits (empty_from_test _ single)
    (failed_of (current s) good failed x writing.parted
    (unmarked_current s a.fixed.held x base.stage marked at_x.0 at_x.1)
    (rw (empty_from_test good none) (has-zero x))) in
    ap (λ x. a.disks.blocks x i) (is_lowest j at_j ∙ sym (is_lowest k at_k))))
    (λ reached.
    holds_from_base (λ k. refl) base
    (agree_or_open s (mk WriteJob AtMarkFailed source 0 good failed) a (marked_agrees s a base marked) tt)
    tt (
      of,
      omega arith,
      fits_good,
      fits,
      inr (writing.parted, marked, some_from_test good reached, some_from_test failed some, refl),
      ((λ none. absurd (some_from_test good reached none)), (λ some_good. reached_of writing)),
    )))

lands_wrote : (s : Stage) (source left good failed : ℕ) (a : Around) (p : Contents) → IsBase s a → CallOf WriteJob a.pending → IsMarkedForWrite s →
    left < 2 ^ 64 → good < 2 ^ 64 → failed < 2 ^ 64 → IsWriting (current s) left good failed a.pending a.disks.blocks →
    Lands (wrote s (mk WriteJob AtWrite source left good failed)) a p
lands_wrote s source left good failed a p base of marked fits fits_good fits_failed writing =
    if_lands (left == 0) _ _ a p
    (λ none.
    let e = empty_from_test left none in
    let last : IsWriting (current s) 0 good failed a.pending a.disks.blocks = subst (λ (l : ℕ). IsWriting (current s) l good failed a.pending a.disks.blocks) e writing in
    subst (λ (l : ℕ). Lands (written s (mk WriteJob AtWrite source l good failed)) a p) (sym e)
    (lands_written s source good failed a p base of marked fits_good fits_failed last))
    (λ some. lands_write_on s source left good failed a p base of marked fits fits_good fits_failed (some_from_test left some) writing)

-- a write call has reached the lowest plex of those left, or has missed it
pub lands_reached : (s : Stage) (source left good failed : ℕ) (a : Around) (now : Disks) (p : Contents) → IsBase s a → CallOf WriteJob a.pending → IsMarkedForWrite s →
    left < 2 ^ 64 → good < 2 ^ 64 → failed < 2 ^ 64 → left ≢ 0 → IsWriting (current s) left good failed a.pending a.disks.blocks →
    Gets (lowest left) (overlaid a.pending (a.disks.blocks (lowest left))) a.disks.blocks now.blocks → SameMarks a.disks now →
    Lands (wrote s (mk WriteJob AtWrite source (above_lowest left) (union good (only (lowest left))) failed)) (with_disks a now) p
lands_reached s source left good failed a now p base of marked fits fits_good fits_failed some writing gets same =
    lands_wrote s source (above_lowest left) (union good (only (lowest left))) failed (with_disks a now) p
    (base_after_call s a (lowest left) now base marked same (may_get (lowest left) (overlaid a.pending (a.disks.blocks (lowest left))) a.disks.blocks now.blocks gets))
    of marked (without-lt left (only (lowest left)) fits) (union-lt good (only (lowest left)) fits_good (only-lt (lowest left))) fits_failed
    (write_reaches (current s) left good failed (lowest left) a now writing (has-lowest left some fits) (lowest-lt left some fits) gets)

pub lands_missed : (s : Stage) (source left good failed : ℕ) (a : Around) (now : Disks) (p : Contents) → IsBase s a → CallOf WriteJob a.pending → IsMarkedForWrite s →
    left < 2 ^ 64 → good < 2 ^ 64 → failed < 2 ^ 64 → left ≢ 0 → IsWriting (current s) left good failed a.pending a.disks.blocks →
    MayGet (lowest left) (overlaid a.pending (a.disks.blocks (lowest left))) a.disks.blocks now.blocks → SameMarks a.disks now →
    Lands (wrote s (mk WriteJob AtWrite source (above_lowest left) good (union failed (only (lowest left))))) (with_disks a now) p
lands_missed s source left good failed a now p base of marked fits fits_good fits_failed some writing gets same =
    lands_wrote s source (above_lowest left) good (union failed (only (lowest left))) (with_disks a now) p
    (base_after_call s a (lowest left) now base marked same gets)
    of marked (without-lt left (only (lowest left)) fits) fits_good (union-lt failed (only (lowest left)) fits_failed (only-lt (lowest left)))
    (write_misses (current s) left good failed (lowest left) a now writing (has-lowest left some fits) (lowest-lt left some fits) gets)

-- ---- the failed plexes of a write are marked

-- a good plex is on, clean and not among the failed
good_free : (s : Stage) (good failed : ℕ) (a : Around) → IsStage s a.fixed.held → good ≢ 0 → good < 2 ^ 64 → IsWriting (current s) 0 good failed a.pending a.disks.blocks → HasFree s a failed
good_free s good failed a stage some fits writing =
    let there = has-lowest good some fits in
    let parts = without_parts _ _ _ (good_in (current s) 0 good failed (lowest good) writing.parted there) in
    (lowest good, parts.0, parts.1, right_false (has good (lowest good)) (has failed (lowest good)) (writing.parted.good_failed (lowest good)) there)

pub agree_moved : (a : Around) (now : Disks) (B : ℕ → Bool) → now.blocks ≡ a.disks.blocks → Agree a B → Agree (with_disks a now) B
agree_moved a now B same agree = rw same agree

-- the failed plexes of a write are on, and there is a log
failed_clean : (s : Stage) (good failed : ℕ) (a : Around) → IsWriting (current s) 0 good failed a.pending a.disks.blocks → (k : ℕ) → has failed k ≡ true → (has s.on k ≡ true) × (has s.bits k ≡ false)
failed_clean s good failed a writing k there = without_parts _ _ _ (failed_in (current s) 0 good failed k writing.parted there)

pub failed_logged : (s : Stage) (good failed : ℕ) (a : Around) → IsStage s a.fixed.held → good ≢ 0 → good < 2 ^ 64 → IsWriting (current s) 0 good failed a.pending a.disks.blocks →
    s.logged ≡ false → (k : ℕ) → has failed k ≡ false
failed_logged s good failed a stage some fits writing plain k =
    elim (true_or_false (has failed k)) [
      | inr none ↦ none
      | inl there ↦
          let free = good_free s good failed a stage some fits writing in
          let e : k ≡ free.0 = stage.alone plain k free.0 (failed_clean s good failed a writing k there).0 free.1 in
          let moved : has failed free.0 ≡ true = rw (sym e) there in
          not_both moved free.3
    ]

zero_test : (n : ℕ) → n ≢ 0 → (n == 0) ≡ true → ⊥
zero_test n some test = some (empty_from_test n test)

pub lands_write_marked : (s : Stage) (source left good failed : ℕ) (a : Around) (now : Disks) (p : Contents) → IsBase s a → CallOf WriteJob a.pending → IsMarkedForWrite s →
    good < 2 ^ 64 → failed < 2 ^ 64 → good ≢ 0 → IsWriting (current s) 0 good failed a.pending a.disks.blocks → now.blocks ≡ a.disks.blocks → AllGain failed a.disks.marks now.marks →
    Lands (marked_failed (record s { bits = union s.bits failed }) (mk WriteJob AtMarkFailed source left good failed)) (with_disks a now) p
lands_write_marked s source left good failed a now p base of marked fits_good fits some writing same gain =
    let base_now = base_after_gain s a failed now base same gain fits (good_free s good failed a base.stage some fits_good writing)
    (failed_logged s good failed a base.stage some fits_good writing) in
    if_lands (good == 0) _ _ (with_disks a now) p
    (λ none. absurd (zero_test good some none))
    (λ reached.
    lands_write_done (record s { bits = union s.bits failed }) (with_disks a now) p writing.old base_now of
    (λ k i unmarked.
    let parts = union_parts _ _ _ unmarked.1 in
    let there = unmarked_current s a.fixed.held k base.stage marked unmarked.0 parts.0 in
    rw same (writing.after k i (good_of (current s) good failed k writing.parted there parts.1))))

base_failed_unmarked : (s : Stage) (good failed : ℕ) (a : Around) (now : Disks) → IsBase s a → good ≢ 0 → good < 2 ^ 64 →
    IsWriting (current s) 0 good failed a.pending a.disks.blocks → now.blocks ≡ a.disks.blocks → MayGain failed a.disks.marks now.marks → IsBase s (with_disks a now)
base_failed_unmarked s good failed a now base some fits_good writing same wrong =
    base_after_wrong_mark s a failed now base same wrong (good_free s good failed a base.stage some fits_good writing)
    (λ k there. (failed_clean s good failed a writing k there).1)

pub lands_write_unmarked : (s : Stage) (good failed : ℕ) (a : Around) (now : Disks) (p : Contents) → IsBase s a → IsMarkedForWrite s → good ≢ 0 → good < 2 ^ 64 →
    IsWriting (current s) 0 good failed a.pending a.disks.blocks → now.blocks ≡ a.disks.blocks → MayGain failed a.disks.marks now.marks →
    Lands (ended s Unsettled Fault) (with_disks a now) p
lands_write_unmarked s good failed a now p base marked some fits_good writing same wrong =
    let base_now = base_failed_unmarked s good failed a now base some fits_good writing same wrong in
    lands_unsettled_fault s (with_disks a now) p base_now (marked_agrees s (with_disks a now) base_now marked)

pub lands_write_mark_cut : (s : Stage) (good failed : ℕ) (a : Around) (now : Disks) (p : Contents) → IsBase s a → IsMarkedForWrite s → good ≢ 0 → good < 2 ^ 64 →
    IsWriting (current s) 0 good failed a.pending a.disks.blocks → now.blocks ≡ a.disks.blocks → MayGain failed a.disks.marks now.marks →
    Lands (ended s Dead Lost) (with_disks a now) p
lands_write_mark_cut s good failed a now p base marked some fits_good writing same wrong =
    let base_now = base_failed_unmarked s good failed a now base some fits_good writing same wrong in
    lands_lost s (with_disks a now) p base_now (marked_agrees s (with_disks a now) base_now marked)

pub lands_write_cut : (s : Stage) (k0 : ℕ) (a : Around) (now : Disks) (p : Contents) → IsBase s a → IsMarkedForWrite s →
    MayGet k0 (overlaid a.pending (a.disks.blocks k0)) a.disks.blocks now.blocks → SameMarks a.disks now →
    Lands (ended s Dead Lost) (with_disks a now) p
lands_write_cut s k0 a now p base marked gets same =
    let base_now = base_after_call s a k0 now base marked same gets in
    lands_lost s (with_disks a now) p base_now (marked_agrees s (with_disks a now) base_now marked)

-- ---- a write begins

or_none_right : (x : Bool) → x ≡ (x || (false || false))
or_none_right true = refl
or_none_right false = refl

pub current_unmarked : (s : Stage) (a : Around) → IsStage s a.fixed.held → (k : ℕ) → has (current s) k ≡ true → IsUnmarked a (has s.bits) k
current_unmarked s a stage k there = let parts = without_parts _ _ _ there in (stage.held_on k parts.0, parts.1)

all_left : (all k : ℕ) → has all k ≡ (has all k || (has 0 k || has 0 k))
all_left all k = rw (has-zero k) (or_none_right (has all k))

pub lands_write : (s : Stage) (a : Around) (p : Contents) → IsBase s a → Agree a (has s.bits) → CallOf WriteJob a.pending → IsMarkedForWrite s → Lands (write s) a p
lands_write s a p base agree of marked =
    if_lands (current s == 0) _ _ a p
    (λ none. lands_settled_fault s a p base agree)
    (λ some.
    lands_write_on s 0 (current s) 0 0 a p base of marked (without-lt s.on s.bits base.stage.on_fits) (omega arith) (omega arith) (some_from_test (current s) some)
    (record {
      parted = record {
        each = λ k. all_left (current s) k;
        left_good = λ k. rw (has-zero k) (and_none (has (current s) k));
        left_failed = λ k. rw (has-zero k) (and_none (has (current s) k));
        good_failed = λ k. rw (has-zero k) refl;
      };
      old = a.disks.blocks base.readable.0;
      before = λ k i there. agree k base.readable.0 i (current_unmarked s a base.stage k there) (base.stage.held_on base.readable.0 base.readable.1, base.readable.2);
      after = λ k i there. not_both there (has-zero k);
      torn = λ k i there. not_both there (has-zero k);
    }))
