-- Each event that fits keeps what is kept.
use Rattle.std.proofs.Common.{◌≡◌, ℕ, ◌⊎◌, inl, inr, true, false, refl, sym, subst, List}
use Rattle.vx_core.specs.declared.stage.Job.{Job}
use Rattle.vx_core.specs.declared.stage.Event.{Event}
use Rattle.vx_core.specs.declared.stage.Act.{Act}
use Rattle.vx_core.specs.declared.stage.Step.{Step}
use Rattle.vx_core.specs.declared.stage.Work.{Work}
use Rattle.vx_core.specs.declared.stage.Phase.{Phase}
use Rattle.vx_core.specs.declared.stage.Stage.{Stage}
use Rattle.vx_core.specs.declared.stage.Job.TheVariants.{Read as ReadJob, Write as WriteJob, Copy as CopyJob, Clear}
use Rattle.vx_core.specs.declared.stage.Event.TheVariants.{Begin, Marked, MarkFailed, Unmarked, UnmarkFailed, Wrote, WriteFailed, Got, ReadFailed, Cut}
use Rattle.vx_core.specs.declared.stage.Act.TheVariants.{Done, Fault, Lost}
use Rattle.vx_core.specs.declared.stage.Step.TheVariants.{Mark as AtMark, Write as AtWrite, MarkFailed as AtMarkFailed, Find as AtFind, Equal as AtEqual, Copy as AtCopy, Unmark as AtUnmark, Read as AtRead}
use Rattle.vx_core.specs.declared.stage.Phase.TheVariants.{Settled, Unsettled, Dead, Busy}
use Rattle.vx_base.specs.Blocks.{Contents}
use Rattle.vx_life.specs.Candidates.{IsAmong}
use Rattle.vx_life.specs.Entry.{Entry, candidates_of}
use Rattle.vx_mask.specs.Mask.{has, only, union, without, lowest, above_lowest}
use Rattle.vx_mask.specs.Marks.{AllLose, MayLose}
use Rattle.vx_mask.proofs.MaskLemmas.{without-lt, same_as_only}
use Rattle.vx_core.specs.Table.{current, freed_by, act_at, ended, settle, start, level, marked_failed, answered, begun, goes_on, next_of}
use Rattle.vx_core.specs.History.{Pending, NoCall, Reads, Writes, IsRecord, MayBegin, number_after}
use Rattle.vx_core.specs.Region.{Disks, Around, SameBlocks, GoesWrong, Answers, CallOf, ReadGives, FitsIn}
use Rattle.vx_core.specs.Soundness.{Agree}
use Rattle.vx_core.specs.Kept.{Keeps}
use Rattle.vx_core.proofs.Base.{Holds, IsBase, Lands, holds_from_kept, kept_from_holds, base_of, lands_settled_fault, lands_lost}
use Rattle.vx_core.proofs.Begins.{lands_marked, lands_mark_failed, lands_mark_cut, no_call_copy, no_call_clear, lands_quiet_done}
use Rattle.vx_core.proofs.Effects.{with_disks}
use Rattle.vx_core.proofs.Facts.{writing_of, levelling_of}
use Rattle.vx_core.proofs.Histories.{quiet_told, pending_may, begun_record}
use Rattle.vx_core.proofs.Jobs.{mk, agree_moved, lands_reached, lands_missed, lands_write_marked, lands_write_unmarked, lands_write_mark_cut, lands_write_cut}
use Rattle.vx_core.proofs.Levels.{lands_found, lands_level_reached, lands_level_missed, lands_level_cut, lands_level_marked, lands_level_unmarked, lands_level_mark_cut}
use Rattle.vx_core.proofs.Settles.{lands_start, lands_settle, lands_copy, lands_copy_read, lands_copy_wrote, lands_copy_failed, lands_copy_cut, lands_read, lands_offered, base_after_lose, base_after_wrong_unmark}
use Rattle.vx_core.proofs.Walk.{Cases, walk, at_step, NotCut}

agree_of : {A B : Type 0} → A ⊎ (⊥ × B) → A
agree_of (inl agree) = agree
agree_of (inr never) = absurd never.0

may_of : {A B C : Type 0} → A ⊎ (B × C) → A ⊎ C
may_of (inl agree) = inl agree
may_of (inr may) = inr may.1

-- the disks stay
stays : (x : Stage × Act) (s : Stage) (a : Around) (now : Disks) (p : Contents) → now ≡ a.disks → Lands x a p → Lands x (with_disks a now) p
stays x s a now p same lands = subst (λ (d : Disks). Lands x (with_disks a d) p) (sym same) lands

copy_apart : (s : Stage) (plex : ℕ) → has s.bits plex ≡ false → (k : ℕ) → has (only plex) k ≡ true → has s.bits k ≡ false
copy_apart s plex none k here = rw (same_as_only plex k here) none

-- the answer keeps what is kept
abbrev KeepsAt : Stage → Job → Step → Event → Type 0
KeepsAt s job step event =
    (source left good failed : ℕ) (a : Around) (now : Disks) (p : Contents) →
    Holds s (Busy (mk job step source left good failed)) a →
    Answers a.pending source (act_at s (mk job step source left good failed) step) event a.disks now × ReadGives a (act_at s (mk job step source left good failed) step) event p →
    Lands (answered s (mk job step source left good failed) step event) (with_disks a now) p

-- the failed plexes of a settling or of a write are marked, or not
failed_marked : (s : Stage) (job : Job) → KeepsAt s job AtMarkFailed Marked
failed_marked s job source left good failed a now p holds fits =
    elim holds.under_way.4 [
      | inl l ↦
          subst (λ (g : ℕ). Lands (marked_failed (record s { bits = union s.bits failed }) (mk job AtMarkFailed source left g failed)) (with_disks a now) p) (sym l.1)
          (lands_level_marked s job source left failed a now p (base_of (λ k. refl) holds) (may_of holds.ends.agree) holds.under_way.0 holds.under_way.3 (levelling_of l.0 (holds.under_way.5.0 l.1)) fits.0.1.0 fits.0.1.1)
      | inr w ↦
          let of : CallOf WriteJob a.pending = subst (λ (j : Job). CallOf j a.pending) w.4 holds.under_way.0 in
          subst (λ (j : Job). Lands (marked_failed (record s { bits = union s.bits failed }) (mk j AtMarkFailed source left good failed)) (with_disks a now) p) (sym w.4)
          (lands_write_marked s source left good failed a now p (base_of (λ k. refl) holds) of w.1 holds.under_way.2 holds.under_way.3 w.2 (writing_of w.0 (holds.under_way.5.1 w.2)) fits.0.1.0 fits.0.1.1)
    ]

failed_not_marked : (s : Stage) (job : Job) → KeepsAt s job AtMarkFailed MarkFailed
failed_not_marked s job source left good failed a now p holds fits =
    elim holds.under_way.4 [
      | inl l ↦ lands_level_unmarked s source failed a now p (base_of (λ k. refl) holds) (may_of holds.ends.agree) (levelling_of l.0 (holds.under_way.5.0 l.1)) fits.0.1.0 fits.0.1.1
      | inr w ↦ lands_write_unmarked s good failed a now p (base_of (λ k. refl) holds) w.1 w.2 holds.under_way.2 (writing_of w.0 (holds.under_way.5.1 w.2)) fits.0.1.0 fits.0.1.1
    ]

-- the source of a settling is found, and the other plexes are made equal to it
found : (s : Stage) (job : Job) → KeepsAt s job AtFind Got
found s job source left good failed a now p holds fits =
    stays (answered s (mk job AtFind source left good failed) AtFind Got) s a now p fits.0.1
    (subst (λ (g : ℕ). Lands (level s (mk job AtEqual source (without (current s) (only source)) g failed)) a p) (sym holds.under_way.4.1)
    (subst (λ (f : ℕ). Lands (level s (mk job AtEqual source (without (current s) (only source)) 0 f)) a p) (sym holds.under_way.4.2)
    (lands_found s job source a p (base_of (λ k. refl) holds) (may_of holds.ends.agree) holds.under_way.0 holds.under_way.4.0.source_current)))

levelled : (s : Stage) (job : Job) → KeepsAt s job AtEqual Wrote
levelled s job source left good failed a now p holds fits =
    subst (λ (g : ℕ). Lands (level s (mk job AtEqual source (above_lowest left) g failed)) (with_disks a now) p) (sym holds.under_way.4.1)
    (lands_level_reached s job source left failed a now p (base_of (λ k. refl) holds) (may_of holds.ends.agree) holds.under_way.0 holds.under_way.1 holds.under_way.3 holds.under_way.4.2 (levelling_of holds.under_way.4.0 holds.under_way.5) fits.0.1.0 fits.0.1.1)

not_levelled : (s : Stage) (job : Job) → KeepsAt s job AtEqual WriteFailed
not_levelled s job source left good failed a now p holds fits =
    subst (λ (g : ℕ). Lands (level s (mk job AtEqual source (above_lowest left) g (union failed (only (lowest left))))) (with_disks a now) p) (sym holds.under_way.4.1)
    (lands_level_missed s job source left failed a now p (base_of (λ k. refl) holds) (may_of holds.ends.agree) holds.under_way.0 holds.under_way.1 holds.under_way.3 holds.under_way.4.2 (levelling_of holds.under_way.4.0 holds.under_way.5) fits.0.1.0 fits.0.1.1)

-- a mark was taken away, or not
unmarked : (s : Stage) (job : Job) (none : ℕ) (source left good failed : ℕ) (a : Around) (now : Disks) (p : Contents) → Holds s (Busy (mk job AtUnmark source left good failed)) a →
    ((k : ℕ) → has (freed_by job) k ≡ true → has s.bits k ≡ false) → Agree a (has s.bits) → a.pending ≡ NoCall → SameBlocks a.disks now → AllLose (freed_by job) a.disks.marks now.marks →
    Lands (ended s Settled Done) (with_disks a now) p
unmarked s job none source left good failed a now p holds apart agree quiet same lost =
    lands_quiet_done s (with_disks a now) p (base_after_lose s (mk job AtUnmark source left good failed) a now holds apart same lost) (agree_moved a now (has s.bits) same agree) quiet

not_unmarked : (s : Stage) (job : Job) (source left good failed : ℕ) (a : Around) (now : Disks) (p : Contents) → Holds s (Busy (mk job AtUnmark source left good failed)) a →
    ((k : ℕ) → has (freed_by job) k ≡ true → has s.bits k ≡ false) → Agree a (has s.bits) → SameBlocks a.disks now → MayLose (freed_by job) a.disks.marks now.marks →
    Lands (ended s Settled Fault) (with_disks a now) p
not_unmarked s job source left good failed a now p holds apart agree same lost =
    lands_settled_fault s (with_disks a now) p (base_after_wrong_unmark s (mk job AtUnmark source left good failed) a now holds apart same lost) (agree_moved a now (has s.bits) same agree)

keeps_cases : (s : Stage) → Cases (KeepsAt s)
keeps_cases s =
    record {
      marked = λ source left good failed a now p holds fits. lands_marked s a now p (base_of (λ k. refl) holds) (agree_of holds.ends.agree) holds.under_way.0 fits.0.1.0 fits.0.1.1;
      not_marked = λ source left good failed a now p holds fits. lands_mark_failed s a now p (base_of (λ k. refl) holds) (agree_of holds.ends.agree) fits.0.1.0 fits.0.1.1;
      reached = λ source left good failed a now p holds fits.
          lands_reached s source left good failed a now p (base_of (λ k. refl) holds) holds.under_way.0 holds.ends.marked holds.under_way.1 holds.under_way.2 holds.under_way.3 holds.under_way.4.1 (writing_of holds.under_way.4.0 holds.under_way.5) fits.0.1.0 fits.0.1.1;
      missed = λ source left good failed a now p holds fits.
          lands_missed s source left good failed a now p (base_of (λ k. refl) holds) holds.under_way.0 holds.ends.marked holds.under_way.1 holds.under_way.2 holds.under_way.3 holds.under_way.4.1 (writing_of holds.under_way.4.0 holds.under_way.5) fits.0.1.0 fits.0.1.1;
      failed_marked = failed_marked s;
      failed_not_marked = failed_not_marked s;
      found = found s;
      not_found = λ job other source left good failed a now p holds fits.
          stays (answered s (mk job AtFind source left good failed) AtFind (ReadFailed other)) s a now p fits.0.1
          (lands_settle s job left a p (base_of (λ k. refl) holds) (may_of holds.ends.agree) holds.under_way.0 holds.under_way.1 holds.under_way.4.0.left_current);
      levelled = levelled s;
      not_levelled = not_levelled s;
      copied = λ plex source left good failed a now p holds fits.
          lands_copy_wrote s plex source left good failed a now p (base_of (λ k. refl) holds) (agree_of holds.ends.agree) holds.under_way.0 holds.under_way.4.1 holds.under_way.4.2 holds.under_way.4.0 holds.under_way.1 holds.under_way.2 holds.under_way.3 fits.0.1.0 fits.0.1.1;
      not_copied = λ plex source left good failed a now p holds fits. lands_copy_failed s plex source a now p (base_of (λ k. refl) holds) (agree_of holds.ends.agree) holds.under_way.4.2 fits.0.1.0 fits.0.1.1;
      copy_unmarked = λ plex source left good failed a now p holds fits.
          unmarked s (CopyJob plex) 0 source left good failed a now p holds (copy_apart s plex holds.under_way.4.1) (agree_of holds.ends.agree) (no_call_copy plex a.pending holds.under_way.0) fits.0.1.0 fits.0.1.1;
      copy_not_unmarked = λ plex source left good failed a now p holds fits.
          not_unmarked s (CopyJob plex) source left good failed a now p holds (copy_apart s plex holds.under_way.4.1) (agree_of holds.ends.agree) fits.0.1.0 fits.0.1.1;
      cleared = λ source left good failed a now p holds fits. unmarked s Clear 0 source left good failed a now p holds (copy_apart s 30 holds.under_way.4.0) (agree_of holds.ends.agree) (no_call_clear a.pending holds.under_way.0) fits.0.1.0 fits.0.1.1;
      not_cleared = λ source left good failed a now p holds fits. not_unmarked s Clear source left good failed a now p holds (copy_apart s 30 holds.under_way.4.0) (agree_of holds.ends.agree) fits.0.1.0 fits.0.1.1;
      read = λ source left good failed a now p holds fits.
          stays (answered s (mk ReadJob AtRead source left good failed) AtRead Got) s a now p fits.0.1
          (lands_read s a p fits.1.0 (base_of (λ k. refl) holds) (agree_of holds.ends.agree) (holds.under_way.4.0 fits.1.0 fits.1.1) fits.1.2);
      not_read = λ other source left good failed a now p holds fits.
          stays (answered s (mk ReadJob AtRead source left good failed) AtRead (ReadFailed other)) s a now p fits.0.1
          (lands_offered s source left good failed other a p (base_of (λ k. refl) holds) (agree_of holds.ends.agree) holds.under_way.0 holds.under_way.1 holds.under_way.2 holds.under_way.3 holds.under_way.4.0);
      copy_read = λ plex source left good failed a now p holds fits.
          stays (answered s (mk (CopyJob plex) AtRead source left good failed) AtRead Got) s a now p fits.0.1
          (lands_copy_read s plex source left good failed a p (base_of (λ k. refl) holds) (agree_of holds.ends.agree) holds.under_way.0 holds.under_way.1 holds.under_way.2 holds.under_way.3 holds.under_way.4.1 holds.under_way.4.2 holds.under_way.4.0.source_current);
      copy_not_read = λ plex other source left good failed a now p holds fits.
          stays (answered s (mk (CopyJob plex) AtRead source left good failed) AtRead (ReadFailed other)) s a now p fits.0.1
          (lands_copy s plex left a p (base_of (λ k. refl) holds) (agree_of holds.ends.agree) holds.under_way.0 holds.under_way.4.1 holds.under_way.4.2 holds.under_way.1 holds.under_way.4.0.left_current);
    }

-- each answer to the last act
keeps_answer : (s : Stage) (w : Work) (event : Event) (a : Around) (now : Disks) (p : Contents) → NotCut event → Holds s (Busy w) a →
    Answers a.pending w.source (act_at s w w.step) event a.disks now × ReadGives a (act_at s w w.step) event p → Lands (answered s w w.step event) (with_disks a now) p
keeps_answer s w event a now p here holds fits =
    walk (KeepsAt s) (keeps_cases s) s w.job w.step w.source w.left w.good w.failed event (at_step s w w.step w.job holds.under_way.4) here fits.0.0 w.source w.left w.good w.failed a now p holds fits

-- a cut in place of the answer
keeps_cut : (s : Stage) (job : Job) (step : Step) (source left good failed : ℕ) (a : Around) (now : Disks) (p : Contents) →
    Holds s (Busy (mk job step source left good failed)) a →
    GoesWrong a.pending source (act_at s (mk job step source left good failed) step) a.disks now →
    Lands (ended s Dead Lost) (with_disks a now) p
keeps_cut s WriteJob AtMark source left good failed a now p holds fits = lands_mark_cut s a now p (base_of (λ k. refl) holds) (agree_of holds.ends.agree) fits.0 fits.1
keeps_cut s job AtMark source left good failed a now p holds fits = absurd holds.under_way.4
keeps_cut s WriteJob AtWrite source left good failed a now p holds fits = lands_write_cut s (lowest left) a now p (base_of (λ k. refl) holds) holds.ends.marked fits.0 fits.1
keeps_cut s job AtWrite source left good failed a now p holds fits = absurd holds.under_way.4
keeps_cut s job AtMarkFailed source left good failed a now p holds fits =
    elim holds.under_way.4 [
      | inl l ↦ lands_level_mark_cut s source failed a now p (base_of (λ k. refl) holds) (may_of holds.ends.agree) (levelling_of l.0 (holds.under_way.5.0 l.1)) fits.0 fits.1
      | inr w ↦ lands_write_mark_cut s good failed a now p (base_of (λ k. refl) holds) w.1 w.2 holds.under_way.2 (writing_of w.0 (holds.under_way.5.1 w.2)) fits.0 fits.1
    ]
keeps_cut s job AtFind source left good failed a now p holds fits = stays (ended s Dead Lost) s a now p fits (lands_lost s a p (base_of (λ k. refl) holds) (may_of holds.ends.agree))
keeps_cut s job AtEqual source left good failed a now p holds fits =
    lands_level_cut s (lowest left) source a now p (base_of (λ k. refl) holds) (may_of holds.ends.agree) holds.under_way.4.0.source_current fits.0 fits.1
keeps_cut s (CopyJob plex) AtCopy source left good failed a now p holds fits = lands_copy_cut s plex source a now p (base_of (λ k. refl) holds) (agree_of holds.ends.agree) holds.under_way.4.2 fits.0 fits.1
keeps_cut s job AtCopy source left good failed a now p holds fits = absurd holds.under_way.4
keeps_cut s (CopyJob plex) AtUnmark source left good failed a now p holds fits =
    lands_lost s (with_disks a now) p (base_after_wrong_unmark s (mk (CopyJob plex) AtUnmark source left good failed) a now holds (copy_apart s plex holds.under_way.4.1) fits.0 fits.1)
    (inl (agree_moved a now (has s.bits) fits.0 (agree_of holds.ends.agree)))
keeps_cut s Clear AtUnmark source left good failed a now p holds fits =
    lands_lost s (with_disks a now) p (base_after_wrong_unmark s (mk Clear AtUnmark source left good failed) a now holds (copy_apart s 30 holds.under_way.4.0) fits.0 fits.1)
    (inl (agree_moved a now (has s.bits) fits.0 (agree_of holds.ends.agree)))
keeps_cut s job AtUnmark source left good failed a now p holds fits = absurd holds.under_way.4
keeps_cut s ReadJob AtRead source left good failed a now p holds fits = stays (ended s Dead Lost) s a now p fits (lands_lost s a p (base_of (λ k. refl) holds) (inl (agree_of holds.ends.agree)))
keeps_cut s (CopyJob plex) AtRead source left good failed a now p holds fits = stays (ended s Dead Lost) s a now p fits (lands_lost s a p (base_of (λ k. refl) holds) (inl (agree_of holds.ends.agree)))
keeps_cut s job AtRead source left good failed a now p holds fits = absurd holds.under_way.4

-- ---- a job begins

-- the call is pending
abbrev with_call : Around → Pending → Around
with_call a call = record { disks = a.disks; fixed = a.fixed; entries = a.entries; pending = call; last = number_after call a.last }

pub base_begun : (s : Stage) (a : Around) (call : Pending) → a.pending ≡ NoCall → MayBegin a.fixed.region a.last a.entries call → IsBase s a → IsBase s (with_call a call)
base_begun s a call e may base =
    let e_told = quiet_told a.entries a.pending e in
    record {
      stage = base.stage;
      apart = base.apart;
      shown = base.shown;
      bounded = base.bounded;
      readable = base.readable;
      candidates = λ k i unmarked.
          pending_may a.fixed.first a.entries call i (a.disks.blocks k i)
          (subst (λ (es : List Entry). IsAmong (candidates_of a.fixed.first es i) (a.disks.blocks k i)) (sym e_told) (base.candidates k i unmarked));
      tracked = base.tracked;
      history =
          begun_record a.fixed.region a.fixed.from a.last a.fixed.first a.entries call may
          (subst (λ (es : List Entry). IsRecord a.fixed.region a.fixed.from a.fixed.first es a.last) (sym e_told) base.history);
    }

may_begin_none : (a : Around) (call : Pending) → call ≡ NoCall → MayBegin a.fixed.region a.last a.entries call
may_begin_none a NoCall e = tt
may_begin_none a (Reads call) e = cc
may_begin_none a (Writes call values) e = cc

keeps_begun : (s : Stage) (phase : Phase) (job : Job) (a : Around) (now : Disks) (call : Pending) (p : Contents) → Holds s phase a →
    FitsIn s phase a (Begin job) now call p → Lands (begun s phase job) (with_disks (with_call a call) now) p
keeps_begun s Settled job a now call p holds fits =
    stays (start s job) s (with_call a call) now p fits.0
    (lands_start s job (with_call a call) p (base_begun s a call holds.under_way fits.2 (base_of (λ k. refl) holds)) (agree_of holds.ends.agree) fits.1)
keeps_begun s Unsettled job a now call p holds fits =
    stays (settle s job (current s)) s (with_call a call) now p fits.0
    (lands_settle s job (current s) (with_call a call) p (base_begun s a call holds.under_way fits.2 (base_of (λ k. refl) holds)) (may_of holds.ends.agree) fits.1
    (without-lt s.on s.bits holds.stage.on_fits) (λ k there. there))
keeps_begun s Dead job a now call p holds fits =
    stays (ended s Dead Lost) s (with_call a call) now p fits.0
    (lands_lost s (with_call a call) p (base_begun s a call holds.under_way (may_begin_none a call fits.1) (base_of (λ k. refl) holds)) (may_of holds.ends.agree))
keeps_begun s (Busy w) job a now call p holds fits = absurd fits.0.1

abbrev pub NotBegin : Event → Type 0
NotBegin (Begin job) = ⊥
NotBegin _ = Unit {0}

no_event : (s : Stage) (event : Event) (a : Around) (now : Disks) (call : Pending) (p : Contents) → NotCut event → NotBegin event →
    (FitsIn s Settled a event now call p ⊎ (FitsIn s Unsettled a event now call p ⊎ FitsIn s Dead a event now call p)) → ⊥
no_event s (Begin job) a now call p here there fits = there
no_event s Cut a now call p here there fits = here
no_event s event a now call p here there (inl fits) = fits
no_event s event a now call p here there (inr (inl fits)) = fits
no_event s event a now call p here there (inr (inr fits)) = fits

keeps_on : (s : Stage) (phase : Phase) (event : Event) (a : Around) (now : Disks) (call : Pending) (p : Contents) → NotCut event → NotBegin event → Holds s phase a →
    FitsIn s phase a event now call p → Lands (goes_on s phase event) (with_disks a now) p
keeps_on s (Busy w) event a now call p here there holds fits = keeps_answer s w event a now p here holds fits
keeps_on s Settled event a now call p here there holds fits = absurd (no_event s event a now call p here there (inl fits))
keeps_on s Unsettled event a now call p here there holds fits = absurd (no_event s event a now call p here there (inr (inl fits)))
keeps_on s Dead event a now call p here there holds fits = absurd (no_event s event a now call p here there (inr (inr fits)))

keeps_any_cut : (s : Stage) (phase : Phase) (a : Around) (now : Disks) (call : Pending) (p : Contents) → Holds s phase a →
    FitsIn s phase a Cut now call p → Lands (ended s Dead Lost) (with_disks a now) p
keeps_any_cut s (Busy w) a now call p holds fits = keeps_cut s w.job w.step w.source w.left w.good w.failed a now p holds fits.0.1
keeps_any_cut s Settled a now call p holds fits = stays (ended s Dead Lost) s a now p fits (lands_lost s a p (base_of (λ k. refl) holds) (may_of holds.ends.agree))
keeps_any_cut s Unsettled a now call p holds fits = stays (ended s Dead Lost) s a now p fits (lands_lost s a p (base_of (λ k. refl) holds) (may_of holds.ends.agree))
keeps_any_cut s Dead a now call p holds fits = stays (ended s Dead Lost) s a now p fits (lands_lost s a p (base_of (λ k. refl) holds) (may_of holds.ends.agree))

-- what is kept is kept by each event that fits
pub keeps : (s : Stage) (event : Event) → Keeps s event (next_of s event)
keeps s (Begin job) a now call p kept fits = kept_from_holds (keeps_begun s s.phase job a now call p (holds_from_kept kept) fits)
keeps s Cut a now call p kept fits = kept_from_holds (keeps_any_cut s s.phase a now call p (holds_from_kept kept) fits)
keeps s Marked a now call p kept fits = kept_from_holds (keeps_on s s.phase Marked a now call p tt tt (holds_from_kept kept) fits)
keeps s MarkFailed a now call p kept fits = kept_from_holds (keeps_on s s.phase MarkFailed a now call p tt tt (holds_from_kept kept) fits)
keeps s Unmarked a now call p kept fits = kept_from_holds (keeps_on s s.phase Unmarked a now call p tt tt (holds_from_kept kept) fits)
keeps s UnmarkFailed a now call p kept fits = kept_from_holds (keeps_on s s.phase UnmarkFailed a now call p tt tt (holds_from_kept kept) fits)
keeps s Wrote a now call p kept fits = kept_from_holds (keeps_on s s.phase Wrote a now call p tt tt (holds_from_kept kept) fits)
keeps s WriteFailed a now call p kept fits = kept_from_holds (keeps_on s s.phase WriteFailed a now call p tt tt (holds_from_kept kept) fits)
keeps s Got a now call p kept fits = kept_from_holds (keeps_on s s.phase Got a now call p tt tt (holds_from_kept kept) fits)
keeps s (ReadFailed other) a now call p kept fits = kept_from_holds (keeps_on s s.phase (ReadFailed other) a now call p tt tt (holds_from_kept kept) fits)
