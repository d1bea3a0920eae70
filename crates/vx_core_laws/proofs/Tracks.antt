-- The marks of a region go with its history.
use Rattle.std.proofs.Common.{◌≡◌, ◌⊎◌, inl, inr, ℕ, ◌<◌, ◌^◌, Bool, true, false, refl, sym, ◌∙◌, ap, subst, cond, arith, List, [], ◌∷◌}
use Rattle.std.specs.Prelude.{◌&&◌, ◌||◌, ◌==◌}
use Rattle.vx_base.specs.Blocks.{Contents}
use Rattle.vx_life.specs.Entry.{Entry}
use Rattle.vx_core.specs.declared.stage.Job.{Job}
use Rattle.vx_core.specs.declared.stage.Event.{Event}
use Rattle.vx_core.specs.declared.stage.Act.{Act}
use Rattle.vx_core.specs.declared.stage.Step.{Step}
use Rattle.vx_core.specs.declared.stage.Work.{Work}
use Rattle.vx_core.specs.declared.stage.Phase.{Phase}
use Rattle.vx_core.specs.declared.stage.Stage.{Stage}
use Rattle.vx_core.specs.declared.stage.Job.TheVariants.{Read as ReadJob, Write as WriteJob, Copy as CopyJob, Settle, Clear}
use Rattle.vx_core.specs.declared.stage.Event.TheVariants.{Begin, Marked, MarkFailed, Unmarked, UnmarkFailed, Wrote, WriteFailed, Got, ReadFailed, Cut}
use Rattle.vx_core.specs.declared.stage.Act.TheVariants.{Mark, Unmark, WriteCall, WriteRegion, Done, Skipped, Fault, Lost}
use Rattle.vx_core.specs.declared.stage.Step.TheVariants.{Mark as AtMark, Write as AtWrite, MarkFailed as AtMarkFailed, Find as AtFind, Equal as AtEqual, Copy as AtCopy, Unmark as AtUnmark, Read as AtRead}
use Rattle.vx_core.specs.declared.stage.Phase.TheVariants.{Settled, Unsettled, Dead, Busy}
use Rattle.vx_mask.specs.Mask.{has, only, union, without, lowest}
use Rattle.std.proofs.lemmas.Bool.Decides.{nat_tests}
use Rattle.vx_mask.specs.Marks.{Marks, MayTidy}
use Rattle.vx_mask.proofs.MaskLemmas.{has-union, has-without, has-lowest, same_as_only}
use Rattle.vx_mask.proofs.MarkLemmas.{tidied_loose}
use Rattle.vx_mask.proofs.Tests.{not_both, true_or_false, or_cases, or_from_left, or_from_right, both_parts, and_not_parts}
use Rattle.vx_core.specs.Table.{current, target_of, act_at, read_act, ended, begun, goes_on, next_of}
use Rattle.vx_core.specs.History.{Pending, NoCall, Reads, Writes}
use Rattle.vx_core.specs.Region.{RegionState, Around, Disks, GoesWell, GoesWrong, Becomes, CallOf, FitsIn, entries_after, pending_after, pending_at}
use Rattle.vx_core.specs.Soundness.{IsStray, freeing_at, IsMarkedForWrite}
use Rattle.vx_core.specs.Form.{FormAt, IsFormed, IsParted}
use Rattle.vx_core.specs.Follow.{SameMasks}
use Rattle.vx_core.specs.Kept.{CallIn, IsKept}
use Rattle.vx_core.specs.Schedule.{Happening, Comes, Elsewhere, Fits, happens, IsIdle}
use Rattle.vx_core.proofs.Walk.{NotCut}
use Rattle.vx_core.proofs.Keeps.{NotBegin}
use Rattle.vx_core.proofs.ScheduleLaws.{IsKeptState, keeps_happening}
use Rattle.vx_core_laws.specs.Tracking.{was_written, was_torn, Notes, no_notes, fails_at, fails_in, ends_done, ends_torn, ends_write, notes_after, notes_of, IsOther, IsSeen, IsWriting, IsMarkable, IsTracked, EachTrackHolds}
use Rattle.vx_core.specs.Recovery.{region_after}
use Rattle.vx_core_laws.specs.Course.{EachFits}
use Rattle.vx_core_laws.proofs.Goes.{failed_at, failed_of, settling_at, settling, marked_by, marked_in, fails_by, job_of, GoesFrom, goes_busy, goes_cut, goes_begun, in_none}

-- ---- what an answer does to loose marks

freed_in : Act → ℕ
freed_in (Unmark b) = b
freed_in _ = 0

loose_well : (call : Pending) (source : ℕ) (act : Act) (old now : Disks) → GoesWell call source act old now → (k : ℕ) → now.marks.loose k ≡ true → old.marks.loose k ≡ true
loose_well call source (Mark b) old now well k h = not_both h (well.1.loose k)
loose_well call source (Unmark b) old now well k h = not_both h (well.1.loose k)
loose_well call source (WriteCall j) old now well k h = subst (λ (m : Marks). m.loose k ≡ true) well.1 h
loose_well call source (WriteRegion j) old now well k h = subst (λ (m : Marks). m.loose k ≡ true) well.1 h
loose_well call source act old now well k h = subst (λ (d : Disks). d.marks.loose k ≡ true) well h

loose_wrong : (call : Pending) (source : ℕ) (act : Act) (old now : Disks) → GoesWrong call source act old now → (k : ℕ) → now.marks.loose k ≡ true →
    (old.marks.loose k ≡ true) ⊎ ((has (marked_by act) k ≡ true) ⊎ (has (freed_in act) k ≡ true))
unfolding freed_in
loose_wrong call source (Mark b) old now (same, inl some) k h = elim (or_cases _ _ (sym (some.loose k) ∙ h)) [ inl was ↦ inl was | inr none ↦ in_none k none ]
loose_wrong call source (Mark b) old now (same, inr some) k h = inr (inl (sym (some.loose k) ∙ h))
loose_wrong call source (Unmark b) old now (same, inl some) k h = elim (or_cases _ _ (sym (some.loose k) ∙ h)) [ inl was ↦ inl was | inr freed ↦ inr (inr freed) ]
loose_wrong call source (Unmark b) old now (same, inr some) k h = inr (inr (sym (some.loose k) ∙ h))
loose_wrong call source (WriteCall j) old now wrong k h = inl (subst (λ (m : Marks). m.loose k ≡ true) wrong.1 h)
loose_wrong call source (WriteRegion j) old now wrong k h = inl (subst (λ (m : Marks). m.loose k ≡ true) wrong.1 h)
loose_wrong call source act old now wrong k h = inl (subst (λ (d : Disks). d.marks.loose k ≡ true) wrong h)

loose_becomes : (event : Event) (call : Pending) (source : ℕ) (act : Act) (old now : Disks) → Becomes event call source act old now → (k : ℕ) → now.marks.loose k ≡ true →
    (old.marks.loose k ≡ true) ⊎ ((has (marked_by act) k ≡ true) ⊎ (has (freed_in act) k ≡ true))
loose_becomes (Begin job) call source act old now becomes k h = absurd becomes
loose_becomes Marked call source act old now becomes k h = inl (loose_well call source act old now becomes k h)
loose_becomes MarkFailed call source act old now becomes k h = loose_wrong call source act old now becomes k h
loose_becomes Unmarked call source act old now becomes k h = inl (loose_well call source act old now becomes k h)
loose_becomes UnmarkFailed call source act old now becomes k h = loose_wrong call source act old now becomes k h
loose_becomes Wrote call source act old now becomes k h = inl (loose_well call source act old now becomes k h)
loose_becomes WriteFailed call source act old now becomes k h = loose_wrong call source act old now becomes k h
loose_becomes Got call source act old now becomes k h = inl (loose_well call source act old now becomes k h)
loose_becomes (ReadFailed j) call source act old now becomes k h = loose_wrong call source act old now becomes k h
loose_becomes Cut call source act old now becomes k h = loose_wrong call source act old now becomes k h

freed_read : (w : Work) (job : Job) → freed_in (read_act w job) ≡ 0
unfolding freed_in
freed_read w (CopyJob k) = refl
freed_read w Clear = refl
freed_read w ReadJob = refl
freed_read w WriteJob = refl
freed_read w Settle = refl

-- what an unmark takes away was being freed
freed_was : (s : Stage) (w : Work) (step : Step) (k : ℕ) → has (freed_in (act_at s w step)) k ≡ true → freeing_at w step k ≡ true
unfolding freed_in
freed_was s w AtUnmark k h = h
freed_was s w AtMark k h = in_none k h
freed_was s w AtWrite k h = in_none k h
freed_was s w AtMarkFailed k h = in_none k h
freed_was s w AtFind k h = in_none k h
freed_was s w AtEqual k h = in_none k h
freed_was s w AtCopy k h = in_none k h
freed_was s w AtRead k h = in_none k (subst (λ (n : ℕ). has n k ≡ true) (freed_read w w.job) h)

same_loose : (a : Around) (now : Disks) (k : ℕ) → now ≡ a.disks → now.marks.loose k ≡ true → a.disks.marks.loose k ≡ true
same_loose a now k same h = subst (λ (d : Disks). d.marks.loose k ≡ true) same h

loose_after : (s : Stage) (phase : Phase) (a : Around) (event : Event) (now : Disks) (call : Pending) (values : Contents) → FitsIn s phase a event now call values →
    (k : ℕ) → now.marks.loose k ≡ true → IsStray phase a k ⊎ (has (marked_in s phase) k ≡ true)
loose_after s (Busy w) a event now call values fits k h =
    elim (loose_becomes event a.pending w.source (act_at s w w.step) a.disks now fits.0.1 k h) [
      | inl was ↦ inl (inl was)
      | inr rest ↦ elim rest [ inl marked ↦ inr marked | inr freed ↦ inl (inr (freed_was s w w.step k freed)) ]
    ]
loose_after s Settled a (Begin job) now call values fits k h = inl (inl (same_loose a now k fits.0 h))
loose_after s Unsettled a (Begin job) now call values fits k h = inl (inl (same_loose a now k fits.0 h))
loose_after s Dead a (Begin job) now call values fits k h = inl (inl (same_loose a now k fits.0 h))
loose_after s Settled a Cut now call values fits k h = inl (inl (same_loose a now k fits h))
loose_after s Unsettled a Cut now call values fits k h = inl (inl (same_loose a now k fits h))
loose_after s Dead a Cut now call values fits k h = inl (inl (same_loose a now k fits h))
loose_after s phase a event now call values fits k h = absurd fits

-- ---- what an act does to the history

written_by : (act : Act) (call : Pending) (values : Contents) (es : List Entry) → was_written (entries_after act call values es) ≡ (ends_done act call || was_written es)
written_by Done NoCall values es = refl
written_by Done (Reads call) values es = refl
written_by Done (Writes call new) values es = refl
written_by Fault NoCall values es = refl
written_by Fault (Reads call) values es = refl
written_by Fault (Writes call new) values es = refl
written_by Lost NoCall values es = refl
written_by Lost (Reads call) values es = refl
written_by Lost (Writes call new) values es = refl
written_by act call values es = refl

torn_on : (act : Act) (call : Pending) (values : Contents) (es : List Entry) → was_torn (entries_after act call values es) ≡ (ends_torn act call || was_torn es)
torn_on Done NoCall values es = refl
torn_on Done (Reads call) values es = refl
torn_on Done (Writes call new) values es = refl
torn_on Fault NoCall values es = refl
torn_on Fault (Reads call) values es = refl
torn_on Fault (Writes call new) values es = refl
torn_on Lost NoCall values es = refl
torn_on Lost (Reads call) values es = refl
torn_on Lost (Writes call new) values es = refl
torn_on act call values es = refl

done_by : (act : Act) (call : Pending) → ends_done act call ≡ true → (act ≡ Done) × IsWriting call
done_by Done (Writes call new) h = (refl, tt)
done_by Done NoCall h = cc
done_by Done (Reads call) h = cc
done_by act call h = cc

torn_by : (act : Act) (call : Pending) → act ≡ Fault → IsWriting call → ends_torn act call ≡ true
torn_by Fault (Writes call new) is writes = refl
torn_by Fault NoCall is writes = absurd writes
torn_by Fault (Reads call) is writes = absurd writes
torn_by act call is writes = cc

ended_or_pending : (act : Act) (call : Pending) → IsWriting call → (act ≡ Skipped → IsWriting call → ⊥) → (ends_write act call ≡ true) ⊎ IsWriting (pending_after act call)
ended_or_pending Done (Writes call new) writes unskipped = inl refl
ended_or_pending Fault (Writes call new) writes unskipped = inl refl
ended_or_pending Lost (Writes call new) writes unskipped = inl refl
ended_or_pending Skipped (Writes call new) writes unskipped = absurd (unskipped refl tt)
ended_or_pending act NoCall writes unskipped = absurd writes
ended_or_pending act (Reads call) writes unskipped = absurd writes
ended_or_pending act (Writes call new) writes unskipped = inr tt

-- what has ended is noted
noted : (x y p q : Bool) → (x || y) ≡ true → ((x || p) || (y || q)) ≡ true
noted true y p q h = refl
noted false true p q h = or_from_right p true refl
noted false false p q h = cc

noted_before : (x y p q : Bool) → (p || q) ≡ true → ((x || p) || (y || q)) ≡ true
noted_before true y p q h = refl
noted_before false true p q h = or_from_right p true refl
noted_before false false p q h = h

or_swap : (x y z : Bool) → (x || (y || z)) ≡ ((x || y) || z)
or_swap true y z = refl
or_swap false y z = refl

-- ---- the call of a job

writes_of : (job : Job) (call : Pending) → CallOf job call → IsWriting call → job ≡ WriteJob
writes_of WriteJob (Writes call new) of writes = refl
writes_of job NoCall of writes = absurd writes
writes_of job (Reads call) of writes = absurd writes
writes_of ReadJob (Writes call new) of writes = absurd of
writes_of (CopyJob k) (Writes call new) of writes = absurd of
writes_of Settle (Writes call new) of writes = absurd of
writes_of Clear (Writes call new) of writes = absurd of

call_of_write : (job : Job) (call : Pending) → CallOf job call → job ≡ WriteJob → IsWriting call
call_of_write WriteJob (Writes call new) of is = tt
call_of_write WriteJob NoCall of is = absurd of
call_of_write WriteJob (Reads call) of is = absurd of
call_of_write job call of is = cc

none_writes : (call : Pending) → call ≡ NoCall → IsWriting call → ⊥
none_writes NoCall e writes = writes
none_writes (Reads call) e writes = cc
none_writes (Writes call new) e writes = cc

-- the call that is pending once the event has come
job_writes : (s : Stage) (phase : Phase) (a : Around) (event : Event) (now : Disks) (call : Pending) (values : Contents) → FitsIn s phase a event now call values → CallIn phase a.pending →
    IsWriting (pending_at a.pending event call) → job_of phase event ≡ WriteJob
job_writes s (Busy w) a (Begin job) now call values fits of writes = absurd fits.0.1
job_writes s (Busy w) a event now call values fits of writes = writes_of w.job a.pending of writes
job_writes s Settled a (Begin job) now call values fits of writes = writes_of job call fits.1 writes
job_writes s Unsettled a (Begin job) now call values fits of writes = writes_of job call fits.1 writes
job_writes s Dead a (Begin job) now call values fits of writes = absurd (none_writes call fits.1 writes)
job_writes s Settled a Cut now call values fits of writes = absurd (none_writes a.pending of writes)
job_writes s Unsettled a Cut now call values fits of writes = absurd (none_writes a.pending of writes)
job_writes s Dead a Cut now call values fits of writes = absurd (none_writes a.pending of writes)
job_writes s phase a event now call values fits of writes = absurd fits

fault_writes : (s : Stage) (phase : Phase) (a : Around) (event : Event) (now : Disks) (call : Pending) (values : Contents) → FitsIn s phase a event now call values → CallIn phase a.pending →
    job_of phase event ≡ WriteJob → IsWriting (pending_at a.pending event call)
fault_writes s (Busy w) a (Begin job) now call values fits of is = absurd fits.0.1
fault_writes s (Busy w) a event now call values fits of is = call_of_write w.job a.pending of is
fault_writes s Settled a (Begin job) now call values fits of is = call_of_write job call fits.1 is
fault_writes s Unsettled a (Begin job) now call values fits of is = call_of_write job call fits.1 is
fault_writes s Dead a event now call values fits of is = cc
fault_writes s Settled a Cut now call values fits of is = cc
fault_writes s Unsettled a Cut now call values fits of is = cc
fault_writes s phase a event now call values fits of is = absurd fits

-- ---- every event

pub not_begun : {A : Type 0} (s : Stage) (w : Work) (a : Around) (job : Job) (now : Disks) (call : Pending) (values : Contents) → FitsIn s (Busy w) a (Begin job) now call values → A
not_begun s w a job now call values fits = absurd fits.0.1

-- what is left by any event that fits
goes_on_from : (s : Stage) (phase : Phase) (a : Around) (event : Event) (now : Disks) (call : Pending) (values : Contents) → IsKept s phase a → NotCut event → NotBegin event →
    FitsIn s phase a event now call values → GoesFrom s phase event (goes_on s phase event)
goes_on_from s (Busy w) a event now call values kept here there fits = goes_busy s w event a.fixed.held kept.form here fits.0.0
goes_on_from s Settled a (Begin job) now call values kept here there fits = absurd there
goes_on_from s Unsettled a (Begin job) now call values kept here there fits = absurd there
goes_on_from s Dead a (Begin job) now call values kept here there fits = absurd there
goes_on_from s Settled a Cut now call values kept here there fits = absurd here
goes_on_from s Unsettled a Cut now call values kept here there fits = absurd here
goes_on_from s Dead a Cut now call values kept here there fits = absurd here
goes_on_from s phase a event now call values kept here there fits = absurd fits

begun_from : (s : Stage) (phase : Phase) (a : Around) (job : Job) (now : Disks) (call : Pending) (values : Contents) → IsKept s phase a →
    FitsIn s phase a (Begin job) now call values → GoesFrom s phase (Begin job) (begun s phase job)
begun_from s (Busy w) a job now call values kept fits = not_begun s w a job now call values fits
begun_from s Settled a job now call values kept fits = goes_begun s Settled job a.fixed.held kept.form.stage tt
begun_from s Unsettled a job now call values kept fits = goes_begun s Unsettled job a.fixed.held kept.form.stage tt
begun_from s Dead a job now call values kept fits = goes_begun s Dead job a.fixed.held kept.form.stage tt

goes : (s : Stage) (a : Around) (event : Event) (now : Disks) (call : Pending) (values : Contents) → IsKept s s.phase a → FitsIn s s.phase a event now call values → GoesFrom s s.phase event (next_of s event)
goes s a Cut now call values kept fits = goes_cut s s.phase a.fixed.held kept.form.stage
goes s a (Begin job) now call values kept fits = begun_from s s.phase a job now call values kept fits
goes s a Marked now call values kept fits = goes_on_from s s.phase a Marked now call values kept tt tt fits
goes s a MarkFailed now call values kept fits = goes_on_from s s.phase a MarkFailed now call values kept tt tt fits
goes s a Unmarked now call values kept fits = goes_on_from s s.phase a Unmarked now call values kept tt tt fits
goes s a UnmarkFailed now call values kept fits = goes_on_from s s.phase a UnmarkFailed now call values kept tt tt fits
goes s a Wrote now call values kept fits = goes_on_from s s.phase a Wrote now call values kept tt tt fits
goes s a WriteFailed now call values kept fits = goes_on_from s s.phase a WriteFailed now call values kept tt tt fits
goes s a Got now call values kept fits = goes_on_from s s.phase a Got now call values kept tt tt fits
goes s a (ReadFailed j) now call values kept fits = goes_on_from s s.phase a (ReadFailed j) now call values kept tt tt fits

-- ---- the invariant

pub record Inv (dirty : Bool) (was r : RegionState) (notes : Notes) : Type 0 where
  pub sure : (k : ℕ) → IsOther r.stage k → (notes.written ≡ true) ⊎ (has was.stage.bits k ≡ true) → has r.stage.bits k ≡ true
  pub seen : (k : ℕ) → IsSeen r k → IsSeen was k ⊎ IsMarkable r notes k
  pub settles : settling r.stage.phase ≡ true → ((dirty ≡ true) × (was.stage.phase ≡ Unsettled)) ⊎ (notes.torn ≡ true)
  pub failed : (k : ℕ) → has (failed_of r.stage.phase) k ≡ true → (settling r.stage.phase ≡ true → notes.possible k ≡ true) × (settling r.stage.phase ≡ false → notes.failed k ≡ true)
  pub lacks : (k : ℕ) → notes.possible k ≡ true → (notes.failed k ≡ true) × ((dirty ≡ true) ⊎ ((notes.written || notes.torn) ≡ true))
  pub fails : (k : ℕ) → notes.failed k ≡ true → has r.stage.on k ≡ true
  pub written : was_written r.around.entries ≡ (notes.written || was_written was.around.entries)
  pub torn : was_torn r.around.entries ≡ (notes.torn || was_torn was.around.entries)
  pub masks : SameMasks was.stage r.stage

-- the marks that a write needs are those of the dirty map and of what is not written to
needed_at : (log : Bool) (s : Stage) (k : ℕ) → has (cond log (without (union (only 30) (union s.snaps s.off)) s.bits) 0) k ≡ true → (k ≡ 30) ⊎ IsOther s k
needed_at false s k h = in_none k h
needed_at true s k h =
    let x = (and_not_parts (has (union (only 30) (union s.snaps s.off)) k) (has s.bits k) (sym (has-without (union (only 30) (union s.snaps s.off)) s.bits k) ∙ h)).0 in
    elim (or_cases (has (only 30) k) (has (union s.snaps s.off) k) (sym (has-union (only 30) (union s.snaps s.off) k) ∙ x)) [
      | inl dirty ↦ inl (same_as_only 30 k dirty)
      | inr rest ↦ inr (elim (or_cases (has s.snaps k) (has s.off k) (sym (has-union s.snaps s.off k) ∙ rest)) [ inl snap ↦ inr snap | inr off ↦ inl off ])
    ]

marked_read : (w : Work) (job : Job) → marked_by (read_act w job) ≡ 0
marked_read w (CopyJob k) = refl
marked_read w Clear = refl
marked_read w ReadJob = refl
marked_read w WriteJob = refl
marked_read w Settle = refl

-- a mark that is being written may be there
markable_at : (s : Stage) (w : Work) (step : Step) (job : Job) (a : Around) (notes : Notes) → FormAt s w step job → CallOf job a.pending →
    ((k : ℕ) → has (failed_at w step) k ≡ true → (settling_at w step ≡ true → notes.possible k ≡ true) × (settling_at w step ≡ false → notes.failed k ≡ true)) →
    (k : ℕ) → has (marked_by (act_at s w step)) k ≡ true →
    (((k ≡ 30) ⊎ IsOther s k) × (((notes.written || notes.torn) ≡ true) ⊎ IsWriting a.pending)) ⊎ ((notes.possible k ≡ true) ⊎ ((notes.failed k ≡ true) × IsWriting a.pending))
markable_at s w AtMark WriteJob a notes form of known k h = inl (needed_at s.logged s k h, inr (call_of_write WriteJob a.pending of refl))
markable_at s w AtMark job a notes form of known k h = absurd form
markable_at s w AtMarkFailed job a notes form of known k h =
    elim (true_or_false (w.good == 0)) [
      | inl levels ↦ inr (inl ((known k h).0 levels))
      | inr writes ↦ inr (inr ((known k h).1 writes, call_of_write job a.pending of (elim form [ inl level ↦ not_both (subst (λ (n : ℕ). (n == 0) ≡ true) (sym level.1) refl) writes | inr is ↦ is.4 ])))
    ]
markable_at s w AtWrite job a notes form of known k h = in_none k h
markable_at s w AtFind job a notes form of known k h = in_none k h
markable_at s w AtEqual job a notes form of known k h = in_none k h
markable_at s w AtCopy job a notes form of known k h = in_none k h
markable_at s w AtUnmark job a notes form of known k h = in_none k h
markable_at s w AtRead job a notes form of known k h = in_none k (subst (λ (n : ℕ). has n k ≡ true) (marked_read w w.job) h)

markable_now : (s : Stage) (phase : Phase) (a : Around) (notes : Notes) → IsKept s phase a →
    ((k : ℕ) → has (failed_of phase) k ≡ true → (settling phase ≡ true → notes.possible k ≡ true) × (settling phase ≡ false → notes.failed k ≡ true)) →
    (k : ℕ) → has (marked_in s phase) k ≡ true →
    (((k ≡ 30) ⊎ IsOther s k) × (((notes.written || notes.torn) ≡ true) ⊎ IsWriting a.pending)) ⊎ ((notes.possible k ≡ true) ⊎ ((notes.failed k ≡ true) × IsWriting a.pending))
markable_now s (Busy w) a notes kept known k h = markable_at s w w.step w.job a notes kept.form.step.3 kept.call known k h
markable_now s Settled a notes kept known k h = in_none k h
markable_now s Unsettled a notes kept known k h = in_none k h
markable_now s Dead a notes kept known k h = in_none k h

-- a write that is under way is still the one that is pending
still_writes : (s : Stage) (phase : Phase) (a : Around) (event : Event) (now : Disks) (call : Pending) (values : Contents) → FitsIn s phase a event now call values → CallIn phase a.pending →
    IsWriting a.pending → IsWriting (pending_at a.pending event call)
still_writes s (Busy w) a (Begin job) now call values fits of writes = not_begun s w a job now call values fits
still_writes s Settled a (Begin job) now call values fits of writes = absurd (none_writes a.pending of writes)
still_writes s Unsettled a (Begin job) now call values fits of writes = absurd (none_writes a.pending of writes)
still_writes s Dead a (Begin job) now call values fits of writes = absurd (none_writes a.pending of writes)
still_writes s phase a event now call values fits of writes = writes

both_true : (x y : Bool) → x ≡ true → y ≡ true → (x && y) ≡ true
both_true x y p q = rw (p, q) refl

same_fails : (s : Stage) (phase : Phase) (event : Event) (k : ℕ) → fails_by s phase event k ≡ true → fails_in s phase event k ≡ true
same_fails s (Busy w) event k h = h
same_fails s Settled event k h = cc
same_fails s Unsettled event k h = cc
same_fails s Dead event k h = cc

other_back : (s t : Stage) (k : ℕ) → t.off ≡ s.off → t.snaps ≡ s.snaps → IsOther t k → IsOther s k
other_back s t k off snaps (inl h) = inl (subst (λ (m : ℕ). has m k ≡ true) off h)
other_back s t k off snaps (inr h) = inr (subst (λ (m : ℕ). has m k ≡ true) snaps h)

-- a plex to which a write fails is on
current_on : (s : Stage) (k : ℕ) → has (current s) k ≡ true → has s.on k ≡ true
current_on s k h = (and_not_parts (has s.on k) (has s.bits k) (sym (has-without s.on s.bits k) ∙ h)).0

equal_from : (k j : ℕ) → (k == j) ≡ true → j ≡ k
equal_from k j h = grind (arith, nat_tests)

fails_region : (s : Stage) (j : ℕ) (event : Event) (k : ℕ) → has s.on j ≡ true → fails_at (WriteRegion j) event k ≡ true → has s.on k ≡ true
fails_region s j WriteFailed k on h = subst (λ (m : ℕ). has s.on m ≡ true) (equal_from k j h) on
fails_region s j event k on h = cc

fails_call : (s : Stage) (j : ℕ) (event : Event) (k : ℕ) → has s.on j ≡ true → fails_at (WriteCall j) event k ≡ true → has s.on k ≡ true
fails_call s j WriteFailed k on h = subst (λ (m : ℕ). has s.on m ≡ true) (equal_from k j h) on
fails_call s j event k on h = cc

fails_read : (w : Work) (job : Job) (event : Event) (k : ℕ) {A : Type 0} → fails_at (read_act w job) event k ≡ true → A
fails_read w (CopyJob j) event k h = cc
fails_read w ReadJob event k h = cc
fails_read w WriteJob event k h = cc
fails_read w Settle event k h = cc
fails_read w Clear event k h = cc

fails_step : (s : Stage) (w : Work) (step : Step) (job : Job) (event : Event) (k : ℕ) → w.job ≡ job → w.left < 2 ^ 64 → FormAt s w step job → fails_at (act_at s w step) event k ≡ true → has s.on k ≡ true
fails_step s w AtWrite WriteJob event k is low form h =
    fails_call s (lowest w.left) event k (current_on s (lowest w.left) (parted_current (current s) w.left w.good w.failed form.0 (lowest w.left) (has-lowest w.left form.1 low))) h
  where
    parted_current : (all left good failed : ℕ) → IsParted all left good failed → (j : ℕ) → has left j ≡ true → has all j ≡ true
    parted_current all left good failed parted j there = parted.each j ∙ or_from_left (has left j) (has good j || has failed j) there
fails_step s w AtWrite job event k is low form h = absurd form
fails_step s w AtEqual job event k is low form h = fails_region s (lowest w.left) event k (current_on s (lowest w.left) (form.0.left_current (lowest w.left) (has-lowest w.left form.2 low))) h
fails_step s w AtCopy (CopyJob j) event k is low form h = fails_region s j event k form.1 (subst (λ (job : Job). fails_at (WriteRegion (target_of job)) event k ≡ true) is h)
fails_step s w AtCopy job event k is low form h = absurd form
fails_step s w AtMark job event k is low form h = cc
fails_step s w AtMarkFailed job event k is low form h = cc
fails_step s w AtFind job event k is low form h = cc
fails_step s w AtUnmark job event k is low form h = cc
fails_step s w AtRead job event k is low form h = fails_read w w.job event k h

fails_on : (s : Stage) (phase : Phase) (event : Event) (held : ℕ → Bool) → IsFormed s phase held → (k : ℕ) → fails_in s phase event k ≡ true → has s.on k ≡ true
fails_on s (Busy w) event held formed k h = fails_step s w w.step w.job event k refl formed.step.0 formed.step.3 h
fails_on s Settled event held formed k h = cc
fails_on s Unsettled event held formed k h = cc
fails_on s Dead event held formed k h = cc

module _ (dirty : Bool) (was r : RegionState) (notes : Notes) (event : Event) (now : Disks) (call : Pending) (values : Contents) (kept : IsKeptState r) (inv : Inv dirty was r notes) (fits : FitsIn r.stage r.stage.phase r.around event now call values) where
  g : GoesFrom r.stage r.stage.phase event (next_of r.stage event)
  g = goes r.stage r.around event now call values kept fits

  unskipped : (next_of r.stage event).1 ≡ Skipped → IsWriting (pending_at r.around.pending event call) → ⊥
  unskipped act writes = g.skips act (job_writes r.stage r.stage.phase r.around event now call values fits kept.call writes)

  other_was : (k : ℕ) → IsOther (next_of r.stage event).0 k → IsOther r.stage k
  other_was k other = other_back r.stage (next_of r.stage event).0 k g.masks.1 g.masks.2 other

  other_is : (k : ℕ) → IsOther r.stage k → IsOther (next_of r.stage event).0 k
  other_is k other = other_back (next_of r.stage event).0 r.stage k (sym g.masks.1) (sym g.masks.2) other

  writes_on : IsWriting r.around.pending → (ends_write (next_of r.stage event).1 (pending_at r.around.pending event call) ≡ true) ⊎ IsWriting (pending_after (next_of r.stage event).1 (pending_at r.around.pending event call))
  writes_on writing =
      ended_or_pending (next_of r.stage event).1 (pending_at r.around.pending event call)
      (still_writes r.stage r.stage.phase r.around event now call values fits kept.call writing) unskipped

  -- what may be marked may be marked afterwards
  markable_on : (k : ℕ) → IsMarkable r notes k → IsMarkable (happens r (Comes event now call values)) (notes_after dirty r (Comes event now call values) notes) k
  markable_on k (inl logged) =
      inl (
        elim logged.0 [ inl is ↦ inl is | inr other ↦ inr (other_is k other) ],
        elim logged.1 [
          | inl before ↦ inl (noted_before (ends_done (next_of r.stage event).1 (pending_at r.around.pending event call)) (ends_torn (next_of r.stage event).1 (pending_at r.around.pending event call)) notes.written notes.torn before)
          | inr writing ↦ elim (writes_on writing) [ inl ends ↦ inl (noted (ends_done (next_of r.stage event).1 (pending_at r.around.pending event call)) (ends_torn (next_of r.stage event).1 (pending_at r.around.pending event call)) notes.written notes.torn ends) | inr pending ↦ inr pending ]
        ],
      )
  markable_on k (inr (inl possible)) = inr (inl (or_from_right _ _ (or_from_right _ _ possible)))
  markable_on k (inr (inr failed)) =
      let is_failed : (fails_in r.stage r.stage.phase event k || notes.failed k) ≡ true = or_from_right _ _ failed.0 in
      elim (writes_on failed.1) [
        | inl ends ↦ inr (inl (or_from_right _ _ (or_from_left _ _ (both_true _ _ is_failed ends))))
        | inr pending ↦ inr (inr (is_failed, pending))
      ]

  seen_on : (k : ℕ) → IsSeen r k ⊎ (has (marked_in r.stage r.stage.phase) k ≡ true) → IsSeen was k ⊎ IsMarkable (happens r (Comes event now call values)) (notes_after dirty r (Comes event now call values) notes) k
  seen_on k (inl seen) = elim (inv.seen k seen) [ inl before ↦ inl before | inr may ↦ inr (markable_on k may) ]
  seen_on k (inr marked) = inr (markable_on k (markable_now r.stage r.stage.phase r.around notes kept inv.failed k marked))

  seen_now : (k : ℕ) → IsSeen (happens r (Comes event now call values)) k → IsSeen r k ⊎ (has (marked_in r.stage r.stage.phase) k ≡ true)
  seen_now k (inl bit) = elim (g.bits k bit) [ inl before ↦ inl (inl before) | inr marked ↦ inr marked ]
  seen_now k (inr (inl loose)) = elim (loose_after r.stage r.stage.phase r.around event now call values fits k loose) [ inl before ↦ inl (inr before) | inr marked ↦ inr marked ]
  seen_now k (inr (inr freed)) = elim (g.freed k freed) [ inl before ↦ inl (inl before) | inr marked ↦ inr marked ]

  for_write : (k : ℕ) → IsOther r.stage k → IsMarkedForWrite r.stage → has r.stage.bits k ≡ true
  for_write k other marked =
      elim (true_or_false r.stage.logged) [
        | inl log ↦ elim other [ inl off ↦ (marked log).2 k off | inr snap ↦ (marked log).1 k snap ]
        | inr plain ↦ let none = kept.form.stage.unlogged plain k in elim other [ inl off ↦ not_both off none.0 | inr snap ↦ not_both snap none.1 ]
      ]

  inv_comes : Inv dirty was (happens r (Comes event now call values)) (notes_after dirty r (Comes event now call values) notes)
  inv_comes =
      record {
        sure = λ k other cause.
            let before = other_was k other in
            elim cause [
              | inr was_bit ↦ g.stay k before (inv.sure k before (inr was_bit))
              | inl written ↦
                  elim (or_cases (ends_done (next_of r.stage event).1 (pending_at r.around.pending event call)) notes.written written) [
                    | inr old ↦ g.stay k before (inv.sure k before (inl old))
                    | inl ends ↦
                        let done = done_by (next_of r.stage event).1 (pending_at r.around.pending event call) ends in
                        g.stay k before (for_write k before (g.done done.0 (job_writes r.stage r.stage.phase r.around event now call values fits kept.call done.1)))
                  ]
            ];
        seen = λ k seen. seen_on k (seen_now k seen);
        settles = λ h.
            elim (g.settles h) [
              | inl old ↦ elim (inv.settles old) [ inl is ↦ inl is | inr torn ↦ inr (or_from_right _ _ torn) ]
              | inr fault ↦ inr (or_from_left _ _ (torn_by (next_of r.stage event).1 (pending_at r.around.pending event call) fault.0 (fault_writes r.stage r.stage.phase r.around event now call values fits kept.call fault.1)))
            ];
        failed = λ k h.
            let x = g.failed k h in (
              λ levels.
                  let old : settling r.stage.phase ≡ true = sym x.1 ∙ levels in
                  elim x.0 [
                    | inl before ↦ or_from_right _ _ (or_from_right _ _ ((inv.failed k before).0 old))
                    | inr fails ↦ or_from_left _ _ (both_true _ _ (same_fails r.stage r.stage.phase event k fails) (elim (inv.settles old) [ inl is ↦ or_from_left _ _ is.0 | inr torn ↦ or_from_right _ _ torn ]))
                  ],
              λ writes.
                  let old : settling r.stage.phase ≡ false = sym x.1 ∙ writes in
                  elim x.0 [
                    | inl before ↦ or_from_right _ _ ((inv.failed k before).1 old)
                    | inr fails ↦ or_from_left _ _ (same_fails r.stage r.stage.phase event k fails)
                  ],
            );
        lacks = λ k h.
            elim (or_cases ((fails_in r.stage r.stage.phase event k) && (dirty || notes.torn)) ((((fails_in r.stage r.stage.phase event k) || notes.failed k) && ends_write (next_of r.stage event).1 (pending_at r.around.pending event call)) || notes.possible k) h) [
              | inl now ↦
                  let x = both_parts (fails_in r.stage r.stage.phase event k) (dirty || notes.torn) now in
                  (or_from_left (fails_in r.stage r.stage.phase event k) (notes.failed k) x.0, elim (or_cases dirty notes.torn x.1) [ inl is ↦ inl is | inr torn ↦ inr (noted_before (ends_done (next_of r.stage event).1 (pending_at r.around.pending event call)) (ends_torn (next_of r.stage event).1 (pending_at r.around.pending event call)) notes.written notes.torn (or_from_right notes.written notes.torn torn)) ])
              | inr rest ↦
                  elim (or_cases (((fails_in r.stage r.stage.phase event k) || notes.failed k) && ends_write (next_of r.stage event).1 (pending_at r.around.pending event call)) (notes.possible k) rest) [
                    | inl ends ↦ let x = both_parts ((fails_in r.stage r.stage.phase event k) || notes.failed k) (ends_write (next_of r.stage event).1 (pending_at r.around.pending event call)) ends in (x.0, inr (noted (ends_done (next_of r.stage event).1 (pending_at r.around.pending event call)) (ends_torn (next_of r.stage event).1 (pending_at r.around.pending event call)) notes.written notes.torn x.1))
                    | inr before ↦
                        let x = inv.lacks k before in
                        (or_from_right (fails_in r.stage r.stage.phase event k) (notes.failed k) x.0, elim x.1 [ inl is ↦ inl is | inr ended ↦ inr (noted_before (ends_done (next_of r.stage event).1 (pending_at r.around.pending event call)) (ends_torn (next_of r.stage event).1 (pending_at r.around.pending event call)) notes.written notes.torn ended) ])
                  ]
            ];
        fails = λ k h.
            subst (λ (on : ℕ). has on k ≡ true) (sym g.masks.0)
            (elim (or_cases (fails_in r.stage r.stage.phase event k) (notes.failed k) h) [ inl now ↦ fails_on r.stage r.stage.phase event r.around.fixed.held kept.form k now | inr before ↦ inv.fails k before ]);
        written =
            written_by (next_of r.stage event).1 (pending_at r.around.pending event call) values r.around.entries
            ∙ ap (λ (b : Bool). ends_done (next_of r.stage event).1 (pending_at r.around.pending event call) || b) inv.written ∙ or_swap (ends_done (next_of r.stage event).1 (pending_at r.around.pending event call)) notes.written (was_written was.around.entries);
        torn =
            torn_on (next_of r.stage event).1 (pending_at r.around.pending event call) values r.around.entries
            ∙ ap (λ (b : Bool). ends_torn (next_of r.stage event).1 (pending_at r.around.pending event call) || b) inv.torn ∙ or_swap (ends_torn (next_of r.stage event).1 (pending_at r.around.pending event call)) notes.torn (was_torn was.around.entries);
        masks = (g.masks.0 ∙ inv.masks.0, g.masks.1 ∙ inv.masks.1, g.masks.2 ∙ inv.masks.2, g.masks.3 ∙ inv.masks.3);
      }

-- a call on another region of the page
inv_elsewhere : (dirty : Bool) (was r : RegionState) (notes : Notes) (marks : Marks) → Inv dirty was r notes → MayTidy r.around.disks.marks marks → Inv dirty was (happens r (Elsewhere marks)) notes
inv_elsewhere dirty was r notes marks inv tidy =
    record {
      sure = inv.sure;
      seen = λ k seen.
          elim seen [
            | inl bit ↦ markable_same k (inv.seen k (inl bit))
            | inr stray ↦ elim stray [
              | inl loose ↦ markable_same k (inv.seen k (inr (inl (tidied_loose r.around.disks.marks marks tidy k loose))))
              | inr freed ↦ markable_same k (inv.seen k (inr (inr freed)))
            ]
          ];
      settles = inv.settles;
      failed = inv.failed;
      lacks = inv.lacks;
      fails = inv.fails;
      written = inv.written;
      torn = inv.torn;
      masks = inv.masks;
    }
  where
    markable_same : (k : ℕ) → IsSeen was k ⊎ IsMarkable r notes k → IsSeen was k ⊎ IsMarkable (happens r (Elsewhere marks)) notes k
    markable_same k h = h

inv_one : (dirty : Bool) (was r : RegionState) (notes : Notes) (h : Happening) → IsKeptState r → Inv dirty was r notes → Fits r h → Inv dirty was (happens r h) (notes_after dirty r h notes)
inv_one dirty was r notes (Comes event now call values) kept inv fits = inv_comes dirty was r notes event now call values kept inv fits
inv_one dirty was r notes (Elsewhere marks) kept inv fits = inv_elsewhere dirty was r notes marks inv fits

tracked_all : (dirty : Bool) (was : RegionState) (hs : List Happening) (r : RegionState) (notes : Notes) → IsKeptState r → Inv dirty was r notes → EachFits hs r →
    IsTracked dirty was (region_after hs r) (notes_of dirty hs r notes)
tracked_all dirty was [] r notes kept inv fits =
    record {
      sure = inv.sure;
      possible = λ n k lt shown. inv.seen k (kept.sound.bounded n k lt shown);
      seen = inv.seen;
      settles = λ h. elim (inv.settles (subst (λ (phase : Phase). settling phase ≡ true) (sym h) refl)) [ inl is ↦ inl is.1 | inr torn ↦ inr torn ];
      lacks = inv.lacks;
      fails = inv.fails;
      written = inv.written;
      torn = inv.torn;
      masks = inv.masks;
    }
tracked_all dirty was (h ∷ hs) r notes kept inv fits =
    tracked_all dirty was hs (happens r h) (notes_after dirty r h notes) (keeps_happening r h kept fits.0) (inv_one dirty was r notes h kept inv fits.0) fits.1

fresh_failed : (phase : Phase) (k : ℕ) {A : Type 0} → IsIdle phase → has (failed_of phase) k ≡ true → A
fresh_failed Settled k idle h = in_none k h
fresh_failed Unsettled k idle h = in_none k h
fresh_failed Dead k idle h = in_none k h
fresh_failed (Busy w) k idle h = absurd idle

fresh_settles : (phase : Phase) → IsIdle phase → settling phase ≡ true → phase ≡ Unsettled
fresh_settles Settled idle h = cc
fresh_settles Unsettled idle h = refl
fresh_settles Dead idle h = cc
fresh_settles (Busy w) idle h = absurd idle

pub each_track_holds : EachTrackHolds
each_track_holds was dirty happenings kept idle is_dirty fits =
    tracked_all dirty was happenings was no_notes kept
    (record {
      sure = λ k other cause. elim cause [ inl written ↦ cc | inr bit ↦ bit ];
      seen = λ k seen. inl seen;
      settles = λ h. let is = fresh_settles was.stage.phase idle h in inl (is_dirty is, is);
      failed = λ k h. fresh_failed was.stage.phase k idle h;
      lacks = λ k h. cc;
      fails = λ k h. cc;
      written = refl;
      torn = refl;
      masks = (refl, refl, refl, refl);
    })
    fits
