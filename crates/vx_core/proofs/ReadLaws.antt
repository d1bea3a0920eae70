-- A read is done only once it has got its blocks.
use Rattle.std.proofs.Common.{◌≡◌, ℕ, inl, inr, Bool, true, false, refl, sym, ◌∙◌, subst, cond}
use Rattle.std.specs.Prelude.{◌==◌}
use Rattle.vx_core.specs.declared.stage.Job.{Job}
use Rattle.vx_core.specs.declared.stage.Event.{Event}
use Rattle.vx_core.specs.declared.stage.Act.{Act}
use Rattle.vx_core.specs.declared.stage.Step.{Step}
use Rattle.vx_core.specs.declared.stage.Work.{Work}
use Rattle.vx_core.specs.declared.stage.Phase.{Phase}
use Rattle.vx_core.specs.declared.stage.Stage.{Stage}
use Rattle.vx_core.specs.declared.stage.Job.TheVariants.{Read as ReadJob, Write as WriteJob}
use Rattle.vx_core.specs.declared.stage.Event.TheVariants.{Begin, Marked, MarkFailed, Unmarked, UnmarkFailed, Wrote, WriteFailed, Got, ReadFailed, Cut}
use Rattle.vx_core.specs.declared.stage.Act.TheVariants.{Done, Lost}
use Rattle.vx_core.specs.declared.stage.Step.TheVariants.{MarkFailed as AtMarkFailed, Equal as AtEqual, Read as AtRead}
use Rattle.vx_core.specs.declared.stage.Phase.TheVariants.{Settled, Unsettled, Dead, Busy}
use Rattle.vx_mask.specs.Mask.{only, union, without, lowest, above_lowest}
use Rattle.vx_core.specs.Table.{current, ended, settle, start, level, marked_failed, offered, answered, begun, goes_on, next_of}
use Rattle.vx_core.specs.Form.{FormIn}
use Rattle.vx_core.specs.Follow.{IsReadDone, ReadsFrom}
use Rattle.vx_core.proofs.Jobs.{mk}
use Rattle.vx_core.proofs.Keeps.{NotBegin}
use Rattle.vx_core.proofs.Walk.{Cases, walk, at_step, NotCut}

abbrev NotDone : Stage × Act → Type 0
NotDone x = x.1 ≡ Done → ⊥

if_not_done : (b : Bool) (x y : Stage × Act) → NotDone x → NotDone y → NotDone (cond b x y)
if_not_done true x y here there = here
if_not_done false x y here there = there

start_read : (s : Stage) → NotDone (start s ReadJob)
start_read s = if_not_done (current s == 0) _ _ (λ e. cc) (λ e. cc)

level_read : (s : Stage) (source left good failed : ℕ) → NotDone (level s (mk ReadJob AtEqual source left good failed))
level_read s source left good failed =
    if_not_done (left == 0) _ _ (if_not_done (failed == 0) _ _ (start_read (record s { phase = Settled })) (λ e. cc)) (λ e. cc)

settle_read : (s : Stage) (left : ℕ) → NotDone (settle s ReadJob left)
settle_read s left = if_not_done (left == 0) _ _ (λ e. cc) (λ e. cc)

offered_read : (s : Stage) (source left good failed more : ℕ) → NotDone (offered s (mk ReadJob AtRead source left good failed) more)
offered_read s source left good failed more = if_not_done (more == 0) _ _ (λ e. cc) (λ e. cc)

marked_case : (s : Stage) (b : Bool) (x y : Stage × Act) → (b ≡ true) → NotDone x → NotDone (cond b x y)
marked_case s true x y e here = here
marked_case s false x y e here = cc

zero_test : (n : ℕ) → n ≡ 0 → (n == 0) ≡ true
zero_test n e = rw e refl

marked_read : (s : Stage) (source left good failed : ℕ) → good ≡ 0 → NotDone (marked_failed s (mk ReadJob AtMarkFailed source left good failed))
marked_read s source left good failed none = marked_case s (good == 0) _ _ (zero_test good none) (start_read (record s { phase = Settled }))

-- a read under way is done at one step, by one answer
abbrev DoneAt : Stage → Job → Step → Event → Type 0
DoneAt s job step event =
    (source left good failed : ℕ) → FormIn s (Busy (mk job step source left good failed)) → job ≡ ReadJob →
    (answered s (mk job step source left good failed) step event).1 ≡ Done → IsReadDone step event s.bits (answered s (mk job step source left good failed) step event).0.bits

-- no step of a settling ends a read
not_yet : {A : Type 0} (f : Job → Stage × Act) (job : Job) → job ≡ ReadJob → NotDone (f ReadJob) → (f job).1 ≡ Done → A
not_yet f job e never done = absurd (never (subst (λ (j : Job). (f j).1 ≡ Done) e done))

marked_good : (s : Stage) (job : Job) (source left good failed : ℕ) → FormIn s (Busy (mk job AtMarkFailed source left good failed)) → job ≡ ReadJob → good ≡ 0
marked_good s job source left good failed form e = elim form.3 [ inl l ↦ l.1 | inr w ↦ never_write (sym w.4 ∙ e) ]
  where
    never_write : {A : Type 0} → WriteJob ≡ ReadJob → A
    never_write h = cc

read_cases : (s : Stage) → Cases (DoneAt s)
read_cases s =
    record {
      marked = λ source left good failed form e done. cc;
      not_marked = λ source left good failed form e done. cc;
      reached = λ source left good failed form e done. cc;
      missed = λ source left good failed form e done. cc;
      failed_marked = λ job source left good failed form e done.
          not_yet (λ j. marked_failed (record s { bits = union s.bits failed }) (mk j AtMarkFailed source left good failed)) job e
          (marked_read (record s { bits = union s.bits failed }) source left good failed (marked_good s job source left good failed form e)) done;
      failed_not_marked = λ job source left good failed form e done. cc;
      found = λ job source left good failed form e done.
          not_yet (λ j. level s (mk j AtEqual source (without (current s) (only source)) good failed)) job e (level_read s source (without (current s) (only source)) good failed) done;
      not_found = λ job k source left good failed form e done. not_yet (λ j. settle s j left) job e (settle_read s left) done;
      levelled = λ job source left good failed form e done.
          not_yet (λ j. level s (mk j AtEqual source (above_lowest left) good failed)) job e (level_read s source (above_lowest left) good failed) done;
      not_levelled = λ job source left good failed form e done.
          not_yet (λ j. level s (mk j AtEqual source (above_lowest left) good (union failed (only (lowest left))))) job e
          (level_read s source (above_lowest left) good (union failed (only (lowest left)))) done;
      copied = λ plex source left good failed form e done. cc;
      not_copied = λ plex source left good failed form e done. cc;
      copy_unmarked = λ plex source left good failed form e done. cc;
      copy_not_unmarked = λ plex source left good failed form e done. cc;
      cleared = λ source left good failed form e done. cc;
      not_cleared = λ source left good failed form e done. cc;
      read = λ source left good failed form e done. record { step = refl; answered = refl; bits = refl };
      not_read = λ k source left good failed form e done. absurd (offered_read s source left good failed (without left (only k)) done);
      copy_read = λ plex source left good failed form e done. cc;
      copy_not_read = λ plex k source left good failed form e done. cc;
    }

read_busy : (s : Stage) (w : Work) (event : Event) → NotCut event → ReadsFrom s (Busy w) event (answered s w w.step event)
read_busy s w event here held formed may e done =
    walk (DoneAt s) (read_cases s) s w.job w.step w.source w.left w.good w.failed event (at_step s w w.step w.job formed.step.3) here may w.source w.left w.good w.failed formed.step e done

read_on : (s : Stage) (phase : Phase) (event : Event) → NotCut event → NotBegin event → ReadsFrom s phase event (goes_on s phase event)
read_on s phase (Begin job) here there = absurd there
read_on s phase Cut here there = absurd here
read_on s (Busy w) Marked here there = read_busy s w Marked tt
read_on s phase Marked here there = tt
read_on s (Busy w) MarkFailed here there = read_busy s w MarkFailed tt
read_on s phase MarkFailed here there = tt
read_on s (Busy w) Unmarked here there = read_busy s w Unmarked tt
read_on s phase Unmarked here there = tt
read_on s (Busy w) UnmarkFailed here there = read_busy s w UnmarkFailed tt
read_on s phase UnmarkFailed here there = tt
read_on s (Busy w) Wrote here there = read_busy s w Wrote tt
read_on s phase Wrote here there = tt
read_on s (Busy w) WriteFailed here there = read_busy s w WriteFailed tt
read_on s phase WriteFailed here there = tt
read_on s (Busy w) Got here there = read_busy s w Got tt
read_on s phase Got here there = tt
read_on s (Busy w) (ReadFailed other) here there = read_busy s w (ReadFailed other) tt
read_on s phase (ReadFailed other) here there = tt

read_begun : (s : Stage) (phase : Phase) (job : Job) → ReadsFrom s phase (Begin job) (begun s phase job)
read_begun s Settled ReadJob = start_read s
read_begun s Settled job = tt
read_begun s Unsettled ReadJob = settle_read s (current s)
read_begun s Unsettled job = tt
read_begun s Dead job = tt
read_begun s (Busy w) job = read_busy s w (Begin job) tt

never_lost : {A : Type 0} → Lost ≡ Done → A
never_lost e = cc

read_cut : (s : Stage) (phase : Phase) → ReadsFrom s phase Cut (ended s Dead Lost)
read_cut s (Busy w) = λ held formed may e done. never_lost done
read_cut s phase = tt

pub reads : (s : Stage) (event : Event) → ReadsFrom s s.phase event (next_of s event)
reads s (Begin job) = read_begun s s.phase job
reads s Cut = read_cut s s.phase
reads s Marked = read_on s s.phase Marked tt tt
reads s MarkFailed = read_on s s.phase MarkFailed tt tt
reads s Unmarked = read_on s s.phase Unmarked tt tt
reads s UnmarkFailed = read_on s s.phase UnmarkFailed tt tt
reads s Wrote = read_on s s.phase Wrote tt tt
reads s WriteFailed = read_on s s.phase WriteFailed tt tt
reads s Got = read_on s s.phase Got tt tt
reads s (ReadFailed other) = read_on s s.phase (ReadFailed other) tt tt
