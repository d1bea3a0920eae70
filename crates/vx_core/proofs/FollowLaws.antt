-- A job goes on as it may.
use Rattle.std.proofs.Common.{◌≡◌, ℕ, Bool, true, false, refl, sym, ap, cond}
use Rattle.std.specs.Prelude.{◌&&◌, ◌==◌}
use Rattle.vx_core.specs.declared.stage.Job.{Job}
use Rattle.vx_core.specs.declared.stage.Event.{Event}
use Rattle.vx_core.specs.declared.stage.Act.{Act}
use Rattle.vx_core.specs.declared.stage.Step.{Step}
use Rattle.vx_core.specs.declared.stage.Work.{Work}
use Rattle.vx_core.specs.declared.stage.Phase.{Phase}
use Rattle.vx_core.specs.declared.stage.Stage.{Stage}
use Rattle.vx_core.specs.declared.stage.Job.TheVariants.{Read as ReadJob, Write as WriteJob, Copy as CopyJob, Settle, Clear}
use Rattle.vx_core.specs.declared.stage.Event.TheVariants.{Begin, Marked, MarkFailed, Unmarked, UnmarkFailed, Wrote, WriteFailed, Got, ReadFailed, Cut}
use Rattle.vx_core.specs.declared.stage.Act.TheVariants.{Fault, Lost}
use Rattle.vx_core.specs.declared.stage.Step.TheVariants.{Mark as AtMark, Write as AtWrite, MarkFailed as AtMarkFailed, Find as AtFind, Equal as AtEqual, Copy as AtCopy, Unmark as AtUnmark, Read as AtRead}
use Rattle.vx_core.specs.declared.stage.Phase.TheVariants.{Settled, Unsettled, Dead, Busy}
use Rattle.vx_mask.specs.Mask.{has, only, union, without, lowest, above_lowest}
use Rattle.vx_mask.proofs.Tests.{not_both}
use Rattle.vx_core.specs.Table.{current, need, ended, write, copy, settle, start, wrote, level, marked_failed, got, offered, read_failed, answered, begun, goes_on, next_of}
use Rattle.vx_core.specs.Follow.{IsFollowing, Follows, FollowsFrom, SameMasks, HasRead, settles, Rewrites}
use Rattle.vx_core.proofs.Jobs.{mk}
use Rattle.vx_core.proofs.Keeps.{NotBegin}
use Rattle.vx_core.proofs.Walk.{Cases, walk, at_step, NotCut}

module _ (s : Stage) (job : Job) (was : Step) (event : Event) (source : ℕ) where
  if_fine : (b : Bool) (x y : Stage × Act) → Follows s job was event source x → Follows s job was event source y → Follows s job was event source (cond b x y)
  if_fine true x y here there = here
  if_fine false x y here there = there

plain_step : (job : Job) (was : Step) (event : Event) (source : ℕ) (step : Step) (now : ℕ) → (Rewrites step → ⊥) → settles step ≡ false → IsFollowing job was event source job step now
plain_step job was event source step now never quiet = record { same_job = refl; same_source = λ r. absurd (never r); stays_quiet = λ h. quiet }

plain_masks : (s : Stage) → SameMasks s s
plain_masks s = (refl, refl, refl, refl)

fine_write : (s : Stage) (was : Step) (event : Event) (source : ℕ) → Follows s WriteJob was event source (write s)
fine_write s was event source =
    if_fine s WriteJob was event source (current s == 0) _ _ (tt, plain_masks s) (plain_step WriteJob was event source AtWrite 0 (λ r. r) refl, plain_masks s)

fine_copy : (s : Stage) (k : ℕ) (was : Step) (event : Event) (source left : ℕ) → Follows s (CopyJob k) was event source (copy s (CopyJob k) left)
fine_copy s k was event source left =
    if_fine s (CopyJob k) was event source (left == 0) _ _ (tt, plain_masks s) (plain_step (CopyJob k) was event source AtRead (lowest left) (λ r. r) refl, plain_masks s)

fine_start : (s : Stage) (job : Job) (was : Step) (event : Event) (source : ℕ) → Follows s job was event source (start s job)
fine_start s WriteJob was event source =
    if_fine s WriteJob was event source (need s == 0) _ _ (fine_write s was event source) (plain_step WriteJob was event source AtMark 0 (λ r. r) refl, plain_masks s)
fine_start s ReadJob was event source =
    if_fine s ReadJob was event source (current s == 0) _ _ (tt, plain_masks s) (plain_step ReadJob was event source AtRead 0 (λ r. r) refl, plain_masks s)
fine_start s (CopyJob k) was event source =
    if_fine s (CopyJob k) was event source (has s.on k && has s.bits k) _ _ (fine_copy s k was event source (current s)) (tt, plain_masks s)
fine_start s Settle was event source = (tt, plain_masks s)
fine_start s Clear was event source =
    if_fine s Clear was event source (has s.bits 30) _ _ (plain_step Clear was event source AtUnmark 0 (λ r. r) refl, plain_masks s) (tt, plain_masks s)

fine_settle : (s : Stage) (job : Job) (event : Event) (source left : ℕ) → Follows s job AtFind event source (settle s job left)
fine_settle s job event source left =
    if_fine s job AtFind event source (left == 0) _ _ (refl, plain_masks s) (record { same_job = refl; same_source = λ r. absurd r; stays_quiet = λ h. h }, plain_masks s)

fine_level : (s : Stage) (job : Job) (was : Step) (event : Event) (source left good failed : ℕ) → HasRead job was event → settles was ≡ true → Follows s job was event source (level s (mk job AtEqual source left good failed))
fine_level s job was event source left good failed has settling =
    if_fine s job was event source (left == 0) _ _
    (if_fine s job was event source (failed == 0) _ _ (fine_start (record s { phase = Settled }) job was event source) (plain_step job was event source AtMarkFailed source (λ r. r) refl, plain_masks s))
    (record { same_job = refl; same_source = λ r. (has, refl); stays_quiet = λ h. not_both settling h }, plain_masks s)

fine_either : (s : Stage) (job : Job) (was : Step) (event : Event) (source : ℕ) (b : Bool) → Follows s job was event source (ended s (cond b Settled Unsettled) Fault)
fine_either s job was event source true = (tt, plain_masks s)
fine_either s job was event source false = (refl, plain_masks s)

fine_wrote : (s : Stage) (event : Event) (source left good failed : ℕ) → Follows s WriteJob AtWrite event source (wrote s (mk WriteJob AtWrite source left good failed))
fine_wrote s event source left good failed =
    if_fine s WriteJob AtWrite event source (left == 0) _ _
    (if_fine s WriteJob AtWrite event source (failed == 0) _ _ (tt, plain_masks s)
    (if_fine s WriteJob AtWrite event source (good == 0) _ _ (fine_either s WriteJob AtWrite event source (above_lowest failed == 0))
    (plain_step WriteJob AtWrite event source AtMarkFailed source (λ r. r) refl, plain_masks s)))
    (plain_step WriteJob AtWrite event source AtWrite source (λ r. r) refl, plain_masks s)

fine_marked : (s : Stage) (job : Job) (event : Event) (source left good failed : ℕ) → Follows s job AtMarkFailed event source (marked_failed s (mk job AtMarkFailed source left good failed))
fine_marked s job event source left good failed =
    if_fine s job AtMarkFailed event source (good == 0) _ _ (fine_start (record s { phase = Settled }) job AtMarkFailed event source) (tt, plain_masks s)

fine_offered : (s : Stage) (job : Job) (event : Event) (source left good failed more : ℕ) → Follows s job AtRead event source (offered s (mk job AtRead source left good failed) more)
fine_offered s job event source left good failed more =
    if_fine s job AtRead event source (more == 0) _ _ (tt, plain_masks s) (plain_step job AtRead event source AtRead source (λ r. r) refl, plain_masks s)

fine_got : (s : Stage) (job : Job) (source left good failed : ℕ) → Follows s job AtRead Got source (got s (mk job AtRead source left good failed) job)
fine_got s ReadJob source left good failed = (tt, plain_masks s)
fine_got s WriteJob source left good failed = (tt, plain_masks s)
fine_got s (CopyJob k) source left good failed = (record { same_job = refl; same_source = λ r. (tt, refl); stays_quiet = λ h. refl }, plain_masks s)
fine_got s Settle source left good failed = (tt, plain_masks s)
fine_got s Clear source left good failed = (tt, plain_masks s)

fine_read : (s : Stage) (job : Job) (source left good failed plex : ℕ) → Follows s job AtRead (ReadFailed plex) source (read_failed s (mk job AtRead source left good failed) job plex)
fine_read s ReadJob source left good failed plex = fine_offered s ReadJob (ReadFailed plex) source left good failed (without left (only plex))
fine_read s WriteJob source left good failed plex = fine_offered s WriteJob (ReadFailed plex) source left good failed (without left (only plex))
fine_read s (CopyJob k) source left good failed plex = fine_copy s k AtRead (ReadFailed plex) source left
fine_read s Settle source left good failed plex = fine_offered s Settle (ReadFailed plex) source left good failed (without left (only plex))
fine_read s Clear source left good failed plex = fine_offered s Clear (ReadFailed plex) source left good failed (without left (only plex))

-- the job goes on as it may
abbrev FollowsAt : Stage → Job → Step → Event → Type 0
FollowsAt s job step event = (source left good failed : ℕ) → Follows s job step event source (answered s (mk job step source left good failed) step event)

follow_cases : (s : Stage) → Cases (FollowsAt s)
follow_cases s =
    record {
      marked = λ source left good failed. fine_write (record s { bits = union s.bits (need s) }) AtMark Marked source;
      not_marked = λ source left good failed. (tt, plain_masks s);
      reached = λ source left good failed. fine_wrote s Wrote source (above_lowest left) (union good (only (lowest left))) failed;
      missed = λ source left good failed. fine_wrote s WriteFailed source (above_lowest left) good (union failed (only (lowest left)));
      failed_marked = λ job source left good failed. fine_marked (record s { bits = union s.bits failed }) job Marked source left good failed;
      failed_not_marked = λ job source left good failed. (refl, plain_masks s);
      found = λ job source left good failed. fine_level s job AtFind Got source (without (current s) (only source)) good failed tt refl;
      not_found = λ job k source left good failed. fine_settle s job (ReadFailed k) source left;
      levelled = λ job source left good failed. fine_level s job AtEqual Wrote source (above_lowest left) good failed tt refl;
      not_levelled = λ job source left good failed. fine_level s job AtEqual WriteFailed source (above_lowest left) good (union failed (only (lowest left))) tt refl;
      copied = λ plex source left good failed. (plain_step (CopyJob plex) AtCopy Wrote source AtUnmark source (λ r. r) refl, plain_masks s);
      not_copied = λ plex source left good failed. (tt, plain_masks s);
      copy_unmarked = λ plex source left good failed. (tt, plain_masks s);
      copy_not_unmarked = λ plex source left good failed. (tt, plain_masks s);
      cleared = λ source left good failed. (tt, plain_masks s);
      not_cleared = λ source left good failed. (tt, plain_masks s);
      read = λ source left good failed. fine_got s ReadJob source left good failed;
      not_read = λ k source left good failed. fine_read s ReadJob source left good failed k;
      copy_read = λ plex source left good failed. fine_got s (CopyJob plex) source left good failed;
      copy_not_read = λ plex k source left good failed. fine_read s (CopyJob plex) source left good failed k;
    }

follow_busy : (s : Stage) (w : Work) (event : Event) → NotCut event → FollowsFrom s (Busy w) event (answered s w w.step event)
follow_busy s w event here held formed may =
    walk (FollowsAt s) (follow_cases s) s w.job w.step w.source w.left w.good w.failed event (at_step s w w.step w.job formed.step.3) here may w.source w.left w.good w.failed

follow_on : (s : Stage) (phase : Phase) (event : Event) → NotCut event → NotBegin event → FollowsFrom s phase event (goes_on s phase event)
follow_on s phase (Begin job) here there = absurd there
follow_on s phase Cut here there = absurd here
follow_on s (Busy w) Marked here there = follow_busy s w Marked tt
follow_on s phase Marked here there = tt
follow_on s (Busy w) MarkFailed here there = follow_busy s w MarkFailed tt
follow_on s phase MarkFailed here there = tt
follow_on s (Busy w) Unmarked here there = follow_busy s w Unmarked tt
follow_on s phase Unmarked here there = tt
follow_on s (Busy w) UnmarkFailed here there = follow_busy s w UnmarkFailed tt
follow_on s phase UnmarkFailed here there = tt
follow_on s (Busy w) Wrote here there = follow_busy s w Wrote tt
follow_on s phase Wrote here there = tt
follow_on s (Busy w) WriteFailed here there = follow_busy s w WriteFailed tt
follow_on s phase WriteFailed here there = tt
follow_on s (Busy w) Got here there = follow_busy s w Got tt
follow_on s phase Got here there = tt
follow_on s (Busy w) (ReadFailed other) here there = follow_busy s w (ReadFailed other) tt
follow_on s phase (ReadFailed other) here there = tt

follow_begun : (s : Stage) (phase : Phase) (job : Job) → s.phase ≡ phase → FollowsFrom s phase (Begin job) (begun s phase job)
follow_begun s Settled job e = fine_start s job AtMark (Begin job) 0
follow_begun s Unsettled job e = fine_settle s job (Begin job) 0 (current s)
follow_begun s Dead job e = (ap (λ (p : Phase). record s { phase = p }) (sym e), refl)
follow_begun s (Busy w) job e = follow_busy s w (Begin job) tt

follow_cut : (s : Stage) (phase : Phase) → FollowsFrom s phase Cut (ended s Dead Lost)
follow_cut s (Busy w) = λ held formed may. ((refl, refl), plain_masks s)
follow_cut s phase = tt

pub follows : (s : Stage) (event : Event) → FollowsFrom s s.phase event (next_of s event)
follows s (Begin job) = follow_begun s s.phase job refl
follows s Cut = follow_cut s s.phase
follows s Marked = follow_on s s.phase Marked tt tt
follows s MarkFailed = follow_on s s.phase MarkFailed tt tt
follows s Unmarked = follow_on s s.phase Unmarked tt tt
follows s UnmarkFailed = follow_on s s.phase UnmarkFailed tt tt
follows s Wrote = follow_on s s.phase Wrote tt tt
follows s WriteFailed = follow_on s s.phase WriteFailed tt tt
follows s Got = follow_on s s.phase Got tt tt
follows s (ReadFailed other) = follow_on s s.phase (ReadFailed other) tt tt
