-- A job answers Fault only as a device fails.
use Rattle.std.proofs.Common.{◌≡◌, ◌≢◌, ℕ, ◌<◌, ◌^◌, ◌⊎◌, inl, inr, Bool, true, false, refl, subst, cond}
use Rattle.std.specs.Prelude.{◌&&◌, ◌==◌}
use Rattle.vx_core.specs.declared.stage.Job.{Job}
use Rattle.vx_core.specs.declared.stage.Event.{Event}
use Rattle.vx_core.specs.declared.stage.Act.{Act}
use Rattle.vx_core.specs.declared.stage.Step.{Step}
use Rattle.vx_core.specs.declared.stage.Work.{Work}
use Rattle.vx_core.specs.declared.stage.Phase.{Phase}
use Rattle.vx_core.specs.declared.stage.Stage.{Stage}
use Rattle.vx_core.specs.declared.stage.Job.TheVariants.{Read as ReadJob, Write as WriteJob, Copy as CopyJob, Settle, Clear}
use Rattle.vx_core.specs.declared.stage.Event.TheVariants.{Begin, Marked, MarkFailed, Unmarked, UnmarkFailed, Wrote, WriteFailed, Got, ReadFailed, Cut}
use Rattle.vx_core.specs.declared.stage.Act.TheVariants.{Fault}
use Rattle.vx_core.specs.declared.stage.Step.TheVariants.{Write as AtWrite, MarkFailed as AtMarkFailed, Equal as AtEqual}
use Rattle.vx_core.specs.declared.stage.Phase.TheVariants.{Settled, Unsettled, Dead, Busy}
use Rattle.vx_mask.specs.Mask.{has, only, union, without, lowest, above_lowest}
use Rattle.vx_mask.proofs.MaskLemmas.{has-zero, has-only_same, lowest_there, not_empty, empty_from_test}
use Rattle.vx_mask.proofs.Sets.{in_union, in_without}
use Rattle.vx_mask.proofs.Tests.{not_both}
use Rattle.vx_core.specs.Table.{current, need, write, copy, settle, start, wrote, level, marked_failed, answered, begun, goes_on, next_of}
use Rattle.vx_core.specs.Form.{FormIn, IsFormed, MayCome}
use Rattle.vx_core.specs.Follow.{IsFailure, FailsFrom}
use Rattle.vx_core.proofs.FormLaws.{forms}
use Rattle.vx_core.proofs.Jobs.{mk}
use Rattle.vx_core.proofs.Keeps.{NotBegin}
use Rattle.vx_core.proofs.Walk.{Cases, walk, at_step, NotCut}

-- where it answers Fault, no plex is current
abbrev Empties : Stage × Act → Type 0
Empties x = x.1 ≡ Fault → current x.0 ≡ 0

either : (b : Bool) (x y : Stage × Act) → (b ≡ true → Empties x) → (b ≡ false → Empties y) → Empties (cond b x y)
either true x y here there = here refl
either false x y here there = there refl

of_write : (s : Stage) → Empties (write s)
of_write s = either (current s == 0) _ _ (λ none fault. empty_from_test (current s) none) (λ some fault. cc)

of_copy : (s : Stage) (k : ℕ) → Empties (copy s (CopyJob k) (current s))
of_copy s k = either (current s == 0) _ _ (λ none fault. empty_from_test (current s) none) (λ some fault. cc)

of_settle : (s : Stage) (job : Job) → Empties (settle s job (current s))
of_settle s job = either (current s == 0) _ _ (λ none fault. empty_from_test (current s) none) (λ some fault. cc)

of_start : (s : Stage) (job : Job) → Empties (start s job)
of_start s WriteJob = either (need s == 0) _ _ (λ none. of_write s) (λ some fault. cc)
of_start s ReadJob = either (current s == 0) _ _ (λ none fault. empty_from_test (current s) none) (λ some fault. cc)
of_start s (CopyJob k) = either (has s.on k && has s.bits k) _ _ (λ is. of_copy s k) (λ not fault. cc)
of_start s Settle = λ fault. cc
of_start s Clear = either (has s.bits 30) _ _ (λ is fault. cc) (λ not fault. cc)

of_level : (s : Stage) (job : Job) (source left good failed : ℕ) → Empties (level s (mk job AtEqual source left good failed))
of_level s job source left good failed =
    either (left == 0) _ _ (λ none. either (failed == 0) _ _ (λ fine. of_start (record s { phase = Settled }) job) (λ some fault. cc)) (λ some fault. cc)

of_marked : (s : Stage) (job : Job) (source left good failed : ℕ) → Empties (marked_failed s (mk job AtMarkFailed source left good failed))
of_marked s job source left good failed = either (good == 0) _ _ (λ none. of_start (record s { phase = Settled }) job) (λ some fault. cc)

of_wrote : (s : Stage) (source left good failed : ℕ) → good ≢ 0 → Empties (wrote s (mk WriteJob AtWrite source left good failed))
of_wrote s source left good failed some =
    either (left == 0) _ _
    (λ none. either (failed == 0) _ _ (λ fine fault. cc) (λ missed. either (good == 0) _ _ (λ no. absurd (some (empty_from_test good no))) (λ yes fault. cc)))
    (λ more fault. cc)

reached_some : (left good : ℕ) → left ≢ 0 → left < 2 ^ 64 → union good (only (lowest left)) ≢ 0
reached_some left good some fits =
    not_empty (union good (only (lowest left))) (lowest left) (in_union good (only (lowest left)) (lowest left) (inr (has-only_same (lowest left) (lowest_there left some fits).1)))

-- ---- the cases

abbrev FailsAt : Stage → Job → Step → Event → Type 0
FailsAt s job step event =
    (source left good failed : ℕ) → FormIn s (Busy (mk job step source left good failed)) → (answered s (mk job step source left good failed) step event).1 ≡ Fault →
    IsFailure event ⊎ (current (answered s (mk job step source left good failed) step event).0 ≡ 0)

fail_cases : (s : Stage) → Cases (FailsAt s)
fail_cases s =
    record {
      marked = λ source left good failed form fault. inr (of_write (record s { bits = union s.bits (need s) }) fault);
      not_marked = λ source left good failed form fault. inl tt;
      reached = λ source left good failed form fault.
          inr (of_wrote s source (above_lowest left) (union good (only (lowest left))) failed (reached_some left good form.3.1 form.0) fault);
      missed = λ source left good failed form fault. inl tt;
      failed_marked = λ job source left good failed form fault. inr (of_marked (record s { bits = union s.bits failed }) job source left good failed fault);
      failed_not_marked = λ job source left good failed form fault. inl tt;
      found = λ job source left good failed form fault. inr (of_level s job source (without (current s) (only source)) good failed fault);
      not_found = λ job k source left good failed form fault. inl tt;
      levelled = λ job source left good failed form fault. inr (of_level s job source (above_lowest left) good failed fault);
      not_levelled = λ job source left good failed form fault. inl tt;
      copied = λ plex source left good failed form fault. cc;
      not_copied = λ plex source left good failed form fault. inl tt;
      copy_unmarked = λ plex source left good failed form fault. cc;
      copy_not_unmarked = λ plex source left good failed form fault. inl tt;
      cleared = λ source left good failed form fault. cc;
      not_cleared = λ source left good failed form fault. inl tt;
      read = λ source left good failed form fault. cc;
      not_read = λ k source left good failed form fault. inl tt;
      copy_read = λ plex source left good failed form fault. cc;
      copy_not_read = λ plex k source left good failed form fault. inl tt;
    }

-- some plex is current in a well formed stage
some_current : {A : Type 0} (s : Stage) (phase : Phase) (held : ℕ → Bool) → IsFormed s phase held → current s ≡ 0 → A
some_current s phase held formed none =
    let r = formed.readable in
    not_both (subst (λ (n : ℕ). has n r.0 ≡ true) none (in_without s.on s.bits r.0 r.1 r.2)) (has-zero r.0)

fails_by : (s : Stage) (event : Event) (held : ℕ → Bool) → IsFormed s s.phase held → MayCome s s.phase event → IsFailure event ⊎ (current (next_of s event).0 ≡ 0) → IsFailure event
fails_by s event held formed may (inl fails) = fails
fails_by s event held formed may (inr none) = some_current (next_of s event).0 (next_of s event).0.phase held (forms s event held formed may) none

fail_busy : (s : Stage) (w : Work) (event : Event) (held : ℕ → Bool) → NotCut event → IsFormed s (Busy w) held → MayCome s (Busy w) event → (answered s w w.step event).1 ≡ Fault →
    IsFailure event ⊎ (current (answered s w w.step event).0 ≡ 0)
fail_busy s w event held here formed may fault =
    walk (FailsAt s) (fail_cases s) s w.job w.step w.source w.left w.good w.failed event (at_step s w w.step w.job formed.step.3) here may w.source w.left w.good w.failed formed.step fault

fail_on : (s : Stage) (phase : Phase) (event : Event) (held : ℕ → Bool) → NotCut event → NotBegin event → IsFormed s phase held → MayCome s phase event → (goes_on s phase event).1 ≡ Fault →
    IsFailure event ⊎ (current (goes_on s phase event).0 ≡ 0)
fail_on s (Busy w) event held here there formed may fault = fail_busy s w event held here formed may fault
fail_on s Dead event held here there formed may fault = cc
fail_on s Settled (Begin job) held here there formed may fault = absurd there
fail_on s Settled Cut held here there formed may fault = absurd here
fail_on s Settled event held here there formed may fault = absurd may
fail_on s Unsettled (Begin job) held here there formed may fault = absurd there
fail_on s Unsettled Cut held here there formed may fault = absurd here
fail_on s Unsettled event held here there formed may fault = absurd may

fail_begun : (s : Stage) (phase : Phase) (job : Job) (held : ℕ → Bool) → IsFormed s phase held → MayCome s phase (Begin job) → (begun s phase job).1 ≡ Fault →
    IsFailure (Begin job) ⊎ (current (begun s phase job).0 ≡ 0)
fail_begun s Settled job held formed may fault = inr (of_start s job fault)
fail_begun s Unsettled job held formed may fault = inr (of_settle s job fault)
fail_begun s Dead job held formed may fault = absurd may
fail_begun s (Busy w) job held formed may fault = fail_busy s w (Begin job) held tt formed may fault

fail_either : (s : Stage) (event : Event) (held : ℕ → Bool) → IsFormed s s.phase held → MayCome s s.phase event → (next_of s event).1 ≡ Fault →
    IsFailure event ⊎ (current (next_of s event).0 ≡ 0)
fail_either s (Begin job) held formed may fault = fail_begun s s.phase job held formed may fault
fail_either s Cut held formed may fault = cc
fail_either s Marked held formed may fault = fail_on s s.phase Marked held tt tt formed may fault
fail_either s MarkFailed held formed may fault = inl tt
fail_either s Unmarked held formed may fault = fail_on s s.phase Unmarked held tt tt formed may fault
fail_either s UnmarkFailed held formed may fault = inl tt
fail_either s Wrote held formed may fault = fail_on s s.phase Wrote held tt tt formed may fault
fail_either s WriteFailed held formed may fault = inl tt
fail_either s Got held formed may fault = fail_on s s.phase Got held tt tt formed may fault
fail_either s (ReadFailed other) held formed may fault = inl tt

pub fails : (s : Stage) (event : Event) → FailsFrom s event (next_of s event)
fails s event held formed may fault = fails_by s event held formed may (fail_either s event held formed may fault)
