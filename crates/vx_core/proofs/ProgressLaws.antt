-- After each answer a job under way has fewer steps left.
use Rattle.std.proofs.Common.{◌≡◌, ◌≢◌, ℕ, ◌+◌, ◌*◌, ◌<◌, ◌≤◌, ◌^◌, Bool, true, false, refl, arith, cond}
use Rattle.std.specs.Prelude.{◌&&◌, ◌==◌}
use Rattle.vx_core.specs.declared.stage.Job.{Job}
use Rattle.vx_core.specs.declared.stage.Event.{Event}
use Rattle.vx_core.specs.declared.stage.Act.{Act}
use Rattle.vx_core.specs.declared.stage.Step.{Step}
use Rattle.vx_core.specs.declared.stage.Work.{Work}
use Rattle.vx_core.specs.declared.stage.Phase.{Phase}
use Rattle.vx_core.specs.declared.stage.Stage.{Stage}
use Rattle.vx_core.specs.declared.stage.Job.TheVariants.{Read as ReadJob, Write as WriteJob, Copy as CopyJob, Settle, Clear}
use Rattle.vx_core.specs.declared.stage.Event.TheVariants.{Begin, Marked, MarkFailed, Unmarked, UnmarkFailed, Wrote, WriteFailed, Got, ReadFailed, Cut}
use Rattle.vx_core.specs.declared.stage.Act.TheVariants.{Lost}
use Rattle.vx_core.specs.declared.stage.Step.TheVariants.{Write as AtWrite, MarkFailed as AtMarkFailed, Equal as AtEqual, Read as AtRead}
use Rattle.vx_core.specs.declared.stage.Phase.TheVariants.{Settled, Unsettled, Dead, Busy}
use Rattle.vx_mask.specs.Mask.{has, only, union, without, lowest, above_lowest}
use Rattle.vx_mask.proofs.MaskLemmas.{has-lowest, without-lt, without-less, some_from_test}
use Rattle.vx_core.specs.Table.{current, need, act_at, ended, write, copy, settle, start, written, wrote, level, marked_failed, offered, answered, begun, goes_on, next_of}
use Rattle.vx_core.specs.Region.{MayAnswer}
use Rattle.vx_core.specs.Form.{FormIn, IsFormed, MayCome}
use Rattle.vx_core.specs.Progress.{steps_left, FallsBelow, ProgressFrom}
use Rattle.vx_core.proofs.Jobs.{mk}
use Rattle.vx_core.proofs.Walk.{Cases, walk, at_step, NotCut}

abbrev Falls : Stage × Act → ℕ → Type 0
Falls x n = FallsBelow x.0.phase n

if_falls : (b : Bool) (x y : Stage × Act) (n : ℕ) → (b ≡ true → Falls x n) → (b ≡ false → Falls y n) → Falls (cond b x y) n
if_falls true x y n here there = here refl
if_falls false x y n here there = there refl

falls_lowest : (left : ℕ) → left < 2 ^ 64 → left ≢ 0 → above_lowest left < left
falls_lowest left fits some = without-less left (lowest left) fits (has-lowest left some fits)

falls_current : (s : Stage) (source : ℕ) → s.on < 2 ^ 64 → without (current s) (only source) < 2 ^ 64
falls_current s source fits = without-lt (current s) (only source) (without-lt s.on s.bits fits)

falls_write : (s : Stage) (n : ℕ) → s.on < 2 ^ 64 → 6 * 2 ^ 64 ≤ n → Falls (write s) n
falls_write s n fits room =
    let small : current s < 2 ^ 64 = without-lt s.on s.bits fits in
    if_falls (current s == 0) _ _ n (λ none. tt) (λ some. omega arith)

falls_copy : (s : Stage) (plex left n : ℕ) → left < 2 ^ 64 → (above_lowest left < left → 3 * 2 ^ 64 + above_lowest left < n) → Falls (copy s (CopyJob plex) left) n
falls_copy s plex left n fits room =
    if_falls (left == 0) _ _ n (λ none. tt) (λ some. room (falls_lowest left fits (some_from_test left some)))

falls_settle : (s : Stage) (job : Job) (left n : ℕ) → left < 2 ^ 64 → (above_lowest left < left → 9 * 2 ^ 64 + above_lowest left < n) → Falls (settle s job left) n
falls_settle s job left n fits room =
    if_falls (left == 0) _ _ n (λ none. tt) (λ some. room (falls_lowest left fits (some_from_test left some)))

falls_start : (s : Stage) (job : Job) (n : ℕ) → s.on < 2 ^ 64 → 7 * 2 ^ 64 ≤ n → Falls (start s job) n
falls_start s WriteJob n fits room =
    if_falls (need s == 0) _ _ n (λ none. falls_write s n fits (omega arith)) (λ some. omega arith)
falls_start s ReadJob n fits room =
    let small : current s < 2 ^ 64 = without-lt s.on s.bits fits in
    if_falls (current s == 0) _ _ n (λ none. tt) (λ some. omega arith)
falls_start s (CopyJob k) n fits room =
    let small : current s < 2 ^ 64 = without-lt s.on s.bits fits in
    if_falls (has s.on k && has s.bits k) _ _ n (λ there. falls_copy s k (current s) n small (λ less. omega arith)) (λ out. tt)
falls_start s Settle n fits room = tt
falls_start s Clear n fits room = if_falls (has s.bits 30) _ _ n (λ there. omega arith) (λ out. tt)

falls_either : (b : Bool) (n : ℕ) → FallsBelow (cond b Settled Unsettled) n
falls_either true n = tt
falls_either false n = tt

falls_written : (s : Stage) (source left good failed n : ℕ) → 5 * 2 ^ 64 + left ≤ n → Falls (written s (mk WriteJob AtWrite source left good failed)) n
falls_written s source left good failed n room =
    if_falls (failed == 0) _ _ n
    (λ none. tt)
    (λ some. if_falls (good == 0) _ _ n (λ none. falls_either (above_lowest failed == 0) n) (λ reached. rw reached (omega arith)))

falls_wrote : (s : Stage) (source left good failed n : ℕ) → 5 * 2 ^ 64 + left < n → Falls (wrote s (mk WriteJob AtWrite source left good failed)) n
falls_wrote s source left good failed n room =
    if_falls (left == 0) _ _ n (λ none. falls_written s source left good failed n (omega arith)) (λ some. room)

falls_level : (s : Stage) (job : Job) (source left good failed n : ℕ) → s.on < 2 ^ 64 → good ≡ 0 → 8 * 2 ^ 64 + left < n → Falls (level s (mk job AtEqual source left good failed)) n
falls_level s job source left good failed n fits none room =
    if_falls (left == 0) _ _ n
    (λ last.
    if_falls (failed == 0) _ _ n
    (λ all. falls_start (record s { phase = Settled }) job n fits (omega arith))
    (λ some. rw none (omega arith)))
    (λ more. room)

falls_marked : (s : Stage) (job : Job) (source left good failed : ℕ) → s.on < 2 ^ 64 →
    Falls (marked_failed (record s { bits = union s.bits failed }) (mk job AtMarkFailed source left good failed)) (steps_left (mk job AtMarkFailed source left good failed))
falls_marked s job source left good failed fits =
    if_falls (good == 0) _ _ (steps_left (mk job AtMarkFailed source left good failed))
    (λ none. falls_start (record s { bits = union s.bits failed; phase = Settled }) job (steps_left (mk job AtMarkFailed source left good failed)) fits (rw none (omega arith)))
    (λ some. tt)

falls_offered : (s : Stage) (source left good failed plex : ℕ) → left < 2 ^ 64 → has left plex ≡ true →
    Falls (offered s (mk ReadJob AtRead source left good failed) (without left (only plex))) (3 * 2 ^ 64 + left)
falls_offered s source left good failed plex fits there =
    let less = without-less left plex fits there in
    if_falls (without left (only plex) == 0) _ _ (3 * 2 ^ 64 + left) (λ none. tt) (λ some. omega arith)

-- the answer brings the job nearer to its end
abbrev FallsAt : Stage → Job → Step → Event → Type 0
FallsAt s job step event =
    (source left good failed : ℕ) → s.on < 2 ^ 64 → FormIn s (Busy (mk job step source left good failed)) →
    MayAnswer (act_at s (mk job step source left good failed) step) event →
    Falls (answered s (mk job step source left good failed) step event) (steps_left (mk job step source left good failed))

falls_cases : (s : Stage) → Cases (FallsAt s)
falls_cases s =
    record {
      marked = λ source left good failed fits form may. falls_write (record s { bits = union s.bits (need s) }) (6 * 2 ^ 64 + left) fits (omega arith);
      not_marked = λ source left good failed fits form may. tt;
      reached = λ source left good failed fits form may.
          falls_wrote s source (above_lowest left) (union good (only (lowest left))) failed (5 * 2 ^ 64 + left) (let less = falls_lowest left form.0 form.3.1 in omega arith);
      missed = λ source left good failed fits form may.
          falls_wrote s source (above_lowest left) good (union failed (only (lowest left))) (5 * 2 ^ 64 + left) (let less = falls_lowest left form.0 form.3.1 in omega arith);
      failed_marked = λ job source left good failed fits form may. falls_marked s job source left good failed fits;
      failed_not_marked = λ job source left good failed fits form may. tt;
      found = λ job source left good failed fits form may.
          falls_level s job source (without (current s) (only source)) good failed (9 * 2 ^ 64 + left) fits form.3.1 (let less = falls_current s source fits in omega arith);
      not_found = λ job other source left good failed fits form may. falls_settle s job left (9 * 2 ^ 64 + left) form.0 (λ less. omega arith);
      levelled = λ job source left good failed fits form may.
          falls_level s job source (above_lowest left) good failed (8 * 2 ^ 64 + left) fits form.3.1 (let less = falls_lowest left form.0 form.3.2 in omega arith);
      not_levelled = λ job source left good failed fits form may.
          falls_level s job source (above_lowest left) good (union failed (only (lowest left))) (8 * 2 ^ 64 + left) fits form.3.1
          (let less = falls_lowest left form.0 form.3.2 in omega arith);
      copied = λ plex source left good failed fits form may. omega arith;
      not_copied = λ plex source left good failed fits form may. tt;
      copy_unmarked = λ plex source left good failed fits form may. tt;
      copy_not_unmarked = λ plex source left good failed fits form may. tt;
      cleared = λ source left good failed fits form may. tt;
      not_cleared = λ source left good failed fits form may. tt;
      read = λ source left good failed fits form may. tt;
      not_read = λ other source left good failed fits form may. falls_offered s source left good failed other form.0 may;
      copy_read = λ plex source left good failed fits form may. omega arith;
      copy_not_read = λ plex other source left good failed fits form may. falls_copy s plex left (3 * 2 ^ 64 + left) form.0 (λ less. omega arith);
    }

progress_busy : (s : Stage) (w : Work) (event : Event) (held : ℕ → Bool) → NotCut event → IsFormed s (Busy w) held → MayAnswer (act_at s w w.step) event →
    Falls (answered s w w.step event) (steps_left w)
progress_busy s w event held here formed may =
    walk (FallsAt s) (falls_cases s) s w.job w.step w.source w.left w.good w.failed event (at_step s w w.step w.job formed.step.3) here may
    w.source w.left w.good w.failed formed.stage.on_fits formed.step may

progress_on : (s : Stage) (phase : Phase) (event : Event) (held : ℕ → Bool) → NotCut event → IsFormed s phase held → MayCome s phase event → ProgressFrom phase (goes_on s phase event).0.phase
progress_on s Settled event held here formed may = tt
progress_on s Unsettled event held here formed may = tt
progress_on s Dead event held here formed may = tt
progress_on s (Busy w) event held here formed may = progress_busy s w event held here formed may

progress_cut : (s : Stage) (phase : Phase) → ProgressFrom phase (ended s Dead Lost).0.phase
progress_cut s Settled = tt
progress_cut s Unsettled = tt
progress_cut s Dead = tt
progress_cut s (Busy w) = tt

progress_begun : (s : Stage) (phase : Phase) (job : Job) (held : ℕ → Bool) → IsFormed s phase held → MayCome s phase (Begin job) → ProgressFrom phase (begun s phase job).0.phase
progress_begun s Settled job held formed may = tt
progress_begun s Unsettled job held formed may = tt
progress_begun s Dead job held formed may = tt
progress_begun s (Busy w) job held formed may = progress_busy s w (Begin job) held tt formed may

pub progresses : (s : Stage) (event : Event) (held : ℕ → Bool) → IsFormed s s.phase held → MayCome s s.phase event → ProgressFrom s.phase (next_of s event).0.phase
progresses s (Begin job) held formed may = progress_begun s s.phase job held formed may
progresses s Cut held formed may = progress_cut s s.phase
progresses s Marked held formed may = progress_on s s.phase Marked held tt formed may
progresses s MarkFailed held formed may = progress_on s s.phase MarkFailed held tt formed may
progresses s Unmarked held formed may = progress_on s s.phase Unmarked held tt formed may
progresses s UnmarkFailed held formed may = progress_on s s.phase UnmarkFailed held tt formed may
progresses s Wrote held formed may = progress_on s s.phase Wrote held tt formed may
progresses s WriteFailed held formed may = progress_on s s.phase WriteFailed held tt formed may
progresses s Got held formed may = progress_on s s.phase Got held tt formed may
progresses s (ReadFailed other) held formed may = progress_on s s.phase (ReadFailed other) held tt formed may
