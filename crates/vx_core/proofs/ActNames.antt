-- A job under way waits for the act that is named.
use Rattle.std.proofs.Common.{ℕ, Bool, true, false, refl, cond}
use Rattle.std.specs.Prelude.{◌&&◌, ◌==◌}
use Rattle.vx_core.specs.declared.stage.Job.{Job}
use Rattle.vx_core.specs.declared.stage.Event.{Event}
use Rattle.vx_core.specs.declared.stage.Act.{Act}
use Rattle.vx_core.specs.declared.stage.Step.{Step}
use Rattle.vx_core.specs.declared.stage.Work.{Work}
use Rattle.vx_core.specs.declared.stage.Phase.{Phase}
use Rattle.vx_core.specs.declared.stage.Stage.{Stage}
use Rattle.vx_core.specs.declared.stage.Job.TheVariants.{Read as ReadJob, Write as WriteJob, Copy as CopyJob, Settle, Clear}
use Rattle.vx_core.specs.declared.stage.Event.TheVariants.{Begin, Marked, MarkFailed, Unmarked, UnmarkFailed, Wrote, WriteFailed, Got, ReadFailed, Cut}
use Rattle.vx_core.specs.declared.stage.Act.TheVariants.{Fault}
use Rattle.vx_core.specs.declared.stage.Step.TheVariants.{Mark as AtMark, Write as AtWrite, MarkFailed as AtMarkFailed, Find as AtFind, Equal as AtEqual, Copy as AtCopy, Unmark as AtUnmark, Read as AtRead}
use Rattle.vx_core.specs.declared.stage.Phase.TheVariants.{Settled, Unsettled, Dead, Busy}
use Rattle.vx_mask.specs.Mask.{has, only, union, without, lowest, above_lowest}
use Rattle.vx_core.specs.Table.{current, need, ended, write, copy, settle, start, written, wrote, level, marked_failed, got, offered, read_failed, answered, begun, goes_on, next_of, NamesAct}

if_named : (b : Bool) (x y : Stage × Act) → NamesAct x → NamesAct y → NamesAct (cond b x y)
if_named true x y here there = here
if_named false x y here there = there

named_write : (s : Stage) → NamesAct (write s)
named_write s = if_named (current s == 0) _ _ tt refl

named_copy : (s : Stage) (job : Job) (left : ℕ) → NamesAct (copy s job left)
named_copy s job left = if_named (left == 0) _ _ tt refl

named_settle : (s : Stage) (job : Job) (left : ℕ) → NamesAct (settle s job left)
named_settle s job left = if_named (left == 0) _ _ tt refl

named_start : (s : Stage) (job : Job) → NamesAct (start s job)
named_start s WriteJob = if_named (need s == 0) _ _ (named_write s) refl
named_start s ReadJob = if_named (current s == 0) _ _ tt refl
named_start s (CopyJob k) = if_named (has s.on k && has s.bits k) _ _ (named_copy s (CopyJob k) (current s)) tt
named_start s Settle = tt
named_start s Clear = if_named (has s.bits 30) _ _ refl tt

named_either : (s : Stage) (b : Bool) → NamesAct (ended s (cond b Settled Unsettled) Fault)
named_either s true = tt
named_either s false = tt

named_written : (s : Stage) (w : Work) → NamesAct (written s w)
named_written s w = if_named (w.failed == 0) _ _ tt (if_named (w.good == 0) _ _ (named_either s (above_lowest w.failed == 0)) refl)

named_wrote : (s : Stage) (w : Work) → NamesAct (wrote s w)
named_wrote s w = if_named (w.left == 0) _ _ (named_written s w) refl

named_level : (s : Stage) (w : Work) → NamesAct (level s w)
named_level s w =
    if_named (w.left == 0) _ _ (if_named (w.failed == 0) _ _ (named_start (record s { phase = Settled }) w.job) refl) refl

named_marked : (s : Stage) (w : Work) → NamesAct (marked_failed s w)
named_marked s w = if_named (w.good == 0) _ _ (named_start (record s { phase = Settled }) w.job) tt

named_offered : (s : Stage) (w : Work) (left : ℕ) → NamesAct (offered s w left)
named_offered s w left = if_named (left == 0) _ _ tt refl

named_got : (s : Stage) (w : Work) (job : Job) → NamesAct (got s w job)
named_got s w ReadJob = tt
named_got s w WriteJob = tt
named_got s w (CopyJob k) = refl
named_got s w Settle = tt
named_got s w Clear = tt

named_read : (s : Stage) (w : Work) (job : Job) (plex : ℕ) → NamesAct (read_failed s w job plex)
named_read s w ReadJob plex = named_offered s w (without w.left (only plex))
named_read s w WriteJob plex = named_offered s w (without w.left (only plex))
named_read s w (CopyJob k) plex = named_copy s w.job w.left
named_read s w Settle plex = named_offered s w (without w.left (only plex))
named_read s w Clear plex = named_offered s w (without w.left (only plex))

named_answer : (s : Stage) (w : Work) (step : Step) (event : Event) → NamesAct (answered s w step event)
named_answer s w AtMark Marked = named_write (record s { bits = union s.bits (need s) })
named_answer s w AtMark MarkFailed = tt
named_answer s w AtWrite Wrote = named_wrote s (record w { left = above_lowest w.left; good = union w.good (only (lowest w.left)) })
named_answer s w AtWrite WriteFailed = named_wrote s (record w { left = above_lowest w.left; failed = union w.failed (only (lowest w.left)) })
named_answer s w AtMarkFailed Marked = named_marked (record s { bits = union s.bits w.failed }) w
named_answer s w AtMarkFailed MarkFailed = tt
named_answer s w AtFind Got = named_level s (record w { step = AtEqual; left = without (current s) (only w.source) })
named_answer s w AtFind (ReadFailed plex) = named_settle s w.job w.left
named_answer s w AtEqual Wrote = named_level s (record w { left = above_lowest w.left })
named_answer s w AtEqual WriteFailed = named_level s (record w { left = above_lowest w.left; failed = union w.failed (only (lowest w.left)) })
named_answer s w AtCopy Wrote = refl
named_answer s w AtCopy WriteFailed = tt
named_answer s w AtUnmark Unmarked = tt
named_answer s w AtUnmark UnmarkFailed = tt
named_answer s w AtRead Got = named_got s w w.job
named_answer s w AtRead (ReadFailed plex) = named_read s w w.job plex
named_answer s w step event = refl

named_begun : (s : Stage) (phase : Phase) (job : Job) → NamesAct (begun s phase job)
named_begun s Settled job = named_start s job
named_begun s Unsettled job = named_settle s job (current s)
named_begun s Dead job = tt
named_begun s (Busy w) job = named_answer s w w.step (Begin job)

named_on : (s : Stage) (phase : Phase) (event : Event) → NamesAct (goes_on s phase event)
named_on s Settled event = tt
named_on s Unsettled event = tt
named_on s Dead event = tt
named_on s (Busy w) event = named_answer s w w.step event

pub named : (s : Stage) (event : Event) → NamesAct (next_of s event)
named s (Begin job) = named_begun s s.phase job
named s Cut = tt
named s Marked = named_on s s.phase Marked
named s MarkFailed = named_on s s.phase MarkFailed
named s Unmarked = named_on s s.phase Unmarked
named s UnmarkFailed = named_on s s.phase UnmarkFailed
named s Wrote = named_on s s.phase Wrote
named s WriteFailed = named_on s s.phase WriteFailed
named s Got = named_on s s.phase Got
named s (ReadFailed plex) = named_on s s.phase (ReadFailed plex)
