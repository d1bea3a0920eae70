-- One walk over all answers that may come: a fact of each job, step and event follows from the cases that there are.
use Rattle.std.proofs.Common.{ℕ}
use Rattle.vx_core.specs.declared.stage.Job.{Job}
use Rattle.vx_core.specs.declared.stage.Event.{Event}
use Rattle.vx_core.specs.declared.stage.Step.{Step}
use Rattle.vx_core.specs.declared.stage.Work.{Work}
use Rattle.vx_core.specs.declared.stage.Stage.{Stage}
use Rattle.vx_core.specs.declared.stage.Job.TheVariants.{Read as ReadJob, Write as WriteJob, Copy as CopyJob, Clear}
use Rattle.vx_core.specs.declared.stage.Event.TheVariants.{Marked, MarkFailed, Unmarked, UnmarkFailed, Wrote, WriteFailed, Got, ReadFailed, Cut}
use Rattle.vx_core.specs.declared.stage.Step.TheVariants.{Mark as AtMark, Write as AtWrite, MarkFailed as AtMarkFailed, Find as AtFind, Equal as AtEqual, Copy as AtCopy, Unmark as AtUnmark, Read as AtRead}
use Rattle.vx_core.specs.Table.{act_at}
use Rattle.vx_core.specs.Region.{MayAnswer}
use Rattle.vx_core.specs.Form.{FormAt}

-- a job is at this step
abbrev pub IsAt : Step → Job → Type 0
IsAt AtMark WriteJob = Unit {0}
IsAt AtWrite WriteJob = Unit {0}
IsAt AtMarkFailed job = Unit {0}
IsAt AtFind job = Unit {0}
IsAt AtEqual job = Unit {0}
IsAt AtCopy (CopyJob k) = Unit {0}
IsAt AtUnmark (CopyJob k) = Unit {0}
IsAt AtUnmark Clear = Unit {0}
IsAt AtRead ReadJob = Unit {0}
IsAt AtRead (CopyJob k) = Unit {0}
IsAt _ _ = ⊥

pub at_step : (s : Stage) (w : Work) (step : Step) (job : Job) → FormAt s w step job → IsAt step job
at_step s w AtMark WriteJob h = tt
at_step s w AtMark job h = absurd h
at_step s w AtWrite WriteJob h = tt
at_step s w AtWrite job h = absurd h
at_step s w AtMarkFailed job h = tt
at_step s w AtFind job h = tt
at_step s w AtEqual job h = tt
at_step s w AtCopy (CopyJob k) h = tt
at_step s w AtCopy job h = absurd h
at_step s w AtUnmark (CopyJob k) h = tt
at_step s w AtUnmark Clear h = tt
at_step s w AtUnmark job h = absurd h
at_step s w AtRead ReadJob h = tt
at_step s w AtRead (CopyJob k) h = tt
at_step s w AtRead job h = absurd h

abbrev pub NotCut : Event → Type 0
NotCut Cut = ⊥
NotCut _ = Unit {0}

-- the cases that there are
pub record Cases (P : Job → Step → Event → Type 0) : Type 0 where
  pub marked : P WriteJob AtMark Marked
  pub not_marked : P WriteJob AtMark MarkFailed
  pub reached : P WriteJob AtWrite Wrote
  pub missed : P WriteJob AtWrite WriteFailed
  pub failed_marked : (job : Job) → P job AtMarkFailed Marked
  pub failed_not_marked : (job : Job) → P job AtMarkFailed MarkFailed
  pub found : (job : Job) → P job AtFind Got
  pub not_found : (job : Job) (k : ℕ) → P job AtFind (ReadFailed k)
  pub levelled : (job : Job) → P job AtEqual Wrote
  pub not_levelled : (job : Job) → P job AtEqual WriteFailed
  pub copied : (plex : ℕ) → P (CopyJob plex) AtCopy Wrote
  pub not_copied : (plex : ℕ) → P (CopyJob plex) AtCopy WriteFailed
  pub copy_unmarked : (plex : ℕ) → P (CopyJob plex) AtUnmark Unmarked
  pub copy_not_unmarked : (plex : ℕ) → P (CopyJob plex) AtUnmark UnmarkFailed
  pub cleared : P Clear AtUnmark Unmarked
  pub not_cleared : P Clear AtUnmark UnmarkFailed
  pub read : P ReadJob AtRead Got
  pub not_read : (k : ℕ) → P ReadJob AtRead (ReadFailed k)
  pub copy_read : (plex : ℕ) → P (CopyJob plex) AtRead Got
  pub copy_not_read : (plex k : ℕ) → P (CopyJob plex) AtRead (ReadFailed k)

pub walk : (P : Job → Step → Event → Type 0) → Cases P → (s : Stage) (job : Job) (step : Step) (source left good failed : ℕ) (event : Event) →
    IsAt step job → NotCut event → MayAnswer (act_at s (record { job = job; step = step; source = source; left = left; good = good; failed = failed }) step) event → P job step event
walk P c s job step source left good failed Cut at here may = absurd here
walk P c s WriteJob AtMark source left good failed Marked at here may = c.marked
walk P c s WriteJob AtMark source left good failed MarkFailed at here may = c.not_marked
walk P c s WriteJob AtMark source left good failed event at here may = absurd may
walk P c s job AtMark source left good failed event at here may = absurd at
walk P c s WriteJob AtWrite source left good failed Wrote at here may = c.reached
walk P c s WriteJob AtWrite source left good failed WriteFailed at here may = c.missed
walk P c s WriteJob AtWrite source left good failed event at here may = absurd may
walk P c s job AtWrite source left good failed event at here may = absurd at
walk P c s job AtMarkFailed source left good failed Marked at here may = c.failed_marked job
walk P c s job AtMarkFailed source left good failed MarkFailed at here may = c.failed_not_marked job
walk P c s job AtMarkFailed source left good failed event at here may = absurd may
walk P c s job AtFind source left good failed Got at here may = c.found job
walk P c s job AtFind source left good failed (ReadFailed k) at here may = c.not_found job k
walk P c s job AtFind source left good failed event at here may = absurd may
walk P c s job AtEqual source left good failed Wrote at here may = c.levelled job
walk P c s job AtEqual source left good failed WriteFailed at here may = c.not_levelled job
walk P c s job AtEqual source left good failed event at here may = absurd may
walk P c s (CopyJob plex) AtCopy source left good failed Wrote at here may = c.copied plex
walk P c s (CopyJob plex) AtCopy source left good failed WriteFailed at here may = c.not_copied plex
walk P c s (CopyJob plex) AtCopy source left good failed event at here may = absurd may
walk P c s job AtCopy source left good failed event at here may = absurd at
walk P c s (CopyJob plex) AtUnmark source left good failed Unmarked at here may = c.copy_unmarked plex
walk P c s (CopyJob plex) AtUnmark source left good failed UnmarkFailed at here may = c.copy_not_unmarked plex
walk P c s (CopyJob plex) AtUnmark source left good failed event at here may = absurd may
walk P c s Clear AtUnmark source left good failed Unmarked at here may = c.cleared
walk P c s Clear AtUnmark source left good failed UnmarkFailed at here may = c.not_cleared
walk P c s Clear AtUnmark source left good failed event at here may = absurd may
walk P c s job AtUnmark source left good failed event at here may = absurd at
walk P c s ReadJob AtRead source left good failed Got at here may = c.read
walk P c s ReadJob AtRead source left good failed (ReadFailed k) at here may = c.not_read k
walk P c s ReadJob AtRead source left good failed event at here may = absurd may
walk P c s (CopyJob plex) AtRead source left good failed Got at here may = c.copy_read plex
walk P c s (CopyJob plex) AtRead source left good failed (ReadFailed k) at here may = c.copy_not_read plex k
walk P c s (CopyJob plex) AtRead source left good failed event at here may = absurd may
walk P c s job AtRead source left good failed event at here may = absurd at
