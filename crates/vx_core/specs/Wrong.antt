-- Answers that are wrong, whatever the table says: each would break what is kept.
use Rattle.std.specs.Prelude.{◌≡◌, ◌≢◌, ℕ, Bool, true, false}
use Rattle.vx_core.specs.declared.stage.Job.{Job}
use Rattle.vx_core.specs.declared.stage.Act.{Act}
use Rattle.vx_core.specs.declared.stage.Step.{Step}
use Rattle.vx_core.specs.declared.stage.Work.{Work}
use Rattle.vx_core.specs.declared.stage.Stage.{Stage}
use Rattle.vx_core.specs.declared.stage.Job.TheVariants.{Read as ReadJob, Write as WriteJob, Copy as CopyJob, Settle}
use Rattle.vx_core.specs.declared.stage.Event.TheVariants.{Begin, Marked, MarkFailed, WriteFailed, Got}
use Rattle.vx_core.specs.declared.stage.Act.TheVariants.{Done}
use Rattle.vx_core.specs.declared.stage.Step.TheVariants.{Mark as AtMark, Write as AtWrite, Find as AtFind, Equal as AtEqual, Unmark as AtUnmark, Read as AtRead}
use Rattle.vx_core.specs.declared.stage.Phase.TheVariants.{Settled, Unsettled, Busy}
use Rattle.vx_mask.specs.Mask.{has, only, union, without, lowest}
use Rattle.vx_core.specs.Table.{current, need, busy, ended, work, read_from}
use Rattle.vx_core.specs.Form.{IsFormed}
use Rattle.vx_core.specs.Kept.{IsKept, Keeps}
use Rattle.vx_core.specs.Region.{Around}
use Rattle.vx_core.specs.Soundness.{MayHold}

-- a job under way
abbrev pub job_at : Job → Step → (source left good failed : ℕ) → Work
job_at job step source left good failed = record { job = job; step = step; source = source; left = left; good = good; failed = failed }

-- a mark that a write to the region needs, and that the region lacks
pub record Lacks (s : Stage) (m : ℕ) : Type 0 where
  pub logged : s.logged ≡ true
  pub wanted : has (union (only 30) (union s.snaps s.off)) m ≡ true
  pub unmarked : has s.bits m ≡ false

-- a write goes to the plexes before its marks are on every copy
abbrev pub WritesBeforeTheMark : Type 0
WritesBeforeTheMark =
    (s : Stage) (held : ℕ → Bool) (m : ℕ) →
    s.phase ≡ Settled → IsFormed s Settled held → Lacks s m →
    Keeps s (Begin WriteJob) (busy s (work WriteJob AtWrite (current s))) → ⊥

-- the region waits for the marks of a write
abbrev pub IsMarking : Stage → (ℕ → Bool) → Type 0
IsMarking s held = (s.phase ≡ Busy (work WriteJob AtMark 0)) × IsFormed s (Busy (work WriteJob AtMark 0)) held

-- the stage with these marks, where the call is written
abbrev pub written_with : Stage → ℕ → Stage × Act
written_with s b = busy (record s { bits = union s.bits b }) (work WriteJob AtWrite (current (record s { bits = union s.bits b })))

-- a mark that failed is taken for one that is on every copy
abbrev pub TakesAFailedMark : Type 0
TakesAFailedMark = (s : Stage) (held : ℕ → Bool) (m : ℕ) → IsMarking s held → Lacks s m → Keeps s MarkFailed (written_with s (need s)) → ⊥

-- a write marks the region dirty, and forgets another mark that it needs
abbrev pub ForgetsAMark : Type 0
ForgetsAMark = (s : Stage) (held : ℕ → Bool) (m : ℕ) → IsMarking s held → Lacks s m → m ≢ 30 → Keeps s Marked (written_with s (only 30)) → ⊥

-- a copy has read its source, and takes the mark away before it has written the plex
abbrev pub UnmarksBeforeTheCopy : Type 0
UnmarksBeforeTheCopy =
    (s : Stage) (held : ℕ → Bool) (plex source : ℕ) →
    s.phase ≡ Busy (job_at (CopyJob plex) AtRead source 0 0 0) → IsFormed s (Busy (job_at (CopyJob plex) AtRead source 0 0 0)) held →
    Keeps s Got (busy (record s { bits = without s.bits (only plex) }) (job_at (CopyJob plex) AtUnmark source 0 0 0)) → ⊥

-- a read is offered a plex that is marked
abbrev pub ReadsAMarkedPlex : Type 0
ReadsAMarkedPlex =
    (s : Stage) (held : ℕ → Bool) (plex : ℕ) →
    s.phase ≡ Settled → IsFormed s Settled held → has s.on plex ≡ true → has s.bits plex ≡ true →
    Keeps s (Begin ReadJob) (busy s (work ReadJob AtRead s.on)) → ⊥

-- what a marked plex holds need not be among the candidates: a read of it may be illegal, and a settling from it may lose
-- an acknowledged write
abbrev pub AMarkedPlexMayLie : Type 0
AMarkedPlexMayLie =
    (s : Stage) (held : ℕ → Bool) (plex : ℕ) →
    IsFormed s Settled held → has s.bits plex ≡ true →
    ((a : Around) → a.fixed.held ≡ held → IsKept s Settled a → (i : ℕ) → MayHold a i (a.disks.blocks plex i)) → ⊥

-- a settling reads the lowest plex though it is marked
abbrev pub SettlesFromAMarkedPlex : Type 0
SettlesFromAMarkedPlex =
    (s : Stage) (held : ℕ → Bool) →
    s.phase ≡ Unsettled → IsFormed s Unsettled held → has s.bits (lowest s.on) ≡ true →
    Keeps s (Begin Settle) (busy s (read_from Settle AtFind s.on)) → ⊥

-- two plexes, and nothing marked but that the region is dirty
abbrev pub two_plexes : Work → Stage
two_plexes w = record { on = union (only 0) (only 1); off = 0; snaps = 0; bits = only 30; logged = true; phase = Busy w }

-- a write has reached plex 0 and misses plex 1, and is acknowledged with no mark for it
abbrev pub LeavesTheFailedPlexUnmarked : Type 0
LeavesTheFailedPlexUnmarked =
    Keeps (two_plexes (job_at WriteJob AtWrite 0 (only 1) (only 0) 0)) WriteFailed (ended (two_plexes (job_at WriteJob AtWrite 0 (only 1) (only 0) 0)) Settled Done) → ⊥

-- a settling has read plex 0 and fails to write plex 1, and takes the region for settled
abbrev pub SettlesThoughAWriteFailed : Type 0
SettlesThoughAWriteFailed =
    Keeps (two_plexes (job_at Settle AtEqual 0 (only 1) 0 0)) WriteFailed (ended (two_plexes (job_at Settle AtEqual 0 (only 1) 0 0)) Settled Done) → ⊥
