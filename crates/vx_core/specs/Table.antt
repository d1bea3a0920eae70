-- What a region does next: the table of its rules.
use Rattle.std.specs.Prelude.{◌≡◌, ℕ, ◌==◌, ◌&&◌, if◌then◌else◌}
use Rattle.vx_core.specs.declared.stage.Job.{Job}
use Rattle.vx_core.specs.declared.stage.Event.{Event}
use Rattle.vx_core.specs.declared.stage.Act.{Act}
use Rattle.vx_core.specs.declared.stage.Step.{Step}
use Rattle.vx_core.specs.declared.stage.Work.{Work}
use Rattle.vx_core.specs.declared.stage.Phase.{Phase}
use Rattle.vx_core.specs.declared.stage.Stage.{Stage}
use Rattle.vx_core.specs.declared.stage.Job.TheVariants.{Read as ReadJob, Write as WriteJob, Copy as CopyJob, Settle, Clear}
use Rattle.vx_core.specs.declared.stage.Event.TheVariants.{Begin, Marked, MarkFailed, Unmarked, UnmarkFailed, Wrote, WriteFailed, Got, ReadFailed, Cut}
use Rattle.vx_core.specs.declared.stage.Act.TheVariants.{Mark, Unmark, WriteCall, WriteRegion, ReadCall, ReadRegion, Done, Skipped, Fault, Lost}
use Rattle.vx_core.specs.declared.stage.Step.TheVariants.{Mark as AtMark, Write as AtWrite, MarkFailed as AtMarkFailed, Find as AtFind, Equal as AtEqual, Copy as AtCopy, Unmark as AtUnmark, Read as AtRead}
use Rattle.vx_core.specs.declared.stage.Phase.TheVariants.{Settled, Unsettled, Dead, Busy}
use Rattle.vx_mask.specs.Mask.{has, only, union, without, lowest, above_lowest}

-- the plexes that are on and unmarked
abbrev pub current : Stage → ℕ
current s = without s.on s.bits

-- the marks that a write lacks: the dirty bit, and the maps of the snapshots and of the plexes that are off
abbrev pub need : Stage → ℕ
need s = if s.logged then without (union (only 30) (union s.snaps s.off)) s.bits else 0

-- the mark that the job takes away
abbrev pub freed_by : Job → ℕ
freed_by (CopyJob k) = only k
freed_by Clear = only 30
freed_by ReadJob = 0
freed_by WriteJob = 0
freed_by Settle = 0

-- the plex that the job copies to
abbrev pub target_of : Job → ℕ
target_of (CopyJob k) = k
target_of Clear = 0
target_of ReadJob = 0
target_of WriteJob = 0
target_of Settle = 0

-- the reading of a settled region: for a copy the whole region of one plex, else the call
abbrev pub read_act : Work → Job → Act
read_act w (CopyJob k) = ReadRegion w.source
read_act w Clear = ReadCall w.left
read_act w ReadJob = ReadCall w.left
read_act w WriteJob = ReadCall w.left
read_act w Settle = ReadCall w.left

-- the act that a step waits for
abbrev pub act_at : Stage → Work → Step → Act
act_at s w AtMark = Mark (need s)
act_at s w AtWrite = WriteCall (lowest w.left)
act_at s w AtMarkFailed = Mark w.failed
act_at s w AtFind = ReadRegion w.source
act_at s w AtEqual = WriteRegion (lowest w.left)
act_at s w AtCopy = WriteRegion (target_of w.job)
act_at s w AtUnmark = Unmark (freed_by w.job)
act_at s w AtRead = read_act w w.job

-- the job ends in this phase
abbrev pub ended : Stage → Phase → Act → Stage × Act
ended s phase act = (record s { phase = phase }, act)

-- the job goes on with this work
abbrev pub busy : Stage → Work → Stage × Act
busy s w = (record s { phase = Busy w }, act_at s w w.step)

-- a job at this step, with these plexes to ask
abbrev pub work : Job → Step → ℕ → Work
work job step left = record { job = job; step = step; source = 0; left = left; good = 0; failed = 0 }

-- the call is written to each current plex
abbrev pub write : Stage → Stage × Act
write s = if current s == 0 then ended s Settled Fault else busy s (work WriteJob AtWrite (current s))

-- the region is read from the lowest of these plexes
abbrev pub read_from : Job → Step → ℕ → Work
read_from job step left = record { job = job; step = step; source = lowest left; left = above_lowest left; good = 0; failed = 0 }

abbrev pub copy : Stage → Job → ℕ → Stage × Act
copy s job left = if left == 0 then ended s Settled Fault else busy s (read_from job AtRead left)

abbrev pub settle : Stage → Job → ℕ → Stage × Act
settle s job left = if left == 0 then ended s Unsettled Fault else busy s (read_from job AtFind left)

-- a job in a settled region
abbrev pub start : Stage → Job → Stage × Act
start s WriteJob = if need s == 0 then write s else busy s (work WriteJob AtMark 0)
start s ReadJob = if current s == 0 then ended s Settled Fault else busy s (work ReadJob AtRead (current s))
start s (CopyJob k) = if has s.on k && has s.bits k then copy s (CopyJob k) (current s) else ended s Settled Skipped
start s Settle = ended s Settled Done
start s Clear =
    if has s.bits 30
    then busy (record s { bits = without s.bits (only 30) }) (work Clear AtUnmark 0)
    else ended s Settled Skipped

-- after the write calls
abbrev pub written : Stage → Work → Stage × Act
written s w =
    if w.failed == 0 then ended s Settled Done
    else (if w.good == 0
    then ended s (if above_lowest w.failed == 0 then Settled else Unsettled) Fault
    else busy s (record w { step = AtMarkFailed }))

abbrev pub wrote : Stage → Work → Stage × Act
wrote s w = if w.left == 0 then written s w else busy s w

-- the other current plexes are made equal to the source
abbrev pub level : Stage → Work → Stage × Act
level s w =
    if w.left == 0
    then (if w.failed == 0 then start (record s { phase = Settled }) w.job else busy s (record w { step = AtMarkFailed }))
    else busy s w

-- the failed plexes are marked. A write has reached some plexes, and a settling none
abbrev pub marked_failed : Stage → Work → Stage × Act
marked_failed s w = if w.good == 0 then start (record s { phase = Settled }) w.job else ended s Settled Done

abbrev pub got : Stage → Work → Job → Stage × Act
got s w (CopyJob k) = busy s (record w { step = AtCopy })
got s w Clear = ended s Settled Done
got s w ReadJob = ended s Settled Done
got s w WriteJob = ended s Settled Done
got s w Settle = ended s Settled Done

abbrev pub offered : Stage → Work → ℕ → Stage × Act
offered s w left = if left == 0 then ended s Settled Fault else busy s (record w { left = left })

abbrev pub read_failed : Stage → Work → Job → ℕ → Stage × Act
read_failed s w (CopyJob k) plex = copy s w.job w.left
read_failed s w Clear plex = offered s w (without w.left (only plex))
read_failed s w ReadJob plex = offered s w (without w.left (only plex))
read_failed s w WriteJob plex = offered s w (without w.left (only plex))
read_failed s w Settle plex = offered s w (without w.left (only plex))

-- the last act was answered. An event that does not fit changes nothing, and the act is named again
abbrev pub answered : Stage → Work → Step → Event → Stage × Act
answered s w AtMark Marked = write (record s { bits = union s.bits (need s) })
answered s w AtMark MarkFailed = ended s Settled Fault
answered s w AtWrite Wrote = wrote s (record w { left = above_lowest w.left; good = union w.good (only (lowest w.left)) })
answered s w AtWrite WriteFailed = wrote s (record w { left = above_lowest w.left; failed = union w.failed (only (lowest w.left)) })
answered s w AtMarkFailed Marked = marked_failed (record s { bits = union s.bits w.failed }) w
answered s w AtMarkFailed MarkFailed = ended s Unsettled Fault
answered s w AtFind Got = level s (record w { step = AtEqual; left = without (current s) (only w.source) })
answered s w AtFind (ReadFailed plex) = settle s w.job w.left
answered s w AtEqual Wrote = level s (record w { left = above_lowest w.left })
answered s w AtEqual WriteFailed = level s (record w { left = above_lowest w.left; failed = union w.failed (only (lowest w.left)) })
answered s w AtCopy Wrote = busy (record s { bits = without s.bits (freed_by w.job) }) (record w { step = AtUnmark })
answered s w AtCopy WriteFailed = ended s Settled Fault
answered s w AtUnmark Unmarked = ended s Settled Done
answered s w AtUnmark UnmarkFailed = ended s Settled Fault
answered s w AtRead Got = got s w w.job
answered s w AtRead (ReadFailed plex) = read_failed s w w.job plex
answered s w _ _ = busy s w

abbrev pub begun : Stage → Phase → Job → Stage × Act
begun s Settled job = start s job
begun s Unsettled job = settle s job (current s)
begun s Dead job = ended s Dead Lost
begun s (Busy w) job = answered s w w.step (Begin job)

abbrev pub goes_on : Stage → Phase → Event → Stage × Act
goes_on s (Busy w) event = answered s w w.step event
goes_on s Dead event = ended s Dead Lost
goes_on s Settled event = ended s Settled Fault
goes_on s Unsettled event = ended s Unsettled Fault

-- what a region does next
abbrev pub next_of : Stage → Event → Stage × Act
next_of s Cut = ended s Dead Lost
next_of s (Begin job) = begun s s.phase job
next_of s Marked = goes_on s s.phase Marked
next_of s MarkFailed = goes_on s s.phase MarkFailed
next_of s Unmarked = goes_on s s.phase Unmarked
next_of s UnmarkFailed = goes_on s s.phase UnmarkFailed
next_of s Wrote = goes_on s s.phase Wrote
next_of s WriteFailed = goes_on s s.phase WriteFailed
next_of s Got = goes_on s s.phase Got
next_of s (ReadFailed plex) = goes_on s s.phase (ReadFailed plex)

-- the act is the one that a job under way waits for
abbrev pub IsNamed : Stage → Phase → Act → Type 0
IsNamed s (Busy w) act = act ≡ act_at s w w.step
IsNamed s Settled act = Unit {0}
IsNamed s Unsettled act = Unit {0}
IsNamed s Dead act = Unit {0}

abbrev pub NamesAct : Stage × Act → Type 0
NamesAct x = IsNamed x.0 x.0.phase x.1
