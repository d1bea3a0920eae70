-- How a job on a region runs, and what has become of the region so far.
use Rattle.std.specs.Prelude.{◌≡◌, ℕ, ◌+◌, ◌-◌, ◌<◌, ◌==◌, Bool, true, false, List, [], ◌∷◌, length, Option, Some, None, ◌⊎◌}
use Rattle.vx_base.specs.Blocks.{Contents, blocks_in, block_at}
use Rattle.vx_life.specs.Entry.{Entry}
use Rattle.vx_mask.specs.Mask.{has}
use Rattle.vx_core.specs.declared.stage.Job.{Job}
use Rattle.vx_core.specs.declared.stage.Event.{Event}
use Rattle.vx_core.specs.declared.stage.Act.{Act}
use Rattle.vx_core.specs.declared.stage.Phase.{Phase}
use Rattle.vx_core.specs.declared.stage.Step.{Step}
use Rattle.vx_core.specs.declared.stage.Stage.{Stage}
use Rattle.vx_core.specs.declared.stage.Job.TheVariants.{Read as ReadJob, Write as WriteJob, Copy as CopyJob, Settle, Clear}
use Rattle.vx_core.specs.declared.stage.Event.TheVariants.{Begin, MarkFailed, UnmarkFailed, WriteFailed, ReadFailed, Cut}
use Rattle.vx_core.specs.declared.stage.Act.TheVariants.{Mark, Unmark, WriteCall, WriteRegion, ReadCall, ReadRegion, Done, Fault, Lost}
use Rattle.vx_core.specs.declared.stage.Step.TheVariants.{Mark as AtMark, MarkFailed as AtMarkFailed, Unmark as AtUnmark}
use Rattle.vx_core.specs.declared.stage.Phase.TheVariants.{Settled, Unsettled, Dead, Busy}
use Rattle.vx_core.specs.Table.{current, act_at, next_of, IsNamed}
use Rattle.vx_core.specs.History.{Call, Pending, NoCall, Reads, Writes, MayBegin}
use Rattle.vx_core.specs.Region.{Fixed, MayAnswer, entries_after, pending_after}
use Rattle.vx_core.specs.Schedule.{Happening, Comes, Elsewhere}
use Rattle.vx_core.specs.Recovery.{region_after}
use Rattle.vx_core.specs.Follow.{SameMasks, Rewrites, EndsSettled, PossibleIn, settles}
use Rattle.vx_core.specs.Causes.{Faults, IsPlain, Blames}
use Rattle.vx_core_laws.specs.Course.{EachFits}
use Rattle.vx_core_laws.specs.Exact.{AreWell}
use Rattle.vx_cell.specs.declared.fault.Place.{Place}
use Rattle.vx_cell.specs.Plexes.{PlexSeen, holds, contents_of, PlexRose, WritesOnly}
use Rattle.vx_cell.specs.Acts.{Bytes, IsRange, HasRisen, FailsAt, FitsPlace}
use Rattle.vx_cell.specs.Region.{RegionSeen, IsWhole, IsTold, KeepsRegion, LogRose, SameLogFaults, IsCut, state_of}

-- ---- calls

-- whose call it is: the session, and the place of its line
pub record Caller : Type 0 where
  pub session : ℕ
  pub place : ℕ

-- the call of the region's last number on a range, which is counted from the region's first block
abbrev pub call_at : RegionSeen → Caller → (at count : ℕ) → Call
call_at r who at count =
    record {
      session = who.session;
      place = who.place;
      part = record { region = r.region; epoch = r.epoch; number = r.number };
      start = r.start + at;
      count = count;
    }

-- the bytes as blocks of the volume, from this one on
abbrev pub values_at : ℕ → List ℕ → Contents
values_at start bytes i = block_at bytes (i - start)

-- the call that a job with these bytes is
abbrev pub call_of : Job → Bytes → RegionSeen → Caller → Pending
call_of ReadJob io r who = Reads (call_at r who io.at (blocks_in io.into))
call_of WriteJob io r who = Writes (call_at r who io.at (blocks_in io.from)) (values_at (r.start + io.at) io.from)
call_of (CopyJob k) io r who = NoCall
call_of Settle io r who = NoCall
call_of Clear io r who = NoCall

-- the range of a call lies in the region
abbrev pub IsCallable : ℕ → Job → Bytes → Type 0
IsCallable size ReadJob io = IsRange size io.at (length io.into)
IsCallable size WriteJob io = IsRange size io.at (length io.from)
IsCallable size (CopyJob k) io = Unit {0}
IsCallable size Settle io = Unit {0}
IsCallable size Clear io = Unit {0}

-- ---- courses

-- the plex whose failure the event tells
abbrev pub plex_fails : Act → Event → ℕ → Bool
plex_fails (WriteCall k) WriteFailed j = k == j
plex_fails (WriteRegion k) WriteFailed j = k == j
plex_fails (ReadCall offered) (ReadFailed k) j = k == j
plex_fails (ReadRegion i) (ReadFailed k) j = k == j
plex_fails act event j = false

-- the event tells a failure of the log
abbrev pub log_fails : Act → Event → Bool
log_fails (Mark b) MarkFailed = true
log_fails (Unmark b) UnmarkFailed = true
log_fails act event = false

-- a failure that an event tells is one by which a count has risen, and a cut one by which a piece is cut
pub record IsBacked (act : Act) (event : Event) (old new : RegionSeen) : Type 0 where
  pub plexes : (k : ℕ) → plex_fails act event k ≡ true → PlexRose k old.plexes new.plexes
  pub log : log_fails act event ≡ true → LogRose old.log new.log
  pub cut : event ≡ Cut → IsCut new

-- the act that a stage waits for
abbrev pub act_of : Stage → Phase → Act
act_of s (Busy w) = act_at s w w.step
act_of s phase = Done

-- each of the happenings is an event, and its failures are backed
abbrev pub AreBacked : List Happening → Stage → RegionSeen → RegionSeen → Type 0
AreBacked [] s old new = Unit {0}
AreBacked (Comes event now call values ∷ hs) s old new = IsBacked (act_of s s.phase) event old new × AreBacked hs (next_of s event).0 old new
AreBacked (Elsewhere marks ∷ hs) s old new = ⊥

-- Whatever its history is that this allows, the region goes by this course of events from the one state to the other. The
-- first has this call under way, or none; the second that one, and its entries are as `more` says.
pub record GoesBy (allows : Fixed → List Entry → Type 0) (course : List Happening) (old : RegionSeen) (last : ℕ) (call : Pending) (new : RegionSeen) (call' : Pending) (more : List Entry → List Entry) : Type 0 where
  pub fits : (fixed : Fixed) (entries : List Entry) → allows fixed entries → EachFits course (state_of old fixed entries call last)
  pub ends : (fixed : Fixed) (entries : List Entry) → region_after course (state_of old fixed entries call last) ≡ state_of new fixed (more entries) call' new.number
  pub backed : AreBacked course old.stage old new

-- ---- the device calls

-- what a job has come to once its device calls were answered so, the first one first
abbrev pub answered_by : Stage × Act → List Event → Stage × Act
answered_by x [] = x
answered_by x (event ∷ events) = answered_by (next_of x.0 event) events

-- each of them may answer the act that was named then
abbrev pub AreAnswers : Stage × Act → List Event → Type 0
AreAnswers x [] = Unit {0}
AreAnswers x (event ∷ events) = MayAnswer x.1 event × AreAnswers (next_of x.0 event) events

-- the first of the calls that failed has failed at this place; or none has failed, and there is no place
abbrev pub FailsFirstAt : Stage × Act → List Event → Option Place → Type 0
FailsFirstAt x [] None = Unit {0}
FailsFirstAt x [] (Some place) = ⊥
FailsFirstAt x (event ∷ events) None = FitsPlace x.1 event None × FailsFirstAt (next_of x.0 event) events None
FailsFirstAt x (event ∷ events) (Some place) = FailsAt x.1 event place ⊎ (FitsPlace x.1 event None × FailsFirstAt (next_of x.0 event) events (Some place))

-- The job has come from the one stage to the other, where it waits for this act, or has ended with it: these answers of device
-- calls, each a call that the stage named then, brought it there. A job that stands before an act begins with it.
pub record HasCalled (old : Stage) (job : Job) (now : Stage) (act : Act) (first : Option Place) : Type 0 where
  pub events : List Event
  pub answers : AreAnswers (next_of old (Begin job)) events
  pub comes : answered_by (next_of old (Begin job)) events ≡ (now, act)
  pub first_is : FailsFirstAt (next_of old (Begin job)) events first

-- ---- how a job starts: it begins in an idle region, or goes on where it stands

-- the number that was drawn last before a job of this kind drew its own
abbrev pub last_before : Job → ℕ → ℕ
last_before ReadJob n = n - 1
last_before WriteJob n = n - 1
last_before (CopyJob k) n = n
last_before Settle n = n
last_before Clear n = n

abbrev pub start_last : Phase → Job → ℕ → ℕ
start_last (Busy w) job n = n
start_last phase job n = last_before job n

-- the call that is under way at the start
abbrev pub start_call : Phase → Pending → Pending
start_call (Busy w) call = call
start_call phase call = NoCall

-- a call begins only where it comes in order
abbrev pub Allows : Phase → ℕ → Pending → Fixed → List Entry → Type 0
Allows (Busy w) last call fixed entries = Unit {0}
Allows phase last call fixed entries = MayBegin fixed.region last entries call

-- the step waits for a mark or an unmark
abbrev pub IsMarking : Step → Type 0
IsMarking AtMark = Unit {0}
IsMarking AtMarkFailed = Unit {0}
IsMarking AtUnmark = Unit {0}
IsMarking step = ⊥

-- a job may begin, or is the one that stands before a mark
abbrev pub MayRun : Job → Phase → Type 0
MayRun job Settled = Unit {0}
MayRun job Unsettled = Unit {0}
MayRun job Dead = ⊥
MayRun job (Busy w) = (w.job ≡ job) × IsMarking w.step

-- the job begins in this phase
abbrev pub Begins : Phase → Type 0
Begins (Busy w) = ⊥
Begins phase = Unit {0}

-- ---- a job

-- the scratch holds the region of this plex, where the devices told what they held as the job began
abbrev pub HoldsRegion : RegionSeen → ℕ → List ℕ → List PlexSeen → ℕ → Type 0
HoldsRegion old size scratch ps k = IsTold old → (i : ℕ) → i < size → block_at scratch i ≡ contents_of ps k i

-- the job under way is this one, and where it rewrites plexes the scratch holds what they get; and it ends as it may
abbrev pub RunsIn : Job → RegionSeen → ℕ → List PlexSeen → List ℕ → Act → Phase → Type 0
RunsIn job old size ps scratch act (Busy w) = (w.job ≡ job) × (Rewrites w.step → HoldsRegion old size scratch ps w.source)
RunsIn job old size ps scratch act Settled = EndsSettled job act
RunsIn job old size ps scratch act Unsettled = act ≡ Fault
RunsIn job old size ps scratch act Dead = act ≡ Lost

-- a failure that is known is one by which a count rose
pub record AreShown (f : Faults) (old new : RegionSeen) : Type 0 where
  pub plexes : (k : ℕ) → f.plex k ≡ true → PlexRose k old.plexes new.plexes
  pub log : f.log ≡ true → LogRose old.log new.log

-- the same bytes, but for what reads have got
pub record SameBytes (old new : Bytes) : Type 0 where
  pub same_at : new.at ≡ old.at
  pub same_from : new.from ≡ old.from
  pub same_into : length new.into ≡ length old.into
  pub same_scratch : length new.scratch ≡ length old.scratch

-- the bytes are the blocks of a plex that is on and unmarked
abbrev pub GivesCurrent : RegionSeen → ℕ → List ℕ → Type 0
GivesCurrent r at into = (k : ℕ) × (has (current r.stage) k ≡ true) × ((i : ℕ) → i < blocks_in into → block_at into i ≡ contents_of r.plexes k (at + i))

-- after a failure there is a first place
abbrev pub HasBlame : Act → Option Place → Type 0
HasBlame Fault None = ⊥
HasBlame act first = Unit {0}

-- the plexes are being made equal, or wait for it
abbrev pub settles_in : Phase → Bool
settles_in (Busy w) = settles w.step
settles_in Unsettled = true
settles_in Settled = false
settles_in Dead = false

-- The plexes that a job may write: each one where it began in a region that was to be settled or is a write, and else the
-- target of a copy alone.
abbrev pub MayWrite : Job → Bool → ℕ → Type 0
MayWrite job true k = Unit {0}
MayWrite WriteJob false k = Unit {0}
MayWrite (CopyJob target) false k = k ≡ target
MayWrite ReadJob false k = ⊥
MayWrite Settle false k = ⊥
MayWrite Clear false k = ⊥

-- no job under way makes the plexes equal
abbrev pub IsQuiet : Phase → Type 0
IsQuiet (Busy w) = settles w.step ≡ false
IsQuiet phase = Unit {0}

-- The job has come from the one region to the other, where it waits for this act, or has ended with it.
pub record IsRunning (job : Job) (io : Bytes) (old now : RegionSeen) (first : Option Place) (act : Act) (io' : Bytes) : Type 0 where
  pub whole : IsWhole now
  pub kept : KeepsRegion old now
  pub number : now.number ≡ old.number
  pub masks : SameMasks old.stage now.stage
  pub named : IsNamed now.stage now.stage.phase act
  pub asks : PossibleIn now.stage (holds now.plexes) now.stage.phase act
  pub runs : RunsIn job old now.size now.plexes io'.scratch act now.stage.phase
  pub bytes : SameBytes io io'
  pub tells : IsTold old → IsTold now
  pub goes : IsTold old → (who : Caller) → (course : List Happening) ×
      GoesBy (Allows old.stage.phase (start_last old.stage.phase job old.number) (call_of job io old who)) course old (start_last old.stage.phase job old.number) (start_call old.stage.phase (call_of job io old who))
      now (pending_after act (call_of job io old who)) (entries_after act (call_of job io old who) (values_at (old.start + io'.at) io'.into))
  pub causes : IsPlain job → Begins old.stage.phase → (f : Faults) × AreShown f old now × Blames (now.stage, act) (current old.stage) f
  pub cut : act ≡ Lost → IsCut now
  pub quiet : settles_in old.stage.phase ≡ false → IsQuiet now.stage.phase
  pub writes : WritesOnly (MayWrite job (settles_in old.stage.phase)) old.plexes now.plexes
  pub calls : HasCalled old.stage job now.stage act first
  pub rose : HasRisen first old.plexes old.log now.plexes now.log
  pub well : (act ≡ Fault → ⊥) → (act ≡ Lost → ⊥) → SameLogFaults old.log now.log
  -- nor does its course tell a call on the log that failed
  pub courses : (act ≡ Fault → ⊥) → (act ≡ Lost → ⊥) → (told : IsTold old) (who : Caller) → AreWell (goes told who).0
  pub blames : HasBlame act first
  pub gives : act ≡ Done → job ≡ ReadJob → IsTold old → GivesCurrent now io'.at io'.into
