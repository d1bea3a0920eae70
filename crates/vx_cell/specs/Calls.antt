-- What the calls on a cell say.
use Rattle.std.specs.Prelude.{◌≡◌, ◌⊎◌, ◌&&◌, ℕ, ◌+◌, ◌-◌, ◌≤◌, Bool, true, false, if◌then◌else◌, List, Option, Some, None, Result, Ok, Err, IfOk, OnOk}
use Rattle.vx_base.specs.Blocks.{Contents}
use Rattle.vx_life.specs.Entry.{Entry}
use Rattle.vx_core.specs.declared.stage.Job.{Job}
use Rattle.vx_core.specs.declared.stage.Act.{Act}
use Rattle.vx_core.specs.declared.stage.Stage.{Stage}
use Rattle.vx_core.specs.declared.stage.Phase.{Phase}
use Rattle.vx_core.specs.declared.stage.Job.TheVariants.{Read as ReadJob, Write as WriteJob, Copy as CopyJob, Settle, Clear}
use Rattle.vx_core.specs.declared.stage.Act.TheVariants.{Done, Skipped, Fault as FaultAct, Lost}
use Rattle.vx_core.specs.declared.stage.Phase.TheVariants.{Settled, Unsettled, Dead, Busy}
use Rattle.vx_mask.specs.Mask.{has, without}
use Rattle.vx_core.specs.Table.{freed_by}
use Rattle.vx_core.specs.History.{Pending, NoCall}
use Rattle.vx_core.specs.Region.{Fixed, entries_after}
use Rattle.vx_core.specs.Schedule.{Happening, IsIdle}
use Rattle.vx_core.specs.Follow.{SameMasks}
use Rattle.vx_core.specs.Causes.{IsPlain}
use Rattle.vx_core_laws.specs.Exact.{AreWell}
use Rattle.vx_piece.specs.Seen.{Seen}
use Rattle.vx_marks.specs.Log.{LogSeen}
use Rattle.vx_cell.specs.declared.cell.Cell.{Cell}
use Rattle.vx_cell.specs.declared.fault.Place.{Place}
use Rattle.vx_cell.specs.declared.fault.CellFault.{CellFault}
use Rattle.vx_cell.specs.declared.fault.CellFault.TheVariants.{Fault, PowerLost, Held, Only}
use Rattle.vx_cell.specs.Plexes.{plexes_seen, WritesOnly}
use Rattle.vx_cell.specs.Acts.{Bytes, IsRange, PlaceRose}
use Rattle.vx_cell.specs.Region.{RegionSeen, IsWhole, IsTold, KeepsRegion, AllFailed, SameLogFaults, IsCut}
use Rattle.vx_cell.specs.Running.{Caller, call_of, values_at, GoesBy, start_last, start_call, Allows, IsMarking, Begins, IsCallable, settles_in, MayWrite, HasCalled, IsRunning}

-- the region of a cell, with the log that its calls are given
abbrev pub region_of : {P : Type 0} → (P → Seen) → Cell P → LogSeen → RegionSeen
region_of seen cell log =
    record {
      stage = cell.stage;
      region = cell.region;
      start = cell.span.start;
      size = cell.span.count;
      number = cell.number;
      epoch = cell.epoch;
      plexes = plexes_seen seen cell.plexes.items;
      log = log;
    }

-- what a run leaves of a cell
pub record KeepsCell {P : Type 0} (old new : Cell P) : Type 0 where
  pub region : new.region ≡ old.region
  pub span : new.span ≡ old.span
  pub number : new.number ≡ old.number
  pub epoch : new.epoch ≡ old.epoch

-- a job stands before a mark
abbrev pub Stands : Phase → Type 0
Stands (Busy w) = IsMarking w.step
Stands phase = ⊥

-- the job stands before a mark whose page was out, or has ended with its last act
abbrev pub HasRun : Job → Bytes → RegionSeen → RegionSeen → Option Act → Option Place → Bytes → Type 0
HasRun job io old new None first io' = (act : Act) × IsRunning job io old new first act io' × Stands new.stage.phase × (old.log.lent ≡ true)
HasRun job io old new (Some act) first io' = IsRunning job io old new first act io' × IsIdle new.stage.phase

-- ---- how a call ends

-- the answer to a call by the act that ended its job: these where it is done or had nothing to do
abbrev pub answer_of : {T : Type 0} → T → T → Option Act → Option Place → Result T CellFault
answer_of done skipped None first = Err Held
answer_of done skipped (Some Done) first = Ok done
answer_of done skipped (Some Skipped) first = Ok skipped
answer_of done skipped (Some Lost) first = Err PowerLost
answer_of done skipped (Some act) None = Err PowerLost
answer_of done skipped (Some act) (Some place) = Err (Fault place)

-- the entry that a call adds by its answer; a call that is held has not ended
abbrev pub entries_by : {T : Type 0} → Result T CellFault → Pending → Contents → List Entry → List Entry
entries_by (Ok n) call values entries = entries_after Done call values entries
entries_by (Err (Fault place)) call values entries = entries_after FaultAct call values entries
entries_by (Err PowerLost) call values entries = entries_after Lost call values entries
entries_by (Err Held) call values entries = entries
entries_by (Err (Only map)) call values entries = entries

-- the call that is under way afterwards
abbrev pub call_left : {T : Type 0} → Result T CellFault → Pending → Pending
call_left (Ok n) call = NoCall
call_left (Err (Fault place)) call = NoCall
call_left (Err PowerLost) call = NoCall
call_left (Err Held) call = call
call_left (Err (Only map)) call = call

-- How a job leaves the region, by the answer: it is settled once the call is done, stands before a mark where it is held, and
-- is dead once the power is gone.
abbrev pub LeavesPhase : {T : Type 0} → Result T CellFault → Phase → Type 0
LeavesPhase (Ok n) phase = phase ≡ Settled
LeavesPhase (Err (Fault place)) phase = (phase ≡ Settled) ⊎ (phase ≡ Unsettled)
LeavesPhase (Err PowerLost) phase = phase ≡ Dead
LeavesPhase (Err Held) phase = Stands phase
LeavesPhase (Err (Only map)) phase = ⊥

-- Why a call is answered so. A fault has a place whose count has risen; one of a read, a write or a settling that began here
-- comes only where a count of the log rose, or one of each plex that was current. Power is gone only where a piece is cut.
-- A call is held only where pages of the log may be out.
abbrev pub CallHasCause : {T : Type 0} → Job → RegionSeen → RegionSeen → Result T CellFault → Type 0
CallHasCause job old new (Ok n) = Unit {0}
CallHasCause job old new (Err (Fault place)) = PlaceRose place old.plexes old.log new.plexes new.log × (IsPlain job → Begins old.stage.phase → AllFailed old new)
CallHasCause job old new (Err PowerLost) = IsCut new
CallHasCause job old new (Err Held) = old.log.lent ≡ true
CallHasCause job old new (Err (Only map)) = ⊥

-- the act that a call's answer tells as the last of its job; a call that is held has not ended
abbrev pub TellsAct : {T : Type 0} → Result T CellFault → Act → Type 0
TellsAct (Ok n) act = (act ≡ Done) ⊎ (act ≡ Skipped)
TellsAct (Err (Fault place)) act = act ≡ FaultAct
TellsAct (Err PowerLost) act = act ≡ Lost
TellsAct (Err Held) act = Unit {0}
TellsAct (Err (Only map)) act = ⊥

-- a fault tells this place
abbrev pub TellsPlace : {T : Type 0} → Result T CellFault → Option Place → Type 0
TellsPlace (Err (Fault place)) first = first ≡ Some place
TellsPlace result first = Unit {0}

-- The call's answer is by the last act to which its device calls have brought the job; the place of a fault is that of the
-- first of them that failed.
pub record AnswersLast {T : Type 0} (job : Job) (old new : Stage) (result : Result T CellFault) : Type 0 where
  pub act : Act
  pub first : Option Place
  pub calls : HasCalled old job new act first
  pub last : TellsAct result act
  pub blames : TellsPlace result first

-- How a job's call ends. The contents are spoken of where the devices tell them: whatever the region's history is, the region
-- goes by a course of events, of which this call's entry is the outcome.
pub record HasEnded {T : Type 0} (job : Job) (io : Bytes) (old new : RegionSeen) (io' : Bytes) (result : Result T CellFault) : Type 0 where
  pub whole : IsWhole new
  pub kept : KeepsRegion old new
  pub number : new.number ≡ old.number
  pub masks : SameMasks old.stage new.stage
  pub tells : IsTold old → IsTold new
  pub goes : IsTold old → (who : Caller) → (course : List Happening) ×
      GoesBy (Allows old.stage.phase (start_last old.stage.phase job old.number) (call_of job io old who)) course old (start_last old.stage.phase job old.number) (start_call old.stage.phase (call_of job io old who))
      new (call_left result (call_of job io old who)) (entries_by result (call_of job io old who) (values_at (old.start + io'.at) io'.into))
  pub phase : LeavesPhase result new.stage.phase
  pub cause : CallHasCause job old new result
  -- where it is done no call on the log has failed, and the course tells none
  pub well : OnOk result (SameLogFaults old.log new.log)
  pub courses : OnOk result ((told : IsTold old) (who : Caller) → AreWell (goes told who).0)
  pub calls : AnswersLast job old.stage new.stage result
  -- the counts of writes rise on these plexes alone
  pub writes : WritesOnly (MayWrite job (settles_in old.stage.phase)) old.plexes new.plexes

-- ---- what a copy and a clear leave of the marks

-- whether the job has a mark to take away: a copy that of its plex, where that is on, and a clear the dirty bit
abbrev pub takes : Job → ℕ → ℕ → Bool
takes (CopyJob k) on marks = has on k && has marks k
takes Clear on marks = has marks 30
takes ReadJob on marks = false
takes WriteJob on marks = false
takes Settle on marks = false

-- the marks of the region once it was settled: those that it had, and where it was not settled also those of plexes that the
-- settling missed
pub record HasMarks (old : Stage) (marks : ℕ) : Type 0 where
  pub settled : old.phase ≡ Settled → marks ≡ old.bits
  pub more : (j : ℕ) → has old.bits j ≡ true → has marks j ≡ true

-- the job found a mark to take away, and has taken it and no other; or it found none
pub record LeavesMarks (job : Job) (old new : Stage) (found : Bool) : Type 0 where
  pub marks : ℕ
  pub were : HasMarks old marks
  pub is_found : takes job new.on marks ≡ found
  pub left : new.bits ≡ (if found then without marks (freed_by job) else marks)

-- a copy tells whether its plex was on and, once the region was settled, marked
abbrev pub CopyLeaves : ℕ → Stage → Stage → Result Bool CellFault → Type 0
CopyLeaves k old new (Ok copied) = LeavesMarks (CopyJob k) old new copied
CopyLeaves k old new (Err fault) = Unit {0}

-- after a clear the region is not dirty
abbrev pub ClearLeaves : Stage → Stage → Result (Unit {0}) CellFault → Type 0
ClearLeaves old new (Ok u) = (found : Bool) × LeavesMarks Clear old new found × (has new.bits 30 ≡ false)
ClearLeaves old new (Err fault) = Unit {0}

-- the region once a call of this job has drawn its number
abbrev pub numbered : Job → RegionSeen → RegionSeen
numbered ReadJob r = record r { number = r.number + 1 }
numbered WriteJob r = record r { number = r.number + 1 }
numbered (CopyJob k) r = r
numbered Settle r = r
numbered Clear r = r

-- a call on a dead cell is not begun
pub record IsNotBegun {T : Type 0} (old new : RegionSeen) (result : Result T CellFault) : Type 0 where
  pub answer : result ≡ Err PowerLost
  pub same : new ≡ old

-- a call on a cell that is not under way: on a dead one it is not begun, else it ends as its job does
pub record CallEnds {T : Type 0} (job : Job) (io : Bytes) (old new : RegionSeen) (io' : Bytes) (result : Result T CellFault) : Type 0 where
  pub dead : old.stage.phase ≡ Dead → IsNotBegun old new result
  pub ended : (old.stage.phase ≡ Dead → ⊥) → HasEnded job io (numbered job old) new io' result

-- whole blocks of the volume, at least one, inside the span
pub record IsInSpan (start size at bytes : ℕ) : Type 0 where
  pub from : start ≤ at
  pub range : IsRange size (at - start) bytes

-- ---- a call that goes on

-- the bytes are those of the call that stands in the stage
abbrev pub IsResumable : ℕ → Phase → Bytes → Type 0
IsResumable size (Busy w) io = IsCallable size w.job io
IsResumable size phase io = ⊥

-- the answer to a job: its number, or 1 and 0 for a copy that copied or had nothing to copy, or 0
abbrev pub IsAnswerTo : Job → ℕ → ℕ → Type 0
IsAnswerTo ReadJob number n = n ≡ number
IsAnswerTo WriteJob number n = n ≡ number
IsAnswerTo (CopyJob k) number n = (n ≡ 1) ⊎ (n ≡ 0)
IsAnswerTo Settle number n = n ≡ 0
IsAnswerTo Clear number n = n ≡ 0

-- the call ends as the job that stands in the stage
abbrev pub ResumeEnds : Phase → Bytes → RegionSeen → RegionSeen → Bytes → Result ℕ CellFault → Type 0
ResumeEnds (Busy w) io old new io' result = HasEnded w.job io old new io' result × IfOk result (λ n. IsAnswerTo w.job new.number n)
ResumeEnds phase io old new io' result = Unit {0}

-- what a job answers where it is done, and where it had nothing to do
abbrev pub done_of : Job → ℕ → ℕ
done_of ReadJob number = number
done_of WriteJob number = number
done_of (CopyJob k) number = 1
done_of Settle number = 0
done_of Clear number = 0

abbrev pub skipped_of : Job → ℕ → ℕ
skipped_of ReadJob number = number
skipped_of WriteJob number = number
skipped_of (CopyJob k) number = 0
skipped_of Settle number = 0
skipped_of Clear number = 0

-- ---- a write, and a clear after it

-- Why a write that clears the region is answered so: as a write; and power may be gone in the clear.
abbrev pub WriteGoes : Result ℕ CellFault → (allows : Fixed → List Entry → Type 0) → List Happening → RegionSeen → ℕ → Pending → RegionSeen → Pending → Contents → Type 0
WriteGoes (Err PowerLost) allows course old last before new call values =
    GoesBy allows course old last before new NoCall (entries_after Lost call values) ⊎ GoesBy allows course old last before new NoCall (entries_after Done call values)
WriteGoes result allows course old last before new call values = GoesBy allows course old last before new NoCall (entries_by result call values)

-- how it leaves the region: a clear that failed leaves it idle
abbrev pub WriteLeaves : Result ℕ CellFault → Phase → Type 0
WriteLeaves (Ok n) phase = (phase ≡ Settled) ⊎ (phase ≡ Unsettled)
WriteLeaves result phase = LeavesPhase result phase

abbrev pub fault_of : Place → Result ℕ CellFault
fault_of place = Err (Fault place)

-- a fault of it is one of the write, before the clear
abbrev pub WriteCalls : Result ℕ CellFault → Stage → Stage → Type 0
WriteCalls (Err (Fault place)) old new = AnswersLast WriteJob old new (fault_of place)
WriteCalls result old new = Unit {0}

-- How a write ends that clears the region once it is done. Where the power goes in the clear, the write was done and is told
-- as torn all the same: what it stands for as done it stands for as torn.
pub record HasWritten (io : Bytes) (old new : RegionSeen) (io' : Bytes) (result : Result ℕ CellFault) : Type 0 where
  pub whole : IsWhole new
  pub kept : KeepsRegion old new
  pub number : new.number ≡ old.number
  pub masks : SameMasks old.stage new.stage
  pub tells : IsTold old → IsTold new
  pub goes : IsTold old → (who : Caller) → (course : List Happening) ×
      WriteGoes result (Allows old.stage.phase (start_last old.stage.phase WriteJob old.number) (call_of WriteJob io old who)) course old (start_last old.stage.phase WriteJob old.number)
      (start_call old.stage.phase (call_of WriteJob io old who)) new (call_of WriteJob io old who) (values_at (old.start + io'.at) io'.into)
  pub phase : WriteLeaves result new.stage.phase
  pub cause : CallHasCause WriteJob old new result
  pub calls : WriteCalls result old.stage new.stage

-- a write on a cell that is not under way
pub record WriteEnds (io : Bytes) (old new : RegionSeen) (io' : Bytes) (result : Result ℕ CellFault) : Type 0 where
  pub dead : old.stage.phase ≡ Dead → IsNotBegun old new result
  pub ended : (old.stage.phase ≡ Dead → ⊥) → HasWritten io (numbered WriteJob old) new io' result

-- what a write answers after its clear
abbrev pub answer_after : {T : Type 0} → ℕ → Result T CellFault → Result ℕ CellFault
answer_after number (Err PowerLost) = Err PowerLost
answer_after number cleared = Ok number

-- a clear has ended in some way, and this is the answer after it
pub record HasCleared (number : ℕ) (old new : RegionSeen) (result : Result ℕ CellFault) : Type 0 where
  pub io : Bytes
  pub io' : Bytes
  pub cleared : Result (Unit {0}) CellFault
  pub ended : HasEnded Clear io old new io' cleared
  pub answer : result ≡ answer_after number cleared
