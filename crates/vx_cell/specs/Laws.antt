-- What calls on cells mean for the histories that regions stand for.
use Rattle.std.specs.Prelude.{◌≢◌, ℕ, ◌+◌, List, Result}
use Rattle.vx_life.specs.Entry.{Entry}
use Rattle.vx_core.specs.declared.stage.Job.{Job}
use Rattle.vx_core.specs.declared.stage.Event.TheVariants.{Cut}
use Rattle.vx_core.specs.Table.{next_of}
use Rattle.vx_core.specs.Schedule.{IsIdle}
use Rattle.vx_core.specs.History.{Pending, NoCall}
use Rattle.vx_core.specs.Region.{Fixed}
use Rattle.vx_core_laws.specs.Course.{IsKeptState}
use Rattle.vx_marks.specs.Log.{LogSeen, OnMarks}
use Rattle.vx_cell.specs.declared.fault.CellFault.{CellFault}
use Rattle.vx_cell.specs.Acts.{Bytes}
use Rattle.vx_cell.specs.Region.{RegionSeen, IsTold, Tells, TidiesOthers, StandsFor, state_of}
use Rattle.vx_cell.specs.Running.{Caller, call_of, values_at, start_last, start_call, Allows}
use Rattle.vx_cell.specs.Calls.{HasEnded, entries_by, call_left}

-- Each history that the region stood for, with what the call adds to it, it stands for.
abbrev pub EachCallStands : Type 0 → Type 0
EachCallStands T =
    (job : Job) (io io' : Bytes) (old new : RegionSeen) (result : Result T CellFault) → HasEnded job io old new io' result → IsTold old →
    (who : Caller) (fixed : Fixed) (entries : List Entry) →
    Allows old.stage.phase (start_last old.stage.phase job old.number) (call_of job io old who) fixed entries →
    IsKeptState (state_of old fixed entries (start_call old.stage.phase (call_of job io old who)) (start_last old.stage.phase job old.number)) →
    StandsFor new fixed (entries_by result (call_of job io old who) (values_at (old.start + io'.at) io'.into) entries) (call_left result (call_of job io old who))

-- A call on one region leaves every other region of the log as it was: what it stood for it stands for.
abbrev pub EachOtherStands : Type 0
EachOtherStands =
    (region : ℕ) (other : RegionSeen) (log : LogSeen) (fixed : Fixed) (entries : List Entry) (call : Pending) →
    other.region ≢ region → Tells other.log.told → OnMarks (TidiesOthers region) other.log.told log.told →
    StandsFor other fixed entries call → StandsFor (record other { log = log }) fixed entries call

-- Each history that an idle region stood for, it stands for once its cell is killed.
abbrev pub EachKillStands : Type 0
EachKillStands =
    (r : RegionSeen) (fixed : Fixed) (entries : List Entry) → IsIdle r.stage.phase → StandsFor r fixed entries NoCall → StandsFor (record r { stage = (next_of r.stage Cut).0 }) fixed entries NoCall
