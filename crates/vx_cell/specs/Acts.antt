-- What one device call is, and what it does to the plexes and the log.
use Rattle.std.specs.Prelude.{◌≡◌, ◌≢◌, ℕ, ◌+◌, ◌/◌, ◌%◌, ◌≤◌, ◌<◌, IsTrue, true, List, Option, Some, None, Result, Ok, Err}
use Rattle.vx_base.specs.Counts.{Rose}
use Rattle.vx_mask.specs.Mask.{has}
use Rattle.vx_mask.specs.Marks.{Marks, AllGain, AllLose, MayGain, MayLose}
use Rattle.vx_core.specs.declared.stage.Event.{Event}
use Rattle.vx_core.specs.declared.stage.Act.{Act}
use Rattle.vx_core.specs.declared.stage.Event.TheVariants.{Marked, MarkFailed, Unmarked, UnmarkFailed, Wrote, WriteFailed, Got, ReadFailed, Cut}
use Rattle.vx_core.specs.declared.stage.Act.TheVariants.{Mark, Unmark, WriteCall, WriteRegion, ReadCall, ReadRegion, Done, Skipped, Fault, Lost}
use Rattle.vx_core.specs.Region.{MayAnswer}
use Rattle.vx_core.specs.Follow.{IsFailure}
use Rattle.vx_marks.specs.Log.{LogSeen, KeepsLog, OnMarks, ChangesAt, IsAskable as IsMarkable}
use Rattle.vx_runs.specs.Run.{IsRunWritten, IsRunRead}
use Rattle.vx_runs.specs.declared.run.RunFault.{RunFault}
use Rattle.vx_runs.specs.declared.run.RunFault.TheVariants.{Failed, PowerLost}
use Rattle.vx_cell.specs.declared.fault.Place.{Place}
use Rattle.vx_cell.specs.declared.fault.Place.TheVariants.{Data, Log}
use Rattle.vx_cell.specs.declared.acts.Answered.{Answered}
use Rattle.vx_cell.specs.Plexes.{PlexSeen, ChangesPlex, holds, RoseAt}
use Rattle.vx_cell.specs.Region.{LogRose, SameLogFaults}

-- whole blocks, at least one, inside the region
pub record IsRange (size at bytes : ℕ) : Type 0 where
  pub some : 0 < bytes
  pub whole : bytes % 512 ≡ 0
  pub inside : at + bytes / 512 ≤ size

-- the plex is written, ..
pub record IsPlexWritten (at : ℕ) (bytes : List ℕ) (result : Result (Unit {0}) RunFault) (old new : PlexSeen) : Type 0 where
  pub map : new.map ≡ old.map
  pub run : IsRunWritten at bytes old.pieces new.pieces result

-- .. or read
pub record IsPlexRead (at : ℕ) (into : List ℕ) (result : Result (Unit {0}) RunFault) (old new : PlexSeen) : Type 0 where
  pub map : new.map ≡ old.map
  pub run : IsRunRead at into old.pieces new.pieces result

-- ---- the answers of devices as events

abbrev pub write_event : {T : Type 0} → Result T RunFault → Event
write_event (Ok u) = Wrote
write_event (Err (Failed piece device)) = WriteFailed
write_event (Err PowerLost) = Cut

abbrev pub read_event : {T : Type 0} → ℕ → Result T RunFault → Event
read_event k (Ok u) = Got
read_event k (Err (Failed piece device)) = ReadFailed k
read_event k (Err PowerLost) = Cut

-- the count at the place has risen
abbrev pub PlaceRose : Place → List PlexSeen → LogSeen → List PlexSeen → LogSeen → Type 0
PlaceRose (Data map piece device) ps log qs log' = RoseAt map piece device ps qs
PlaceRose (Log copy device) ps log qs log' = Rose (log.faults copy device) (log'.faults copy device)

-- where there is a place, its count has risen
abbrev pub HasRisen : Option Place → List PlexSeen → LogSeen → List PlexSeen → LogSeen → Type 0
HasRisen None ps log qs log' = Unit {0}
HasRisen (Some place) ps log qs log' = PlaceRose place ps log qs log'

-- the call that carries out this act fails so at this place
abbrev pub FailsAt : Act → Event → Place → Type 0
FailsAt (WriteCall k) WriteFailed (Data map piece device) = map ≡ k
FailsAt (WriteRegion k) WriteFailed (Data map piece device) = map ≡ k
FailsAt (ReadCall offered) (ReadFailed k) (Data map piece device) = map ≡ k
FailsAt (ReadRegion k) (ReadFailed j) (Data map piece device) = map ≡ j
FailsAt (Mark b) MarkFailed (Log copy device) = Unit {0}
FailsAt (Unmark b) UnmarkFailed (Log copy device) = Unit {0}
FailsAt _ _ _ = ⊥

-- a call has a place exactly where it fails
abbrev pub FitsPlace : Act → Event → Option Place → Type 0
FitsPlace act event None = IsFailure event → ⊥
FitsPlace act event (Some place) = FailsAt act event place

-- the place is that of the call's failure, and the count there has risen
abbrev pub IsPlaced : Act → Option Answered → List PlexSeen → LogSeen → List PlexSeen → LogSeen → Type 0
IsPlaced act None ps log qs log' = Unit {0}
IsPlaced act (Some answer) ps log qs log' = HasRisen answer.place ps log qs log' × FitsPlace act answer.event answer.place

-- the earlier of two places
abbrev pub earlier : Option Place → Option Place → Option Place
earlier None then = then
earlier (Some first) then = Some first

-- the place of a run's answer in the plex
abbrev pub run_place : {T : Type 0} → ℕ → Result T RunFault → Option Place
run_place map (Ok u) = None
run_place map (Err (Failed piece device)) = Some (Data map piece device)
run_place map (Err PowerLost) = None

-- the answer names the piece of the plex that failed, if one has
abbrev pub HasPlace : {T : Type 0} → ℕ → Result T RunFault → Option Answered → Type 0
HasPlace map result None = Unit {0}
HasPlace map result (Some answer) = answer.place ≡ run_place map result

pub record IsWriteOf (k at : ℕ) (bytes : List ℕ) (answer : Option Event) (ps qs : List PlexSeen) : Type 0 where
  pub result : Result (Unit {0}) RunFault
  pub answers : answer ≡ Some (write_event result)
  pub changes : ChangesPlex k (IsPlexWritten at bytes result) ps qs

pub record IsReadOf (k at : ℕ) (into : List ℕ) (answer : Option Event) (ps qs : List PlexSeen) : Type 0 where
  pub result : Result (Unit {0}) RunFault
  pub answers : answer ≡ Some (read_event k result)
  pub changes : ChangesPlex k (IsPlexRead at into result) ps qs

-- the marks of the region, by the answer of a mark; no answer is that of a page that was out
abbrev pub MarksBy : ℕ → Option Event → Marks → Marks → Type 0
MarksBy b (Some Marked) old now = AllGain b old now
MarksBy b (Some MarkFailed) old now = MayGain b old now
MarksBy b (Some Cut) old now = MayGain b old now
MarksBy b None old now = now ≡ old
MarksBy b _ old now = ⊥

-- .. and by that of an unmark
abbrev pub UnmarksBy : ℕ → Option Event → Marks → Marks → Type 0
UnmarksBy b (Some Unmarked) old now = AllLose b old now
UnmarksBy b (Some UnmarkFailed) old now = MayLose b old now
UnmarksBy b (Some Cut) old now = MayLose b old now
UnmarksBy b None old now = now ≡ old
UnmarksBy b _ old now = ⊥

-- why the log answers so
abbrev pub LogCause : Option Event → LogSeen → LogSeen → Type 0
LogCause (Some Marked) old new = SameLogFaults old new
LogCause (Some MarkFailed) old new = LogRose old new
LogCause (Some Unmarked) old new = SameLogFaults old new
LogCause (Some UnmarkFailed) old new = LogRose old new
LogCause (Some Cut) old new = IsTrue new.cut
LogCause None old new = (new ≡ old) × (old.lent ≡ true)
LogCause _ old new = Unit {0}

-- the answer of an act, where there is one, is one that it may have
abbrev pub MayBe : Act → Option Event → Type 0
MayBe act None = Unit {0}
MayBe act (Some event) = MayAnswer act event

pub record IsMarkOf (region : ℕ) (act : Act) (by : Option Event → Marks → Marks → Type 0) (answer : Option Event) (old new : LogSeen) : Type 0 where
  pub kept : KeepsLog old new
  pub fits : MayBe act answer
  pub told : OnMarks (ChangesAt region (by answer)) old.told new.told
  pub cause : LogCause answer old new

-- what an act needs of the plexes, the log and the buffers
abbrev pub IsAskable : ℕ → ℕ → ℕ → ℕ → ℕ → List PlexSeen → LogSeen → Act → Type 0
IsAskable region size at into from ps log (Mark b) = (log.there ≡ true) × IsMarkable log region b
IsAskable region size at into from ps log (Unmark b) = (log.there ≡ true) × IsMarkable log region b
IsAskable region size at into from ps log (WriteCall k) = (holds ps k ≡ true) × IsRange size at from
IsAskable region size at into from ps log (WriteRegion k) = holds ps k ≡ true
IsAskable region size at into from ps log (ReadCall offered) = (offered ≢ 0) × ((k : ℕ) → has offered k ≡ true → holds ps k ≡ true) × IsRange size at into
IsAskable region size at into from ps log (ReadRegion k) = holds ps k ≡ true
IsAskable region size at into from ps log Done = ⊥
IsAskable region size at into from ps log Skipped = ⊥
IsAskable region size at into from ps log Fault = ⊥
IsAskable region size at into from ps log Lost = ⊥

-- the bytes of a call: where it starts in the region, what a read has got, what a write gives, and the region's buffer
pub record Bytes : Type 0 where
  pub at : ℕ
  pub into : List ℕ
  pub from : List ℕ
  pub scratch : List ℕ

-- The device call is the act, with this answer. What it does not change stays.
abbrev pub Carries : ℕ → Act → Option Event → Bytes → List PlexSeen → LogSeen → Bytes → List PlexSeen → LogSeen → Type 0
Carries region (Mark b) answer io ps log io' qs log' = IsMarkOf region (Mark b) (MarksBy b) answer log log' × (qs ≡ ps) × (io' ≡ io)
Carries region (Unmark b) answer io ps log io' qs log' = IsMarkOf region (Unmark b) (UnmarksBy b) answer log log' × (qs ≡ ps) × (io' ≡ io)
Carries region (WriteCall k) answer io ps log io' qs log' = IsWriteOf k io.at io.from answer ps qs × (log' ≡ log) × (io' ≡ io)
Carries region (WriteRegion k) answer io ps log io' qs log' = IsWriteOf k 0 io.scratch answer ps qs × (log' ≡ log) × (io' ≡ io)
Carries region (ReadCall offered) answer io ps log io' qs log' = (k : ℕ) × (has offered k ≡ true) × IsReadOf k io.at io'.into answer ps qs × (log' ≡ log) × (io'.scratch ≡ io.scratch) × (io'.from ≡ io.from) × (io'.at ≡ io.at)
Carries region (ReadRegion k) answer io ps log io' qs log' = IsReadOf k 0 io'.scratch answer ps qs × (log' ≡ log) × (io'.into ≡ io.into) × (io'.from ≡ io.from) × (io'.at ≡ io.at)
Carries region _ answer io ps log io' qs log' = ⊥

-- the event of an answer
abbrev pub event_of : Option Answered → Option Event
event_of None = None
event_of (Some answer) = Some answer.event
