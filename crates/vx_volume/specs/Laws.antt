-- What calls on a volume mean for the histories of its regions.
use Rattle.std.specs.Prelude.{◌≡◌, ◌≢◌, ◌⊎◌, ◌&&◌, ◌||◌, not, ℕ, ◌+◌, ◌/◌, ◌<◌, ◌≤◌, ◌==◌, Bool, true, false, if◌then◌else◌, List, [], ◌∷◌, ◌++◌, length, map, Option, Some, None, Result, Ok, Err, OnErr}
use Rattle.vx_base.specs.Blocks.{Contents}
use Rattle.vx_block.specs.declared.geometry.Span.{Span}
use Rattle.vx_block.specs.Regions.{part_at}
use Rattle.vx_life.specs.declared.EntryKind.{EntryKind}
use Rattle.vx_life.specs.declared.EntryKind.TheVariants.{Read, Write, Torn, Missed}
use Rattle.vx_life.specs.Entry.{Entry}
use Rattle.vx_core.specs.declared.stage.Phase.{Phase}
use Rattle.vx_core.specs.declared.stage.Stage.{Stage}
use Rattle.vx_core.specs.declared.stage.Phase.TheVariants.{Settled, Unsettled, Dead, Busy}
use Rattle.vx_core.specs.History.{AllOf, Call, IsNextCall, MayPrecede, NoCall, entry_of, no_values}
use Rattle.vx_core.specs.Region.{Fixed, RegionState}
use Rattle.vx_core.specs.Recovery.{region_after}
use Rattle.vx_core.specs.Schedule.{AllFit, Comes, Elsewhere, Happening, IsIdle, run}
use Rattle.vx_core.specs.Table.{next_of}
use Rattle.vx_core_laws.specs.Course.{EachFits}
use Rattle.vx_core_laws.specs.Tracking.{Notes, no_notes, notes_of, was_torn, was_written}
use Rattle.vx_marks.specs.Log.{KeepsLog, LogSeen, OnMarks}
use Rattle.vx_marks.specs.declared.marker.MarkFault.{MarkFault}
use Rattle.vx_mask.specs.Mask.{has, only}
use Rattle.vx_pages.specs.Items.{item_at}
use Rattle.vx_piece.specs.Seen.{Seen}
use Rattle.vx_runs.specs.Run.{RunTells}
use Rattle.vx_cell.specs.declared.fault.CellFault.{CellFault}
use Rattle.vx_cell.specs.declared.fault.CellFault.TheVariants.{Fault, PowerLost, Held, Only}
use Rattle.vx_cell.specs.Region.{IsTold, RegionSeen, StandsFor, Tells, TidiesOthers, state_of}
use Rattle.vx_cell.specs.Plexes.{KeepPlexes, PlexRose}
use Rattle.vx_cell.specs.Running.{Caller, IsBacked, act_of, values_at}
use Rattle.vx_volume.specs.declared.fault.IoFault.{IoFault}
use Rattle.vx_volume.specs.declared.fault.IoFault.TheVariants as io
use Rattle.vx_volume.specs.declared.receipt.Receipt.{Receipt}
use Rattle.vx_volume.specs.Calls.{ChangesRegion, ReadEnds, WriteEndsAll, bytes_of, io_stop, parts_in}
use Rattle.vx_volume.specs.Changing.{IsFreeIn, IsKnownMap, IsPlexFor, PutsPlex, SetsMap}
use Rattle.vx_volume.specs.Logging.{ChangesLog, IsAlone, ShowsNothing}
use Rattle.vx_volume.specs.Loop.{AreMade}
use Rattle.vx_volume.specs.Parting.{LosesPlexes}
use Rattle.vx_volume.specs.Switching.{CanSpare, Firms, HasPlex, IsSettled, IsTight, Switches}
use Rattle.vx_volume.specs.Passes.{CopyEnds, IsClearedAt, IsCopiedAt, IsSettledAt, PassEnds}
use Rattle.vx_volume.specs.Volume.{IsVolume, VolumeSeen, cell_at, region_at}
use Rattle.vx_volume.specs.Yielding.{YieldsCopy}

-- ---- one region

-- What calls keep of a region: its place, its pieces and the log. Counts of faults never fall, and power does not come back.
pub record StaysRegion (old new : RegionSeen) : Type 0 where
  pub region : new.region ≡ old.region
  pub start : new.start ≡ old.start
  pub size : new.size ≡ old.size
  pub epoch : new.epoch ≡ old.epoch
  pub plexes : KeepPlexes old.plexes new.plexes
  pub log : KeepsLog old.log new.log

-- each failure that the happenings tell is one by which a count rose, and a cut one by which a piece is cut
abbrev pub ShowFailures : List Happening → Stage → RegionSeen → RegionSeen → Type 0
ShowFailures [] s old new = Unit {0}
ShowFailures (Comes event now call values ∷ hs) s old new = IsBacked (act_of s s.phase) event old new × ShowFailures hs (next_of s event).0 old new
ShowFailures (Elsewhere marks ∷ hs) s old new = ShowFailures hs s old new

-- The region goes by a course of happenings from the one state to the other, and its entries become these. No call is under
-- way before it or after it.
pub record GoesOn (old new : RegionSeen) (fixed : Fixed) (entries entries' : List Entry) : Type 0 where
  pub course : List Happening
  pub fits : EachFits course (state_of old fixed entries NoCall old.number)
  pub ends : region_after course (state_of old fixed entries NoCall old.number) ≡ state_of new fixed entries' NoCall new.number
  pub shown : ShowFailures course old.stage old new
  pub stays : StaysRegion old new

-- the call on a span that comes next in the region
abbrev pub next_call : RegionSeen → Caller → Span → Call
next_call r who span =
    record {
      session = who.session;
      place = who.place;
      part = record { region = r.region; epoch = r.epoch; number = r.number + 1 };
      start = span.start;
      count = span.count;
    }

-- what an entry of this kind tells of the bytes
abbrev pub values_of : EntryKind → ℕ → List ℕ → Contents
values_of Read start bytes = values_at start bytes
values_of Write start bytes = values_at start bytes
values_of Torn start bytes = values_at start bytes
values_of Missed start bytes = no_values

-- the entry of that call, of this kind
abbrev pub next_entry : RegionSeen → Caller → Span → List ℕ → EntryKind → Entry
next_entry r who span bytes kind = entry_of kind (next_call r who span) (values_of kind span.start bytes)

-- how a read may be told, by what stopped it
abbrev pub MayTellRead : Option CellFault → EntryKind → Type 0
MayTellRead None kind = kind ≡ Read
MayTellRead (Some fault) kind = kind ≡ Missed

-- and how a write may: it was done where the power went in the clear behind it
abbrev pub MayTellWrite : Option CellFault → EntryKind → Type 0
MayTellWrite None kind = kind ≡ Write
MayTellWrite (Some PowerLost) kind = (kind ≡ Torn) ⊎ (kind ≡ Write)
MayTellWrite (Some (Fault place)) kind = kind ≡ Torn
MayTellWrite (Some Held) kind = kind ≡ Torn
MayTellWrite (Some (Only map)) kind = kind ≡ Torn

-- the entries that a call on a region makes: one of a kind that it may have, and none where the region was dead
abbrev pub AreMadeOf : Phase → (EntryKind → Type 0) → (EntryKind → Entry) → List Entry → Type 0
AreMadeOf Dead may entry made = made ≡ []
AreMadeOf Settled may entry made = (kind : EntryKind) × may kind × (made ≡ entry kind ∷ [])
AreMadeOf Unsettled may entry made = (kind : EntryKind) × may kind × (made ≡ entry kind ∷ [])
AreMadeOf (Busy w) may entry made = (kind : EntryKind) × may kind × (made ≡ entry kind ∷ [])

-- ---- the region of a call, and the others

-- A region that was called goes on with the entry of the call at the front of those that it had, where devices tell and the
-- call comes next in its history.
abbrev pub CalledGoesOn : (Way : Span → List ℕ → Option CellFault → RegionSeen → RegionSeen → Type 0) → (Option CellFault → EntryKind → Type 0) → Type 0
CalledGoesOn Way may =
    (span : Span) (bytes : List ℕ) (stop : Option CellFault) (old new : RegionSeen) → Way span bytes stop old new →
    IsIdle old.stage.phase → old.log.lent ≡ false → old.start ≤ span.start → IsTold old →
    (who : Caller) (fixed : Fixed) (entries : List Entry) → IsNextCall fixed.region old.number entries (next_call old who span) →
    (made : List Entry) × AreMadeOf old.stage.phase (may stop) (next_entry old who span bytes) made × GoesOn old new fixed entries (made ++ entries)

-- A region of which a job without a call was run goes on with the entries that it had.
abbrev pub QuietGoesOn : (RegionSeen → RegionSeen → Type 0) → Type 0
QuietGoesOn Way =
    (old new : RegionSeen) → Way old new → IsIdle old.stage.phase → old.log.lent ≡ false → IsTold old →
    (fixed : Fixed) (entries : List Entry) → GoesOn old new fixed entries entries

abbrev pub EachSettlingGoesOn : Type 0
EachSettlingGoesOn = (stop : Option CellFault) → QuietGoesOn (IsSettledAt stop)

abbrev pub EachClearingGoesOn : Type 0
EachClearingGoesOn = (stop : Option CellFault) → QuietGoesOn (IsClearedAt stop)

abbrev pub EachCopyGoesOn : Type 0
EachCopyGoesOn = (map : ℕ) (result : Result Bool CellFault) → QuietGoesOn (IsCopiedAt map result)

-- Every other region of the log goes on with the entries that it had.
abbrev pub EachOtherGoesOn : Type 0
EachOtherGoesOn =
    (region : ℕ) (other : RegionSeen) (log : LogSeen) (fixed : Fixed) (entries : List Entry) →
    other.region ≢ region → Tells other.log.told → KeepsLog other.log log → OnMarks (TidiesOthers region) other.log.told log.told →
    GoesOn other (record other { log = log }) fixed entries entries

-- What is noted of a region by its course is what its new entries tell, and where a write to a plex failed a count of it rose.
pub record IsNotedBy (made : List Entry) (notes : Notes) (old new : RegionSeen) : Type 0 where
  pub written : notes.written ≡ was_written made
  pub torn : notes.torn ≡ was_torn made
  pub failed : (k : ℕ) → notes.failed k ≡ true → PlexRose k old.plexes new.plexes

abbrev pub EachCourseIsNoted : Type 0
EachCourseIsNoted =
    (old new : RegionSeen) (fixed : Fixed) (entries made : List Entry) (goes : GoesOn old new fixed entries (made ++ entries)) (dirty : Bool) →
    IsNotedBy made (notes_of dirty goes.course (state_of old fixed entries NoCall old.number) no_notes) old new

-- ---- all regions of a volume

-- the devices and the log tell what they hold
abbrev pub AreTold : VolumeSeen → Type 0
AreTold v = (r : ℕ) → r < length v.cells → IsTold (region_at v r)

-- Each region goes on with its entries, and all stay told.
pub record RegionsGoOn (old new : VolumeSeen) (fixed : ℕ → Fixed) (entries entries' : ℕ → List Entry) : Type 0 where
  pub count : length new.cells ≡ length old.cells
  pub each : (r : ℕ) → r < length old.cells → GoesOn (region_at old r) (region_at new r) (fixed r) (entries r) (entries' r)
  pub told : AreTold new

-- a call of theirs may come next in the history of each region
pub record MayComeNext (v : VolumeSeen) (who : Caller) (fixed : ℕ → Fixed) (entries : ℕ → List Entry) : Type 0 where
  pub here : (r : ℕ) → r < length v.cells → (fixed r).region ≡ r
  pub order : (r : ℕ) → r < length v.cells → AllOf (MayPrecede who.session who.place (cell_at v r).epoch) (entries r)

-- the entries of a region, the newest first, with those of a call that are of the region
abbrev pub with_made : ℕ → List Entry → List Entry → List Entry
with_made r [] entries = entries
with_made r (e ∷ made) entries = with_made r made (if e.part.region == r then e ∷ entries else entries)

-- One region of a volume is called: each goes on, that one with the entry of the call.
abbrev pub CallOfRegionGoesOn : (Way : Span → List ℕ → Option CellFault → RegionSeen → RegionSeen → Type 0) → (Option CellFault → EntryKind → Type 0) → Type 0
CallOfRegionGoesOn Way may =
    (r : ℕ) (span : Span) (bytes : List ℕ) (stop : Option CellFault) (old new : VolumeSeen) → ChangesRegion r (Way span bytes stop) old new →
    IsVolume old → (cell_at old r).start ≤ span.start → AreTold old →
    (who : Caller) (fixed : ℕ → Fixed) (entries : ℕ → List Entry) → MayComeNext old who fixed entries →
    (made : List Entry) × AreMadeOf (cell_at old r).stage.phase (may stop) (next_entry (region_at old r) who span bytes) made
    × RegionsGoOn old new fixed entries (λ i. with_made i made (entries i))

-- A job without a call is run on one region: each goes on with its entries.
abbrev pub JobOfRegionGoesOn : (RegionSeen → RegionSeen → Type 0) → Type 0
JobOfRegionGoesOn Way =
    (r : ℕ) (old new : VolumeSeen) → ChangesRegion r Way old new → IsVolume old → AreTold old →
    (fixed : ℕ → Fixed) (entries : ℕ → List Entry) → RegionsGoOn old new fixed entries entries

abbrev pub EachSettlingOfRegionGoesOn : Type 0
EachSettlingOfRegionGoesOn = (stop : Option CellFault) → JobOfRegionGoesOn (IsSettledAt stop)

abbrev pub EachClearingOfRegionGoesOn : Type 0
EachClearingOfRegionGoesOn = (stop : Option CellFault) → JobOfRegionGoesOn (IsClearedAt stop)

abbrev pub EachCopyOfRegionGoesOn : Type 0
EachCopyOfRegionGoesOn = (map : ℕ) (result : Result Bool CellFault) → JobOfRegionGoesOn (IsCopiedAt map result)

-- ---- calls on a volume

-- The entries with those that the part at an index makes. Its number and phase are those of the region as the call begins.
pub record MakesEntries (may : Option CellFault → EntryKind → Type 0) (v : VolumeSeen) (who : Caller) (start count : ℕ) (bytes : List ℕ) (index : ℕ) (stop : Option CellFault) (old new : List Entry) : Type 0 where
  pub span : Span
  pub part : part_at v.region start count index ≡ Some span
  pub region : ℕ
  pub is_region : region ≡ start / v.region + index
  pub made : List Entry
  pub are : AreMadeOf (cell_at v region).stage.phase (may stop) (next_entry (region_at v region) who span (bytes_of bytes start span)) made
  pub after : new ≡ old ++ made

-- The entries of a call, in order: one for each part of its receipt. A call whose range does not lie in the volume has none.
abbrev pub AreEntriesOf : (Option CellFault → EntryKind → Type 0) → VolumeSeen → Caller → ℕ → Result (Unit {0}) IoFault → Receipt → List Entry → Type 0
AreEntriesOf may v who start (Err io.Range) receipt made = made ≡ []
AreEntriesOf may v who start result receipt made =
    (map (λ (e : Entry). e.part) made ≡ receipt.parts.items)
    × AreMade (MakesEntries may v who start receipt.count receipt.blocks.items) (parts_in v.region start receipt.count) (io_stop result) [] made

-- From histories of all regions to their histories after a read of the volume, ..
abbrev pub EachReadOfVolumeGoesOn : Type 0
EachReadOfVolumeGoesOn =
    (start : ℕ) (old new : VolumeSeen) (result : Result (Unit {0}) IoFault) (before after : Receipt) → ReadEnds start old new result before after →
    IsVolume old → AreTold old →
    (who : Caller) (fixed : ℕ → Fixed) (entries : ℕ → List Entry) → MayComeNext old who fixed entries →
    (made : List Entry) × AreEntriesOf MayTellRead old who start result after made × RegionsGoOn old new fixed entries (λ r. with_made r made (entries r))

-- .. after a write, ..
abbrev pub EachWriteOfVolumeGoesOn : Type 0
EachWriteOfVolumeGoesOn =
    (start : ℕ) (from : List ℕ) (old new : VolumeSeen) (result : Result (Unit {0}) IoFault) (before after : Receipt) → WriteEndsAll start from old new result before after →
    IsVolume old → AreTold old →
    (who : Caller) (fixed : ℕ → Fixed) (entries : ℕ → List Entry) → MayComeNext old who fixed entries →
    (made : List Entry) × AreEntriesOf MayTellWrite old who start result after made × RegionsGoOn old new fixed entries (λ r. with_made r made (entries r))

-- .. and after a pass, which makes no entry.
abbrev pub PassGoesOn : (ℕ → Option CellFault → VolumeSeen → VolumeSeen → Type 0) → Type 0
PassGoesOn pass =
    (old new : VolumeSeen) (result : Result (Unit {0}) IoFault) → PassEnds pass old new result → IsVolume old → AreTold old →
    (fixed : ℕ → Fixed) (entries : ℕ → List Entry) → RegionsGoOn old new fixed entries entries

abbrev pub CopyPassGoesOn : Type 0
CopyPassGoesOn =
    (map : ℕ) (old new : VolumeSeen) (result : Result ℕ IoFault) → CopyEnds map old new result → IsVolume old → AreTold old →
    (fixed : ℕ → Fixed) (entries : ℕ → List Entry) → RegionsGoOn old new fixed entries entries

-- ---- one call after another

-- What goes on and goes on again goes on.
abbrev pub EachGoingGoesOn : Type 0
EachGoingGoesOn =
    (old mid new : VolumeSeen) (fixed : ℕ → Fixed) (entries entries' entries'' : ℕ → List Entry) →
    RegionsGoOn old mid fixed entries entries' → RegionsGoOn mid new fixed entries' entries'' → RegionsGoOn old new fixed entries entries''

-- the regions stand for these histories
abbrev pub StandFor : VolumeSeen → (ℕ → Fixed) → (ℕ → List Entry) → Type 0
StandFor v fixed entries = (r : ℕ) → r < length v.cells → StandsFor (region_at v r) (fixed r) (entries r) NoCall

-- Regions that stand for histories stand for those with which they go on.
abbrev pub EachGoingStands : Type 0
EachGoingStands =
    (old new : VolumeSeen) (fixed : ℕ → Fixed) (entries entries' : ℕ → List Entry) →
    RegionsGoOn old new fixed entries entries' → StandFor old fixed entries → StandFor new fixed entries'

-- ---- all regions by one schedule

-- the states are those of the regions of the volume, with these histories
abbrev pub AreStatesOf : VolumeSeen → (ℕ → Fixed) → (ℕ → List Entry) → (ℕ → RegionState) → Type 0
AreStatesOf v fixed entries states = (r : ℕ) → r < length v.cells → states r ≡ state_of (region_at v r) (fixed r) (entries r) NoCall (cell_at v r).number

-- Regions that go on do so by a schedule of happenings in all of them, which changes no other number's state.
abbrev pub EachGoingIsScheduled : Type 0
EachGoingIsScheduled =
    (old new : VolumeSeen) (fixed : ℕ → Fixed) (entries entries' : ℕ → List Entry) → RegionsGoOn old new fixed entries entries' →
    (states : ℕ → RegionState) → AreStatesOf old fixed entries states →
    (schedule : List (ℕ × Happening)) × AllFit schedule states × AreStatesOf new fixed entries' (run schedule states) × ((r : ℕ) → length old.cells ≤ r → run schedule states r ≡ states r)

-- ---- what is done between calls

-- What the regions stand for they stand for when a free map was set. Where that failed, it was known what the log claims of it.
abbrev pub EachSettingStands : Type 0
EachSettingStands =
    (map : ℕ) (bits : ℕ → Bool) (result : Result (Unit {0}) MarkFault) (old new : VolumeSeen) → SetsMap map bits result old new →
    IsVolume old → IsFreeIn map old → AreTold old → OnErr result (IsKnownMap map old) →
    (fixed : ℕ → Fixed) (entries : ℕ → List Entry) → StandFor old fixed entries → StandFor new fixed entries

-- What is told stays told then, ..
abbrev pub EachSettingTells : Type 0
EachSettingTells = (map : ℕ) (bits : ℕ → Bool) (result : Result (Unit {0}) MarkFault) (old new : VolumeSeen) → SetsMap map bits result old new → AreTold old → AreTold new

-- .. and after Ok each region has the mark that was asked for.
abbrev pub EachSettingMarks : Type 0
EachSettingMarks =
    (map : ℕ) (bits : ℕ → Bool) (old new : VolumeSeen) → SetsMap map bits (Ok tt) old new → IsVolume old → IsFreeIn map old →
    (r : ℕ) → r < length new.cells → has (cell_at new r).stage.bits map ≡ bits r

-- Whatever the answer, each region's mark of the map is what the log claims then.
abbrev pub EachSettingKnows : Type 0
EachSettingKnows = (map : ℕ) (bits : ℕ → Bool) (result : Result (Unit {0}) MarkFault) (old new : VolumeSeen) → SetsMap map bits result old new → IsFreeIn map old → IsKnownMap map new

-- what is fixed, with the plex
abbrev pub with_plex : ℕ → Fixed → Fixed
with_plex map fixed = record fixed { held = λ k. fixed.held k || has (only map) k }

-- What the regions stand for they stand for with a marked plex that was put in.
abbrev pub EachPuttingStands : Type 0
EachPuttingStands =
    (map : ℕ) (runs : List (List Seen)) (old new : VolumeSeen) → PutsPlex map runs old new → IsVolume old → IsFreeIn map old → IsPlexFor map runs old →
    (fixed : ℕ → Fixed) (entries : ℕ → List Entry) → StandFor old fixed entries → StandFor new (λ r. with_plex map (fixed r)) entries

-- What is told stays told where the pieces of the plex tell.
abbrev pub EachPuttingTells : Type 0
EachPuttingTells =
    (map : ℕ) (runs : List (List Seen)) (old new : VolumeSeen) → PutsPlex map runs old new → ((r : ℕ) → r < length old.cells → RunTells (item_at [] runs r)) → AreTold old → AreTold new

-- what is fixed, with map 0 alone and with the copies of this log
abbrev pub with_log_of : LogSeen → Fixed → Fixed
with_log_of log fixed = record fixed { held = λ k. has (only 0) k; copies = log.copies }

-- What the regions of a volume of one plex stand for they stand for with another log that shows nothing.
abbrev pub EachLogChangeStands : Type 0
EachLogChangeStands =
    (map : ℕ) (log : LogSeen) (old new : VolumeSeen) → ChangesLog log old new → IsVolume old → IsAlone map old → ShowsNothing log old →
    (fixed : ℕ → Fixed) (entries : ℕ → List Entry) → StandFor old fixed entries → StandFor new (λ r. with_log_of log (fixed r)) entries

-- What is told stays told where the log tells.
abbrev pub EachLogChangeTells : Type 0
EachLogChangeTells = (log : LogSeen) (old new : VolumeSeen) → ChangesLog log old new → Tells log.told → AreTold old → AreTold new

-- ---- loose marks, and a plex that goes on or off

-- Where loose marks were written again, or that failed, each region goes on with its entries.
abbrev pub EachFirmingGoesOn : Type 0
EachFirmingGoesOn =
    (result : Result (Unit {0}) MarkFault) (old new : VolumeSeen) → Firms result old new → AreTold old →
    (fixed : ℕ → Fixed) (entries : ℕ → List Entry) → RegionsGoOn old new fixed entries entries

-- After Ok none is loose.
abbrev pub EachFirmingTightens : Type 0
EachFirmingTightens = (old new : VolumeSeen) → Firms (Ok tt) old new → AreTold old → IsTight new

-- What the regions stand for they stand for with a plex on that they have.
abbrev pub EachPlexMayGoOn : Type 0
EachPlexMayGoOn =
    (map : ℕ) (old new : VolumeSeen) → Switches map true old new → IsVolume old →
    (fixed : ℕ → Fixed) (entries : ℕ → List Entry) → ((r : ℕ) → r < length old.cells → (fixed r).held map ≡ true) → StandFor old fixed entries → StandFor new fixed entries

-- So they do with one off that can be spared, where they are settled and no mark is loose.
abbrev pub EachPlexMayGoOff : Type 0
EachPlexMayGoOff =
    (map : ℕ) (old new : VolumeSeen) → Switches map false old new → IsVolume old → HasPlex map old → CanSpare map old → IsSettled old → IsTight old →
    (fixed : ℕ → Fixed) (entries : ℕ → List Entry) → StandFor old fixed entries → StandFor new fixed entries

-- What is told stays told.
abbrev pub EachSwitchTells : Type 0
EachSwitchTells = (map : ℕ) (on : Bool) (old new : VolumeSeen) → Switches map on old new → AreTold old → AreTold new

-- ---- a plex that leaves

-- what is fixed, without the plex
abbrev pub without_held : ℕ → Fixed → Fixed
without_held map fixed = record fixed { held = λ k. fixed.held k && not (has (only map) k) }

-- What the regions stand for they stand for without a plex that can be spared, where they are settled and no mark is loose.
abbrev pub EachPlexMayLeave : Type 0
EachPlexMayLeave =
    (map : ℕ) (old new : VolumeSeen) → LosesPlexes map old new → IsVolume old → CanSpare map old → IsSettled old → IsTight old →
    (fixed : ℕ → Fixed) (entries : ℕ → List Entry) → StandFor old fixed entries → StandFor new (λ r. without_held map (fixed r)) entries

-- What is told stays told.
abbrev pub EachLeavingTells : Type 0
EachLeavingTells = (map : ℕ) (old new : VolumeSeen) → LosesPlexes map old new → AreTold old → AreTold new

-- ---- a copy of the log that goes

-- What the regions stand for on two copies of the log they stand for on the one that is left.
abbrev pub EachCopyMayGo : Type 0
EachCopyMayGo =
    (copy : ℕ) (old new : VolumeSeen) → YieldsCopy copy old new → AreTold old →
    (fixed : ℕ → Fixed) (entries : ℕ → List Entry) → ((r : ℕ) → r < length old.cells → (fixed r).copies ≡ old.log.copies) → StandFor old fixed entries → StandFor new (λ r. record (fixed r) { copies = 1 }) entries

-- What is told stays told.
abbrev pub EachYieldingTells : Type 0
EachYieldingTells = (copy : ℕ) (old new : VolumeSeen) → YieldsCopy copy old new → AreTold old → AreTold new
