-- Reads and writes of a volume.
use Rattle.std.specs.Prelude.{◌≡◌, ℕ, ◌+◌, ◌-◌, ◌*◌, ◌/◌, ◌^◌, ◌<◌, ◌≤◌, ◌≢◌, List, [], false, length, take, drop, IfNone, Option, Some, None, Result, Ok, Err}
use Rattle.vx_block.specs.declared.geometry.Span.{Span}
use Rattle.vx_block.specs.Regions.{part_at}
use Rattle.vx_life.specs.declared.Part.{Part}
use Rattle.vx_life.specs.declared.EntryKind.TheVariants.{Read, Write, Torn, Missed}
use Rattle.vx_core.specs.declared.stage.Job.TheVariants.{Read as ReadJob}
use Rattle.vx_core.specs.Schedule.{IsIdle}
use Rattle.vx_cell.specs.declared.fault.CellFault.{CellFault}
use Rattle.vx_cell.specs.declared.fault.CellFault.TheVariants as cell
use Rattle.vx_cell.specs.Calls.{CallEnds, WriteEnds}
use Rattle.vx_cell.specs.Region.{RegionSeen, IsTold, IsWhole}
use Rattle.vx_cell.specs.Running.{GivesCurrent}
use Rattle.vx_volume.specs.declared.fault.IoFault.{IoFault}
use Rattle.vx_volume.specs.declared.fault.IoFault.TheVariants.{Range, Fault, PowerLost}
use Rattle.vx_volume.specs.declared.receipt.Receipt.{Receipt}
use Rattle.vx_volume.specs.Loop.{AreMade, stop_of}
use Rattle.vx_volume.specs.Receipts.{kind_of, part_of, with_part}
use Rattle.vx_volume.specs.Volume.{VolumeSeen, cell_at, region_at}

-- ---- one region

-- a call on the region may begin: none is under way, and no page of the log is out
pub record IsReady (r : RegionSeen) : Type 0 where
  pub idle : IsIdle r.stage.phase
  pub whole : IsWhole r
  pub own : r.log.lent ≡ false

-- one region goes on so, and the cells of all others stay
pub record ChangesRegion (r : ℕ) (Goes : RegionSeen → RegionSeen → Type 0) (old new : VolumeSeen) : Type 0 where
  pub inside : r < length old.cells
  pub goes : Goes (region_at old r) (region_at new r)
  pub others : (i : ℕ) → i ≢ r → cell_at new i ≡ cell_at old i
  pub same : new ≡ record old { cells = new.cells; log = new.log }
  pub count : length new.cells ≡ length old.cells

-- the region is asked for the blocks of a span, and these are the bytes that it leaves
pub record IsRead (span : Span) (bytes : List ℕ) (stop : Option CellFault) (old new : RegionSeen) : Type 0 where
  pub into : List ℕ
  pub scratch : List ℕ
  pub scratch' : List ℕ
  pub result : Result ℕ CellFault
  pub stopped : stop ≡ stop_of result
  pub room : length into ≡ 512 * span.count
  pub ended : CallEnds ReadJob
      (record { at = span.start - old.start; into = into; from = []; scratch = scratch }) old
      new (record { at = span.start - old.start; into = bytes; from = []; scratch = scratch' }) result
  -- the bytes are those of a plex that is on and unmarked
  pub gives : IfNone stop (IsTold old → GivesCurrent new (span.start - old.start) bytes)

-- these bytes are written to the blocks of a span of the region
pub record IsWritten (span : Span) (bytes : List ℕ) (stop : Option CellFault) (old new : RegionSeen) : Type 0 where
  pub scratch : List ℕ
  pub scratch' : List ℕ
  pub result : Result ℕ CellFault
  pub stopped : stop ≡ stop_of result
  pub size : length bytes ≡ 512 * span.count
  pub ended : WriteEnds
      (record { at = span.start - old.start; into = []; from = bytes; scratch = scratch }) old
      new (record { at = span.start - old.start; into = []; from = bytes; scratch = scratch' }) result

-- ---- the parts of a call

-- blocks of one region of the volume
pub record IsInRegion (span : Span) (v : VolumeSeen) : Type 0 where
  pub some : 0 < span.count
  pub one : span.start + span.count ≤ span.start / v.region * v.region + v.region
  pub inside : span.start + span.count ≤ v.length

-- from this region on no number has come to the bound, which a number of 64 bits may come to
pub record AreFresh (first : ℕ) (v : VolumeSeen) : Type 0 where
  pub numbers : (r : ℕ) → first ≤ r → (cell_at v r).number < v.most
  pub bound : v.most < 2 ^ 64

-- the region's part is told, where it was not dead
abbrev pub TellsPart : ℕ → VolumeSeen → VolumeSeen → List Part → List Part → Type 0
TellsPart r old new before after = after ≡ with_part (cell_at old r).stage.phase (part_of new r) before

-- a volume, and the parts that were begun
pub record Calling : Type 0 where
  pub volume : VolumeSeen
  pub parts : List Part

-- the bytes of a span among those of a range
abbrev pub bytes_of : List ℕ → ℕ → Span → List ℕ
bytes_of bytes start span = take (512 * span.count) (drop (512 * (span.start - start)) bytes)

-- The part of a range at an index is called in this way, with its bytes; it is told where the region was not dead.
pub record CallsPart (Way : Span → List ℕ → Option CellFault → RegionSeen → RegionSeen → Type 0) (start count : ℕ) (bytes : List ℕ) (index : ℕ) (stop : Option CellFault) (old new : Calling) : Type 0 where
  pub span : Span
  pub part : part_at old.volume.region start count index ≡ Some span
  pub region : ℕ
  pub is_region : region ≡ start / old.volume.region + index
  pub ends : ChangesRegion region (Way span (bytes_of bytes start span) stop) old.volume new.volume
  pub told : new.parts ≡ with_part (cell_at old.volume region).stage.phase (part_of new.volume region) old.parts

-- how many parts a range has
abbrev pub parts_in : ℕ → ℕ → ℕ → ℕ
parts_in size start count = (start + count - 1) / size - start / size + 1

-- ---- how a call ends

-- what stopped the call
abbrev pub io_stop : {T : Type 0} → Result T IoFault → Option CellFault
io_stop (Ok value) = None
io_stop (Err Range) = None
io_stop (Err (Fault place)) = Some (cell.Fault place)
io_stop (Err PowerLost) = Some cell.PowerLost

-- the call was not refused for its range
abbrev pub IsNoRange : {T : Type 0} → Result T IoFault → Type 0
IsNoRange (Ok value) = Unit {0}
IsNoRange (Err Range) = ⊥
IsNoRange (Err (Fault place)) = Unit {0}
IsNoRange (Err PowerLost) = Unit {0}

-- how the fault of a region's call is told, where that call was not held
abbrev pub io_fault_of : CellFault → IoFault
io_fault_of (cell.Fault place) = Fault place
io_fault_of cell.PowerLost = PowerLost
io_fault_of cell.Held = PowerLost
io_fault_of (cell.Only map) = PowerLost

abbrev pub io_result_of : {T : Type 0} → Result T CellFault → Result T IoFault
io_result_of (Ok value) = Ok value
io_result_of (Err fault) = Err (io_fault_of fault)

-- the volume as a call begins
abbrev pub called : VolumeSeen → VolumeSeen
called v = record v { most = v.most + 1 }

-- the parts of the range are called in this way, in order, up to the first that is not done
pub record CallsParts (Way : Span → List ℕ → Option CellFault → RegionSeen → RegionSeen → Type 0) (start : ℕ) (old new : VolumeSeen) (result : Result (Unit {0}) IoFault) (before after : Receipt) : Type 0 where
  pub inside : start + before.count ≤ old.length
  pub made : AreMade (CallsPart Way start before.count after.blocks.items) (parts_in old.region start before.count) (io_stop result)
      (record { volume = called old; parts = [] }) (record { volume = new; parts = after.parts.items })
  pub start_is : after.start ≡ start
  pub count : after.count ≡ before.count
  pub room : length after.blocks.items ≡ length before.blocks.items

-- the range does not lie in the volume, and nothing is done
pub record IsOutside (start : ℕ) (old new : VolumeSeen) (before after : Receipt) : Type 0 where
  pub outside : old.length < start + before.count
  pub same : new ≡ old
  pub receipt : after ≡ before

-- where the range does not lie in the volume, it is as it was, in all that it is made of
abbrev pub StaysOutside : {V T : Type 0} → Result T IoFault → V → V → Type 0
StaysOutside (Ok value) old new = Unit {0}
StaysOutside (Err Range) old new = new ≡ old
StaysOutside (Err (Fault place)) old new = Unit {0}
StaysOutside (Err PowerLost) old new = Unit {0}

-- a read ends
abbrev pub ReadEnds : (start : ℕ) → VolumeSeen → VolumeSeen → Result (Unit {0}) IoFault → Receipt → Receipt → Type 0
ReadEnds start old new (Err Range) before after = IsOutside start old new before after
ReadEnds start old new result before after = CallsParts IsRead start old new result before after × (after.kind ≡ kind_of Read Missed result)

-- a write of these bytes ends
abbrev pub WriteEndsAll : (start : ℕ) → List ℕ → VolumeSeen → VolumeSeen → Result (Unit {0}) IoFault → Receipt → Receipt → Type 0
WriteEndsAll start from old new (Err Range) before after = IsOutside start old new before after
WriteEndsAll start from old new result before after =
    CallsParts IsWritten start old new result before after × (after.kind ≡ kind_of Write Torn result) × (after.blocks.items ≡ from)
