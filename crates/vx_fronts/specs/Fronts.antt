-- Disks of which a group has the fronts alone: the whole devices that they are with the sectors behind.
use Rattle.std.specs.Prelude.{ℕ, ◌≤◌, nat_lt, Bool, ◌||◌, if◌then◌else◌, Option, Some, None}
use Rattle.vx_base.specs.Blocks.{Contents}
use Rattle.vx_base.specs.Counts.{later_count}
use Rattle.vx_piece.specs.Seen.{Seen}
use Rattle.vx_copies.specs.Disks.{DiskSeen}

-- what the sectors behind a front are together: what they hold, by their numbers on the device, and how often they were counted
pub record Rest : Type 0 where
  pub contents : Contents
  pub faults : ℕ
  pub writes : ℕ
  pub reads : ℕ
  -- the power of one of them is gone
  pub cut : Bool

-- the first so many blocks, and behind them those of the rest
abbrev pub with_rest : ℕ → Contents → Contents → Contents
with_rest n front rest k = if nat_lt k n then front k else rest k

-- what the whole device tells; nothing where the front does not
abbrev pub whole_told : ℕ → Contents → Option Contents → Option Contents
whole_told n rest None = None
whole_told n rest (Some front) = Some (with_rest n front rest)

-- the device of so many sectors that a front and the rest behind it are
abbrev pub whole_seen : ℕ → Seen → Rest → Seen
whole_seen sectors front rest = record {
  device = front.device;
  start = front.start;
  sectors = sectors;
  told = whole_told front.sectors rest.contents front.told;
  faults = later_count front.faults rest.faults;
  writes = later_count front.writes rest.writes;
  reads = later_count front.reads rest.reads;
  cut = front.cut || rest.cut;
  stop = front.stop;
}

-- the rests of devices, by their numbers; a device that is there whole has none
abbrev pub Rests : Type 0
Rests = ℕ → Option Rest

-- a disk, of which the rest of its device may be apart
abbrev pub with_device : Option Rest → DiskSeen → DiskSeen
with_device None h = h
with_device (Some rest) h = record h { seen = whole_seen h.sectors h.seen rest }

-- a disk with its whole device
abbrev pub whole_disk : Rests → DiskSeen → DiskSeen
whole_disk rests h = with_device (rests h.seen.device) h

-- the piece of the disk has a private region, and so has the device
pub record HasPrivate (h : DiskSeen) : Type 0 where
  pub front : 2048 ≤ h.seen.sectors
  pub device : 2048 ≤ h.sectors
