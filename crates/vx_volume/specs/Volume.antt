-- What contracts see of a volume, and what it is to be one.
use Rattle.std.specs.Prelude.{◌≡◌, ℕ, ◌-◌, ◌*◌, ◌<◌, ◌≤◌, false, min, List, [], length, map}
use Rattle.std.specs.Global.{Vec}
use Rattle.vx_block.specs.Regions.{region_count}
use Rattle.vx_core.specs.declared.stage.Phase.TheVariants.{Dead}
use Rattle.vx_core.specs.Schedule.{IsIdle}
use Rattle.vx_piece.specs.Seen.{Seen}
use Rattle.vx_marks.specs.Log.{LogSeen}
use Rattle.vx_pages.specs.declared.local_piece.LocalPiece.{Ghosts}
use Rattle.vx_pages.specs.Items.{item_at}
use Rattle.vx_cell.specs.declared.cell.Cell.{Cell}
use Rattle.vx_cell.specs.Changes.{CellSeen, cell_seen}
use Rattle.vx_cell.specs.Region.{RegionSeen, IsWhole}
use Rattle.vx_volume.specs.declared.log.VolumeLog.{VolumeLog}
use Rattle.vx_volume.specs.declared.volume.Volume.{Volume}
use Rattle.vx_volume.specs.declared.volume.VolumeShape.{VolumeShape}
use Rattle.vx_volume.specs.Log.{log_seen}

pub record VolumeSeen : Type 0 where
  -- in blocks
  pub length : ℕ
  -- the size of a region, in blocks
  pub region : ℕ
  pub cells : List CellSeen
  pub log : LogSeen
  -- the bytes of its buffer
  pub scratch : ℕ
  -- a bound on the numbers of its regions
  pub most : ℕ

abbrev pub cells_seen : {P : Type 0} → (P → Seen) → List (Cell P) → List CellSeen
cells_seen seen cells = map (cell_seen seen) cells

abbrev pub seen_of : {P : Type 0} {ghosts : Ghosts P} → (P → Seen) → VolumeShape → Vec (Cell P) → VolumeLog P ghosts → Vec ℕ → ℕ → VolumeSeen
seen_of seen shape cells log scratch most =
    record {
      length = shape.geometry.length;
      region = shape.geometry.region;
      cells = cells_seen seen cells.items;
      log = log_seen seen log;
      scratch = length scratch.items;
      most = most;
    }

abbrev pub volume_seen : {P : Type 0} {ghosts : Ghosts P} → (P → Seen) → Volume P ghosts → VolumeSeen
volume_seen seen volume = seen_of seen volume.shape volume.cells volume.log volume.scratch volume.most

-- what a volume was opened with, and its log
abbrev pub shape_of : {P : Type 0} {ghosts : Ghosts P} → Volume P ghosts → VolumeShape
shape_of volume = volume.shape

abbrev pub log_of : {P : Type 0} {ghosts : Ghosts P} → Volume P ghosts → VolumeLog P ghosts
log_of volume = volume.log

-- no region: it has no plexes, and its power is gone
abbrev pub no_cell : CellSeen
no_cell = record {
  stage = record { on = 0; off = 0; snaps = 0; bits = 0; logged = false; phase = Dead };
  region = 0;
  start = 0;
  size = 0;
  number = 0;
  epoch = 0;
  plexes = [];
}

abbrev pub cell_at : VolumeSeen → ℕ → CellSeen
cell_at v r = item_at no_cell v.cells r

-- a cell with the log that its calls are given
abbrev pub with_log : CellSeen → LogSeen → RegionSeen
with_log cell log =
    record {
      stage = cell.stage;
      region = cell.region;
      start = cell.start;
      size = cell.size;
      number = cell.number;
      epoch = cell.epoch;
      plexes = cell.plexes;
      log = log;
    }

abbrev pub region_at : VolumeSeen → ℕ → RegionSeen
region_at v r = with_log (cell_at v r) v.log

-- the blocks of a region: the last may have fewer
abbrev pub blocks_in : VolumeSeen → ℕ → ℕ
blocks_in v r = min v.region (v.length - r * v.region)

-- the cell is that of the region, over its blocks, whole with the log of the volume, and no call on it is under way
pub record IsCellOf (v : VolumeSeen) (r : ℕ) : Type 0 where
  pub index : (cell_at v r).region ≡ r
  pub start : (cell_at v r).start ≡ r * v.region
  pub size : (cell_at v r).size ≡ blocks_in v r
  pub idle : IsIdle (cell_at v r).stage.phase
  pub whole : IsWhole (region_at v r)
  pub below : (cell_at v r).number ≤ v.most

-- a volume: there is a cell for each region, and no page of the log is out
pub record IsVolume (v : VolumeSeen) : Type 0 where
  pub count : length v.cells ≡ region_count v.length v.region
  pub each : (r : ℕ) → r < length v.cells → IsCellOf v r
  pub own : v.log.lent ≡ false
  pub scratch : v.scratch ≡ 512 * v.region
