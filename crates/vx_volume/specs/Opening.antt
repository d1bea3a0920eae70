-- How a volume is opened over the plexes of its regions and the marks of its log.
use Rattle.std.specs.Prelude.{◌≡◌, ℕ, ◌-◌, ◌*◌, ◌^◌, ◌<◌, Bool, true, false, if◌then◌else◌, min, List, [], length, map}
use Rattle.std.specs.Global.{Vec}
use Rattle.vx_block.specs.Regions.{region_count}
use Rattle.vx_mask.specs.Mask.{has, union}
use Rattle.vx_core.specs.declared.stage.Stage.{Stage}
use Rattle.vx_core.specs.declared.stage.Phase.TheVariants.{Settled, Unsettled}
use Rattle.vx_core.specs.Soundness.{IsDataIn}
use Rattle.vx_piece.specs.Seen.{Seen}
use Rattle.vx_marks.specs.Log.{LogSeen, AreClaimed, HasMaps}
use Rattle.vx_pages.specs.Items.{item_at}
use Rattle.vx_cell.specs.declared.plex.Plex.{Plex}
use Rattle.vx_cell.specs.Changes.{CellSeen}
use Rattle.vx_cell.specs.Plexes.{PlexSeen, AllCover, MapsDiffer, holds, plexes_seen}
use Rattle.vx_volume.specs.declared.fault.OpenFault.{OpenFault}
use Rattle.vx_volume.specs.declared.fault.OpenFault.TheVariants.{NoCurrent, OutOfMemory}
use Rattle.vx_volume.specs.declared.volume.VolumeShape.{VolumeShape}
use Rattle.vx_volume.specs.Volume.{VolumeSeen, no_cell}

-- the plexes of each region, in order
abbrev pub regions_seen : {P : Type 0} → (P → Seen) → List (Vec (Plex P)) → List (List PlexSeen)
regions_seen {P = P} seen regions = map (λ (plexes : Vec (Plex P)). plexes_seen seen plexes.items) regions

-- how many regions the shape has, and the blocks of one
abbrev pub count_of : VolumeShape → ℕ
count_of shape = region_count shape.geometry.length shape.geometry.region

abbrev pub size_of : VolumeShape → ℕ → ℕ
size_of shape r = min shape.geometry.region (shape.geometry.length - r * shape.geometry.region)

-- ---- what may be opened

-- The masks are those of a volume: a map is one thing, and none is that of the dirty region log. Without a log there is one
-- plex; a log has the regions and the maps.
pub record AreVolumeMasks (shape : VolumeShape) (log : LogSeen) : Type 0 where
  pub on_fits : shape.on < 2 ^ 64
  pub off_fits : shape.off < 2 ^ 64
  pub snaps_fit : shape.snaps < 2 ^ 64
  pub off_apart : (k : ℕ) → has shape.on k ≡ true → has shape.off k ≡ false
  pub snaps_apart : (k : ℕ) → has shape.on k ≡ true → has shape.snaps k ≡ false
  pub off_snaps : (k : ℕ) → has shape.off k ≡ true → has shape.snaps k ≡ false
  pub dirty_apart : (has shape.on 30 ≡ false) × (has shape.off 30 ≡ false) × (has shape.snaps 30 ≡ false)
  pub alone : log.there ≡ false → (j k : ℕ) → has shape.on j ≡ true → has shape.on k ≡ true → j ≡ k
  pub unlogged : log.there ≡ false → (k : ℕ) → (has shape.off k ≡ false) × (has shape.snaps k ≡ false)
  pub regions : (r : ℕ) → r < count_of shape → log.has_region r ≡ true
  pub maps : log.there ≡ true → HasMaps log (union (union shape.on shape.off) shape.snaps) × (30 < log.maps)

-- the plexes of a region: each that is on is there, each is on or off, and each has the blocks of the region
pub record ArePlexesOf (shape : VolumeShape) (size : ℕ) (plexes : List PlexSeen) : Type 0 where
  pub held : (k : ℕ) → has shape.on k ≡ true → holds plexes k ≡ true
  pub known : (k : ℕ) → holds plexes k ≡ true → IsDataIn shape.on shape.off k
  pub differ : MapsDiffer plexes
  pub cover : AllCover size plexes

pub record AreOpenable (shape : VolumeShape) (log : LogSeen) (regions : List (List PlexSeen)) : Type 0 where
  pub masks : AreVolumeMasks shape log
  pub count : length regions ≡ count_of shape
  pub plexes : (r : ℕ) → r < length regions → ArePlexesOf shape (size_of shape r) (item_at [] regions r)

-- ---- how it is opened

-- a plex is on and unmarked in the region, by what the log claims
abbrev pub HasCurrent : VolumeShape → LogSeen → ℕ → Type 0
HasCurrent shape log r = (k : ℕ) × (has shape.on k ≡ true) × (log.claims r k ≡ false)

-- none is
abbrev pub HasNoCurrent : VolumeShape → LogSeen → ℕ → Type 0
HasNoCurrent shape log r = (k : ℕ) → has shape.on k ≡ true → log.claims r k ≡ true

-- the first region without one
pub record IsFirstUnread (shape : VolumeShape) (log : LogSeen) (r : ℕ) : Type 0 where
  pub inside : r < count_of shape
  pub none : HasNoCurrent shape log r
  pub before : (i : ℕ) → i < r → HasCurrent shape log i

-- how a region begins, with these marks: it is unsettled where it is marked dirty
abbrev pub stage_of : VolumeShape → Bool → ℕ → Stage
stage_of shape logged bits =
    record {
      on = shape.on;
      off = shape.off;
      snaps = shape.snaps;
      bits = bits;
      logged = logged;
      phase = if has bits 30 then Unsettled else Settled;
    }

-- the cell of a region as it is opened, with what the log claims
pub record IsOpenedCell (shape : VolumeShape) (log : LogSeen) (r : ℕ) (plexes : List PlexSeen) (cell : CellSeen) : Type 0 where
  pub bits : ℕ
  pub fits : bits < 2 ^ 64
  pub claimed : AreClaimed (log.claims r) bits
  pub is : cell ≡ record {
    stage = stage_of shape log.there bits;
    region = r;
    start = r * shape.geometry.region;
    size = size_of shape r;
    number = 0;
    epoch = 0;
    plexes = plexes;
  }

-- the cells of the regions, in order
pub record AreOpenedCells (shape : VolumeShape) (log : LogSeen) (regions : List (List PlexSeen)) (cells : List CellSeen) : Type 0 where
  pub count : length cells ≡ length regions
  pub each : (r : ℕ) → r < length regions → IsOpenedCell shape log r (item_at [] regions r) (item_at no_cell cells r)

pub record IsOpened (shape : VolumeShape) (log : LogSeen) (regions : List (List PlexSeen)) (v : VolumeSeen) : Type 0 where
  pub length_is : v.length ≡ shape.geometry.length
  pub region_is : v.region ≡ shape.geometry.region
  pub cells : AreOpenedCells shape log regions v.cells
  pub readable : (r : ℕ) → r < length regions → HasCurrent shape log r
  pub log_is : v.log ≡ log
  pub most : v.most ≡ 0

-- why it is not opened
abbrev pub IsRefusedAs : OpenFault → VolumeShape → LogSeen → Type 0
IsRefusedAs (NoCurrent r) shape log = IsFirstUnread shape log r
IsRefusedAs OutOfMemory shape log = Unit {0}
