-- A region of the rows that can be called.
use Rattle.std.specs.Prelude.{◌≡◌, ℕ, ◌+◌, ◌<◌, ◌^◌, List, true, false}
use Rattle.vx_mask.specs.Mask.{has, union}
use Rattle.vx_core.specs.Schedule.{IsIdle}
use Rattle.vx_core.specs.Form.{AreMasks}
use Rattle.vx_piece.specs.Seen.{Seen}
use Rattle.vx_marks.specs.Log.{LogSeen}
use Rattle.vx_cell.specs.declared.cell.Cell.{Cell}
use Rattle.vx_cell.specs.Plexes.{PlexSeen, holds, MapsDiffer, AllCover}
use Rattle.vx_cell.specs.Region.{IsWhole}
use Rattle.vx_cell.specs.Calls.{region_of}

-- the plexes have these maps, each its own, and each has the sectors of the region
pub record FitsPlexes (maps : ℕ) (plexes : List PlexSeen) : Type 0 where
  pub held : (k : ℕ) → has maps k ≡ holds plexes k
  pub below : (k : ℕ) → has maps k ≡ true → k < 30
  pub differ : MapsDiffer plexes
  pub cover : AllCover 32 plexes

-- the masks are those of a region with plexes of these maps that has a log, and some plex can be read
pub record FitMaps (on off snaps bits maps : ℕ) : Type 0 where
  pub masks : AreMasks on off snaps bits true (has maps)
  pub readable : (k : ℕ) × (has on k ≡ true) × (has bits k ≡ false)
  pub small : (k : ℕ) → has (union (union on off) snaps) k ≡ true → k < 32

-- the log of the rows' volume: it has the region, and 32 maps
pub record IsLogHere (log : LogSeen) : Type 0 where
  pub there : log.there ≡ true
  pub known : log.has_region 1 ≡ true
  pub maps : log.maps ≡ 32
  pub lent : log.lent ≡ false

-- a cell of the region that is not under way, whole with this log
pub record IsReady {P : Type 0} (seen : P → Seen) (cell : Cell P) (log : LogSeen) : Type 0 where
  pub whole : IsWhole (region_of seen cell log)
  pub idle : IsIdle (region_of seen cell log).stage.phase
  pub start : (region_of seen cell log).start ≡ 32
  pub size : (region_of seen cell log).size ≡ 32
  pub number : (region_of seen cell log).number + 1 < 2 ^ 64
