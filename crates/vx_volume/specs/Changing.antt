-- What is done to a volume between calls: a map of its log is set, and a plex is put into its regions.
use Rattle.std.specs.Prelude.{◌≡◌, ◌≢◌, ℕ, ◌<◌, Bool, true, false, if◌then◌else◌, List, [], ◌∷◌, ◌++◌, length, map, Result, Ok, Err}
use Rattle.std.specs.List.{All}
use Rattle.std.specs.Global.{Vec}
use Rattle.vx_mask.specs.Mask.{has, only, union, without}
use Rattle.vx_core.specs.declared.stage.Stage.{Stage}
use Rattle.vx_core.specs.declared.stage.Phase.TheVariants.{Dead}
use Rattle.vx_core.specs.Plexes.{put_in, set_on}
use Rattle.vx_piece.specs.Seen.{Seen}
use Rattle.vx_runs.specs.Run.{run_sectors}
use Rattle.vx_marks.specs.Log.{KeepsLog, MarkHasCause}
use Rattle.vx_marks.specs.declared.marker.MarkFault.{MarkFault}
use Rattle.vx_marks.specs.declared.marker.MarkFault.TheVariants.{Failed, PowerLost, Busy}
use Rattle.vx_pages.specs.declared.local_piece.LocalPiece.{Ghosts}
use Rattle.vx_pages.specs.Items.{EachItem, item_at}
use Rattle.vx_pages.specs.Setting.{IsMapSet}
use Rattle.vx_cell.specs.Changes.{CellSeen, HasRoom}
use Rattle.vx_volume.specs.declared.volume.Volume.{Volume}
use Rattle.vx_volume.specs.Volume.{VolumeSeen, cell_at, no_cell}

-- ---- a map that is free

-- the map is no plex's and no relation's in the region, which is logged
pub record IsFreeOf (map : ℕ) (s : Stage) : Type 0 where
  pub on : has s.on map ≡ false
  pub off : has s.off map ≡ false
  pub snaps : has s.snaps map ≡ false
  pub logged : s.logged ≡ true

-- the volume has a log, of which the map is free in each region; it is not that of the dirty bit
pub record IsFreeIn (map : ℕ) (v : VolumeSeen) : Type 0 where
  pub there : v.log.there ≡ true
  pub low : map < 30
  pub each : (r : ℕ) → r < length v.cells → IsFreeOf map (cell_at v r).stage

-- ---- a map is set

-- the marks with that of a map, or without it
abbrev pub with_mark : ℕ → Bool → ℕ → ℕ
with_mark map on bits = if on then union bits (only map) else without bits (only map)

-- the power was lost
abbrev pub is_lost : {T : Type 0} → Result T MarkFault → Bool
is_lost (Ok value) = false
is_lost (Err (Failed copy device)) = false
is_lost (Err PowerLost) = true
is_lost (Err Busy) = false

-- The cell's mark of the map is there or not, and its others are as they were. It is killed where the power was lost.
abbrev pub IsRemarked : (map : ℕ) (lost on : Bool) → CellSeen → CellSeen → Type 0
IsRemarked map lost on old new =
    new ≡ record old {
      stage = record old.stage {
        bits = with_mark map on old.stage.bits;
        phase = if lost then Dead else old.stage.phase;
      };
    }

-- The bits of the map are set in the log, and each cell has of them what the log claims then.
pub record SetsMap (map : ℕ) (bits : ℕ → Bool) (result : Result (Unit {0}) MarkFault) (old new : VolumeSeen) : Type 0 where
  pub set : IsMapSet map bits result old.log new.log
  pub kept : KeepsLog old.log new.log
  pub cause : MarkHasCause old.log new.log result
  pub cells : EachItem no_cell (λ r. IsRemarked map (is_lost result) (new.log.claims r map)) old.cells new.cells
  pub same : new ≡ record old { cells = new.cells; log = new.log }

-- each region's mark of the map is what the log claims
abbrev pub IsKnownMap : ℕ → VolumeSeen → Type 0
IsKnownMap map v = (r : ℕ) → r < length v.cells → v.log.claims r map ≡ has (cell_at v r).stage.bits map

-- a region's is not
abbrev pub HasUnknownMark : ℕ → VolumeSeen → Type 0
HasUnknownMark map v = (r : ℕ) × (r < length v.cells) × (v.log.claims r map ≢ has (cell_at v r).stage.bits map)

-- ---- a plex is put in

-- each cell has room for one plex more
abbrev pub HaveRoom : {P : Type 0} {ghosts : Ghosts P} → Volume P ghosts → Type 0
HaveRoom volume = All HasRoom volume.cells.items

-- the pieces of a plex, region by region
abbrev pub runs_seen : {P : Type 0} → (P → Seen) → List (Vec P) → List (List Seen)
runs_seen seen runs = map (λ (run : Vec _). map seen run.items) runs

-- there are pieces for each region, as many sectors as it has blocks, and the region is marked for the plex
pub record IsPlexFor (map : ℕ) (runs : List (List Seen)) (v : VolumeSeen) : Type 0 where
  pub count : length runs ≡ length v.cells
  pub cover : (r : ℕ) → r < length v.cells → run_sectors (item_at [] runs r) ≡ (cell_at v r).size
  pub marked : (r : ℕ) → r < length v.cells → has (cell_at v r).stage.bits map ≡ true

-- the cell has one plex more, of these pieces, which is on
abbrev pub GetsPlex : (map : ℕ) → List Seen → CellSeen → CellSeen → Type 0
GetsPlex map pieces old new = new ≡ record old { stage = record old.stage { on = union old.stage.on (only map) }; plexes = old.plexes ++ record { map = map; pieces = pieces } ∷ [] }

-- a plex comes, and then goes on
abbrev pub put_on : Stage → ℕ → Stage
put_on s map = set_on (put_in s map) map

-- a cell is given it so
abbrev pub HasGot : (map : ℕ) → List Seen → CellSeen → CellSeen → Type 0
HasGot map pieces old new = new ≡ record old { stage = put_on old.stage map; plexes = old.plexes ++ record { map = map; pieces = pieces } ∷ [] }

-- each cell has one plex more, and nothing else has changed
pub record PutsPlex (map : ℕ) (runs : List (List Seen)) (old new : VolumeSeen) : Type 0 where
  pub cells : EachItem no_cell (λ r. GetsPlex map (item_at [] runs r)) old.cells new.cells
  pub same : new ≡ record old { cells = new.cells }
