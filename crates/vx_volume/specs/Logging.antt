-- A volume of one plex is given another log: a new one in place of none, or none in place of its own.
use Rattle.std.specs.Prelude.{◌≡◌, ℕ, ◌<◌, true, false, List, [], ◌∷◌, length}
use Rattle.vx_mask.specs.Mask.{has}
use Rattle.vx_piece.specs.Seen.{Seen}
use Rattle.vx_marks.specs.Log.{LogSeen}
use Rattle.vx_pages.specs.Items.{EachItem}
use Rattle.vx_cell.specs.Changes.{CellSeen, IsRenewed}
use Rattle.vx_cell.specs.Region.{Tells, marks_or}
use Rattle.vx_volume.specs.Volume.{VolumeSeen, cell_at, no_cell}

-- ---- one plex

-- the region has one plex, which has this map and is on; no other map is that of a plex or of a relation
pub record IsAloneIn (map : ℕ) (c : CellSeen) : Type 0 where
  pub pieces : List Seen
  pub plexes : c.plexes ≡ record { map = map; pieces = pieces } ∷ []
  pub on : has c.stage.on map ≡ true
  pub others : (k : ℕ) → has c.stage.on k ≡ true → k ≡ map
  pub off : (k : ℕ) → has c.stage.off k ≡ false
  pub snaps : (k : ℕ) → has c.stage.snaps k ≡ false

-- so it is in each region
abbrev pub IsAlone : ℕ → VolumeSeen → Type 0
IsAlone map v = (r : ℕ) → r < length v.cells → IsAloneIn map (cell_at v r)

-- ---- a log

-- there is no log, or one that has the regions of the volume and the map of the dirty bit; it claims nothing of them, and no page is out
pub record IsNewLogFor (log : LogSeen) (v : VolumeSeen) : Type 0 where
  pub claims : (r k : ℕ) → r < length v.cells → log.claims r k ≡ false
  pub own : log.lent ≡ false
  pub known : log.there ≡ true → (r : ℕ) → r < length v.cells → log.has_region r ≡ true
  pub maps : log.there ≡ true → 30 < log.maps

-- its copies tell that they show nothing of the regions, and nothing is loose
pub record ShowsNothing (log : LogSeen) (v : VolumeSeen) : Type 0 where
  pub told : Tells log.told
  pub shows : (r n k : ℕ) → r < length v.cells → (marks_or log.told r).shows n k ≡ false
  pub loose : (r k : ℕ) → r < length v.cells → (marks_or log.told r).loose k ≡ false

-- ---- the change

-- the volume has this log, and each region its one plex, as number 0, with nothing marked
pub record ChangesLog (log : LogSeen) (old new : VolumeSeen) : Type 0 where
  pub cells : EachItem no_cell (λ r. IsRenewed log.there) old.cells new.cells
  pub same : new ≡ record old { cells = new.cells; log = log }
