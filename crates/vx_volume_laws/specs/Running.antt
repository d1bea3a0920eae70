-- When a started volume of the code runs as a volume of the world.
use Rattle.std.specs.Prelude.{◌≡◌, ℕ, ◌/◌, ◌<◌, ◌==◌, nat_lt, true, if◌then◌else◌, List, length, Contains}
use Rattle.std.specs.List.{filter}
use Rattle.vx_life.specs.Entry.{Entry, candidates_of}
use Rattle.vx_core.specs.declared.stage.Phase.TheVariants.{Unsettled}
use Rattle.vx_core.specs.History.{NoCall}
use Rattle.vx_core.specs.Region.{Fixed, RegionState}
use Rattle.vx_core_laws.specs.Course.{IsKeptState}
use Rattle.vx_core_laws.specs.Tracking.{IsOther, IsSeen}
use Rattle.vx_cell.specs.Plexes.{holds}
use Rattle.vx_cell.specs.Region.{state_of}
use Rattle.vx_volume.specs.Laws.{AreTold}
use Rattle.vx_volume.specs.Volume.{VolumeSeen, cell_at, region_at}
use Rattle.vx_moments.specs.World.{Volume}
use Rattle.vx_image.specs.Image.{PlexImage}
use Rattle.vx_volume_laws.specs.Regions.{Regions}
use Rattle.vx_volume_laws.specs.Tracks.{GoesAt}
use Rattle.vx_moments.specs.Tracks.{was_unsettled}

-- those of the entries that are of a region, in their order
abbrev pub entries_in : ℕ → List Entry → List Entry
entries_in r es = filter (λ (e : Entry). e.part.region == r) es

-- a region of the volume, with the entries that it has in these
abbrev pub state_at : VolumeSeen → (ℕ → Fixed) → List Entry → Regions
state_at v fixed entries r = state_of (region_at v r) (fixed r) (entries_in r entries) NoCall (cell_at v r).number

-- all regions of the volume by their numbers, and behind the last one the first again
abbrev pub states_of : VolumeSeen → (ℕ → Fixed) → List Entry → Regions
states_of v fixed entries r = if nat_lt r (length v.cells) then state_at v fixed entries r else state_at v fixed entries 0

-- A region runs as that of a volume of the world: it is kept for its history, and the life, the tracks of these plexes and the
-- dirty regions of the volume go with it. Where it is unsettled, it has a torn entry in this life or began it dirty.
pub record RegionRunsAs (plexes : List PlexImage) (s : RegionState) (r : ℕ) (w : Volume) : Type 0 where
  pub kept : IsKeptState s
  pub here : s.around.fixed.region ≡ r
  pub candidates : (b : ℕ) → b < w.length → b / w.region ≡ r → w.life.candidates b ≡ candidates_of s.around.fixed.first s.around.entries b
  pub last : w.life.last r ≡ s.around.last
  pub tracks : (p : PlexImage) → Contains plexes p → GoesAt s p.map (w.tracks p.name) r
  pub dirty : IsSeen s 30 → w.dirty r ≡ true
  pub unsettled : s.stage.phase ≡ Unsettled → was_unsettled w r ≡ true

-- The volume of the code runs as this one of the world: it has its length, regions and epoch, and some blocks; its devices tell
-- what they hold, and each of its regions runs so, with the entries that the life has of it. What is fixed of a region is of its
-- plexes, and of the copies of the log.
pub record RunsAsVolume (plexes : List PlexImage) (v : VolumeSeen) (w : Volume) : Type 0 where
  pub fixed : ℕ → Fixed
  pub some : 0 < v.length
  pub sized : 0 < v.region
  pub length_is : w.length ≡ v.length
  pub region_is : w.region ≡ v.region
  pub epoch : (r : ℕ) → r < length v.cells → (cell_at v r).epoch ≡ w.life.epoch
  pub told : AreTold v
  pub held : (r k : ℕ) → r < length v.cells → (fixed r).held k ≡ holds (cell_at v r).plexes k
  pub copies : (r : ℕ) → r < length v.cells → (fixed r).copies ≡ v.log.copies
  pub each : (r : ℕ) → r < length v.cells → RegionRunsAs plexes (state_at v fixed w.life.entries r) r w

-- in each region the tracks are sure of those plexes alone that are not written to
abbrev pub IsSureOfOthers : List PlexImage → VolumeSeen → Volume → Type 0
IsSureOfOthers plexes v w = (p : PlexImage) → Contains plexes p → (r : ℕ) → r < length v.cells → (w.tracks p.name).sure r ≡ true → IsOther (cell_at v r).stage p.map
