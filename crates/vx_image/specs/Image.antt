-- A volume as bytes are: what its data plexes hold, and what the copies of its log mark. Nothing here asks whether the volume
-- is started, nor where its blocks lie.
use Rattle.std.specs.Prelude.{ℕ, Bool, true, false, not, ◌&&◌, ◌||◌, ◌==◌, List, length}
use Rattle.std.specs.List.{list_all, list_any}
use Rattle.vx_base.specs.Blocks.{Contents}
use Rattle.vx_base.specs.Named.{Word}
use Rattle.vx_block.specs.Regions.{region_count}
use Rattle.vx_config_parts.specs.declared.state.VolState.{VolState}
use Rattle.vx_config_parts.specs.declared.state.VolState.TheVariants as vol
use Rattle.vx_config_parts.specs.declared.state.PlexState.{PlexState}
use Rattle.vx_config_parts.specs.declared.state.PlexState.TheVariants as plex

-- a data plex: its name and map, its state, whether all its disks are good, and what it holds of each block of the volume
pub record PlexImage : Type 0 where
  pub name : Word
  pub map : ℕ
  pub state : PlexState
  pub held : Bool
  pub values : Contents

-- a copy of the log: whether it marks, in a region, a map
abbrev pub LogCopy : Type 0
LogCopy = ℕ → ℕ → Bool

-- A volume as its bytes are: its state, its blocks and those of a region, its data plexes, the maps of its relations, and the
-- copies of its log that count. A volume without a log counts as having one copy that marks nothing.
pub record Image : Type 0 where
  pub state : VolState
  pub length : ℕ
  pub region : ℕ
  pub plexes : List PlexImage
  pub snaps : List ℕ
  pub copies : List LogCopy

-- the number of its regions
abbrev pub regions_of : Image → ℕ
regions_of v = region_count v.length v.region

-- ---- states of the volume

-- the volume was started as its bytes were left: it is recorded so, or an import found it so
abbrev pub WasStarted : VolState → Type 0
WasStarted vol.Empty = ⊥
WasStarted vol.Clean = ⊥
WasStarted vol.Active = Unit {0}
WasStarted vol.NeedSync = Unit {0}
WasStarted vol.Sync = Unit {0}

-- the volume is not empty
abbrev pub IsFilled : VolState → Type 0
IsFilled vol.Empty = ⊥
IsFilled vol.Clean = Unit {0}
IsFilled vol.Active = Unit {0}
IsFilled vol.NeedSync = Unit {0}
IsFilled vol.Sync = Unit {0}

-- ---- plexes

-- a plex in this state is read and written
abbrev pub is_available_state : PlexState → Bool
is_available_state plex.Empty = true
is_available_state plex.Clean = true
is_available_state plex.Active = true
is_available_state plex.IoFail = true
is_available_state plex.Stale = false
is_available_state plex.SnapAtt = true
is_available_state plex.SnapDone = true
is_available_state plex.DcoSnp = false

-- the plex is held, and in such a state
abbrev pub is_available : PlexImage → Bool
is_available p = p.held && is_available_state p.state

-- the plex is stale: a data plex has no other state that is not available
abbrev pub is_stale : PlexImage → Bool
is_stale p = not (is_available_state p.state)

-- ---- marks

-- every copy marks the map in the region
abbrev pub is_marked_by_all : Image → ℕ → ℕ → Bool
is_marked_by_all v r k = list_all (λ c. c r k) v.copies

-- some copy does
abbrev pub is_marked_by_some : Image → ℕ → ℕ → Bool
is_marked_by_some v r k = list_any (λ c. c r k) v.copies

-- some copy does not
abbrev pub is_unmarked_by_some : Image → ℕ → ℕ → Bool
is_unmarked_by_some v r k = list_any (λ c. not (c r k)) v.copies

-- no copy counts
abbrev pub has_no_copy : Image → Bool
has_no_copy v = length v.copies == 0

-- no copy counts, and there is one data plex
abbrev pub is_alone : Image → Bool
is_alone v = has_no_copy v && length v.plexes == 1

-- the plex is read in the region: it is available, and some copy shows it unmarked, or it is the only one and no copy counts
abbrev pub is_read : Image → ℕ → PlexImage → Bool
is_read v r p = is_available p && (is_unmarked_by_some v r p.map || is_alone v)
