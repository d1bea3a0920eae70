-- The data plex that a mirror of a volume is like, the map that the mirror gets, and what its records are.
use Rattle.std.specs.Prelude.{◌≡◌, ◌≢◌, ℕ, ◌<◌, ◌≤◌, true, Some, List, [], ◌∷◌, Contains}
use Rattle.vx_base.specs.Named.{Word}
use Rattle.vx_config_parts.specs.declared.object.Object.{Object}
use Rattle.vx_config_parts.specs.declared.object.Object.TheVariants.{PlexRecord}
use Rattle.vx_config_parts.specs.declared.plex.Plex.{Plex}
use Rattle.vx_config_parts.specs.declared.snap.Snap.{Snap}
use Rattle.vx_config_parts.specs.declared.state.PlexState.TheVariants as plex_state
use Rattle.vx_config_parts.specs.declared.vol.Vol.{Vol}
use Rattle.vx_config_parts.specs.Objects.{is_data_plex_of}
use Rattle.vx_objects.specs.declared.config.Config.{Config}
use Rattle.vx_new_volumes.specs.Mirrors.{map_number}
use Rattle.vx_group_edits.specs.OfVolume.{AreOf}
use Rattle.vx_group_edits.specs.Joins.{plexes_in}

-- the plex is a data plex of the volume, and none of them has a lower map
pub record IsLowestOf (c : Config) (vol : Word) (p : Plex) : Type 0 where
  pub there : Contains c.plexes p
  pub own : is_data_plex_of vol p ≡ true
  pub lowest : (q : Plex) → Contains c.plexes q → is_data_plex_of vol q ≡ true → map_number p.map ≤ map_number q.map

-- the map is one of 0 to 29, and no data plex of the volume and none of its relations has it
pub record IsFreeMapOf (c : Config) (vol : Word) (m : ℕ) : Type 0 where
  pub low : m < 30
  pub plexes : (p : Plex) → Contains c.plexes p → is_data_plex_of vol p ≡ true → p.map ≢ Some m
  pub snapshots : (s : Snap) → Contains c.snaps s → s.vol ≡ vol → s.map ≢ m
  pub originals : (s : Snap) → Contains c.snaps s → s.of ≡ vol → s.ofmap ≢ m

-- The records are those of the volume alone, and of them one is a plex, first: a data plex of the volume that is ACTIVE and has this map.
pub record IsMirrorAt (v : Vol) (m : ℕ) (added : List Object) (p : Plex) : Type 0 where
  pub first : (rest : List Object) × (added ≡ PlexRecord p ∷ rest)
  pub plexes : plexes_in added ≡ p ∷ []
  pub of : AreOf v.name added
  pub own : is_data_plex_of v.name p ≡ true
  pub state : p.state ≡ plex_state.Active
  pub map : p.map ≡ Some m
