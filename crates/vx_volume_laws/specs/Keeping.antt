-- When a configuration still says of a volume what it said as the volume was opened.
use Rattle.std.specs.Prelude.{◌≡◌, ℕ, Bool, true, false, List, Contains}
use Rattle.std.specs.List.{AllZip, filter}
use Rattle.vx_base.specs.Named.{Word}
use Rattle.vx_mask.specs.Mask.{has}
use Rattle.vx_config_parts.specs.declared.plex.Plex.{Plex}
use Rattle.vx_config_parts.specs.declared.vol.Vol.{Vol}
use Rattle.vx_config_parts.specs.Objects.{is_data_plex_of, is_log_plex_of}
use Rattle.vx_objects.specs.declared.config.Config.{Config}
use Rattle.vx_image.specs.Lies.{columns_of}
use Rattle.vx_image.specs.Image.{is_available_state}
use Rattle.vx_image.specs.Bytes.{Sectors, image_of, is_active, is_held, map_or_zero, relation_maps}
use Rattle.vx_volume_laws.specs.Leaving.{AreNamedIn}
use Rattle.vx_image.specs.UsedPlexes.{is_used_state, used_logs}

-- the data plexes of a volume, in order
abbrev pub data_plexes : Config → Word → List Plex
data_plexes c vol = filter (is_data_plex_of vol) c.plexes

-- the plex lies where it lay
pub record LiesStill (c0 c : Config) (p q : Plex) : Type 0 where
  pub unit : q.unit ≡ p.unit
  pub columns : columns_of c q ≡ columns_of c0 p

-- The data plex has its name and map, and lies where it lay. Its state is one that is available just where it was, and where all
-- its disks are good now they were.
pub record KeepsPlex (c0 : Config) (good0 : ℕ) (c : Config) (good : ℕ) (p q : Plex) : Type 0 where
  pub name : q.name ≡ p.name
  pub map : map_or_zero q.map ≡ map_or_zero p.map
  pub lies : LiesStill c0 c p q
  pub available : is_available_state q.state ≡ is_available_state p.state
  pub held : is_held c good q ≡ true → is_held c0 good0 p ≡ true

-- the log plexes of a volume, in order
abbrev pub log_plexes : Config → Word → List Plex
log_plexes c vol = filter (is_log_plex_of vol) c.plexes

-- The log plex has its name, and lies where it lay. It is active now just where its state was one that is used.
pub record KeepsLogPlex (c0 : Config) (fresh : Bool) (c : Config) (p q : Plex) : Type 0 where
  pub name : q.name ≡ p.name
  pub lies : LiesStill c0 c p q
  pub used : is_active q.state ≡ is_used_state fresh p.state

-- The volume has its length, its regions, its DCO, its data plexes and its log plexes in their order, and its relations. Each log plex
-- that counts now is one of those that were used as it was opened. Disks may have failed since, and states may be others.
pub record KeepsVolume (c0 : Config) (good0 : ℕ) (v0 : Vol) (fresh : Bool) (c : Config) (good : ℕ) (v : Vol) : Type 0 where
  pub length_is : v.len ≡ v0.len
  pub region_is : v.region ≡ v0.region
  pub dco : v.dco ≡ v0.dco
  pub plexes : AllZip (KeepsPlex c0 good0 c good) (data_plexes c0 v0.name) (data_plexes c v.name)
  pub logs : (q : Plex) → Contains (used_logs v.dco c good false v.name) q → (p : Plex) × Contains (used_logs v0.dco c0 good0 fresh v0.name) p × LiesStill c0 c p q
  pub log_plexes_are : AllZip (KeepsLogPlex c0 fresh c) (log_plexes c0 v0.name) (log_plexes c v.name)
  pub relations : relation_maps c.snaps v.name ≡ relation_maps c0.snaps v0.name

-- ---- laws

-- A configuration keeps its own volumes, ..
abbrev pub EachVolumeKeepsItself : Type 0
EachVolumeKeepsItself = (c : Config) (good : ℕ) (v : Vol) → KeepsVolume c good v false c good v

-- .. what keeps a volume after another has kept it keeps it, ..
abbrev pub EachKeepingGoesOn : Type 0
EachKeepingGoesOn =
    (c0 : Config) (good0 : ℕ) (v0 : Vol) (fresh : Bool) (c : Config) (good : ℕ) (v : Vol) (c' : Config) (good' : ℕ) (v' : Vol) →
    KeepsVolume c0 good0 v0 fresh c good v → KeepsVolume c good v false c' good' v' → KeepsVolume c0 good0 v0 fresh c' good' v'

-- .. and the data plexes of its image have the names and maps that they had.
abbrev pub EachKeptVolumeIsNamed : Type 0
EachKeptVolumeIsNamed =
    (c0 : Config) (good0 : ℕ) (v0 : Vol) (fresh : Bool) (c : Config) (good : ℕ) (v : Vol) → KeepsVolume c0 good0 v0 fresh c good v →
    (bytes0 bytes : Sectors) → AreNamedIn (image_of c good bytes v).plexes (image_of c0 good0 bytes0 v0).plexes

-- ---- states that change

-- The plex is the same but for its state. A data plex of the volume is available just where it was, and a log plex is active just where
-- it was used.
pub record IsRestated (vol : Word) (fresh : Bool) (p q : Plex) : Type 0 where
  pub same : q ≡ record p { state = q.state }
  pub available : is_data_plex_of vol p ≡ true → is_available_state q.state ≡ is_available_state p.state
  pub active : is_log_plex_of vol p ≡ true → is_active q.state ≡ is_used_state fresh p.state

-- Of a configuration the states of plexes and of the volume have changed, and disks may have failed.
pub record ChangesStates (c0 : Config) (good0 : ℕ) (v0 : Vol) (fresh : Bool) (c : Config) (good : ℕ) (v : Vol) : Type 0 where
  pub vol : v ≡ record v0 { state = v.state }
  pub disks : c.disks ≡ c0.disks
  pub subdisks : c.subdisks ≡ c0.subdisks
  pub snaps : c.snaps ≡ c0.snaps
  pub plexes : AllZip (IsRestated v0.name fresh) c0.plexes c.plexes
  pub failed : (slot : ℕ) → has good slot ≡ true → has good0 slot ≡ true

-- Then it keeps the volume.
abbrev pub EachRestatedVolumeIsKept : Type 0
EachRestatedVolumeIsKept =
    (c0 : Config) (good0 : ℕ) (v0 : Vol) (fresh : Bool) (c : Config) (good : ℕ) (v : Vol) → ChangesStates c0 good0 v0 fresh c good v → KeepsVolume c0 good0 v0 fresh c good v
