-- The devices, by their numbers, that the plexes of a volume lie on.
use Rattle.std.specs.Prelude.{◌≡◌, ℕ, true, List, Contains, slice_index}
use Rattle.vx_base.specs.Counts.{Rose}
use Rattle.vx_base.specs.Named.{Word}
use Rattle.vx_piece.specs.Seen.{Seen}
use Rattle.vx_carve.specs.Together.{faults_on}
use Rattle.vx_layout.specs.declared.strip.Strip.{Strip}
use Rattle.vx_config_parts.specs.declared.disk.Disk.{Disk}
use Rattle.vx_config_parts.specs.declared.plex.Plex.{Plex}
use Rattle.vx_config_parts.specs.Objects.{refers, is_data_plex_of, is_log_plex_of}
use Rattle.vx_objects.specs.declared.config.Config.{Config}
use Rattle.vx_image.specs.Lies.{strips_of}
use Rattle.vx_group_volumes.specs.Places.{IsSlotOf}

-- a strip of the plex lies in the slot of one of these disks, and the device of the slot has this number
pub record LiesOnDevice (c : Config) (disks : List Disk) (numbers : List ℕ) (p : Plex) (device : ℕ) : Type 0 where
  pub slot : ℕ
  pub on : IsSlotOf disks slot
  pub number_is : slice_index numbers slot ≡ device
  pub strip : Strip
  pub there : Contains (strips_of c p) strip
  pub disk_is : strip.disk ≡ slot

-- a plex of the volume, of data or of its log, lies on the device
pub record IsOwnDevice (c : Config) (vol : Word) (disks : List Disk) (numbers : List ℕ) (device : ℕ) : Type 0 where
  pub plex : Plex
  pub there : Contains c.plexes plex
  pub own : refers plex.vol vol ≡ true
  pub lies : LiesOnDevice c disks numbers plex device

-- a device of the plex has failed: its count rose among these pieces
pub record HasFailedOn (c : Config) (disks : List Disk) (numbers : List ℕ) (old new : List Seen) (p : Plex) : Type 0 where
  pub device : ℕ
  pub lies : LiesOnDevice c disks numbers p device
  pub rose : Rose (faults_on device old) (faults_on device new)

-- so has one of the data plex of this name
pub record DataHasFailed (c : Config) (vol : Word) (disks : List Disk) (numbers : List ℕ) (old new : List Seen) (name : Word) : Type 0 where
  pub plex : Plex
  pub there : Contains c.plexes plex
  pub data_is : is_data_plex_of vol plex ≡ true
  pub name_is : plex.name ≡ name
  pub failed : HasFailedOn c disks numbers old new plex

-- so has one of some log plex
pub record LogHasFailed (c : Config) (vol : Word) (disks : List Disk) (numbers : List ℕ) (old new : List Seen) : Type 0 where
  pub plex : Plex
  pub there : Contains c.plexes plex
  pub log_is : is_log_plex_of vol plex ≡ true
  pub failed : HasFailedOn c disks numbers old new plex
