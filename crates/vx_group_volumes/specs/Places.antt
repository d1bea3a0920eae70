-- Which sectors of devices a volume of a configuration has, and when another configuration says the same of them.
use Rattle.std.specs.Prelude.{◌≡◌, ℕ, ◌+◌, true, List, Contains, slice_index}
use Rattle.vx_base.specs.Named.{Word}
use Rattle.vx_piece.specs.Seen.{Seen}
use Rattle.vx_mask.specs.Mask.{has}
use Rattle.vx_layout.specs.declared.place.Place.{Place}
use Rattle.vx_pages.specs.declared.local_piece.LocalPiece.{Ghosts}
use Rattle.vx_config_parts.specs.declared.disk.Disk.{Disk}
use Rattle.vx_config_parts.specs.declared.plex.Plex.{Plex}
use Rattle.vx_config_parts.specs.declared.vol.Vol.{Vol}
use Rattle.vx_config_parts.specs.Objects.{refers}
use Rattle.vx_objects.specs.declared.config.Config.{Config}
use Rattle.vx_image.specs.Own.{IsOfVolume}
use Rattle.vx_lending.specs.FormLaws.{AreNumbered, good_disks}
use Rattle.vx_volume_laws.specs.Keeping.{LiesStill}
use Rattle.vx_lending.specs.declared.public.Running.{Running}
use Rattle.vx_group_volumes.specs.Runs.{Opening, RunsIn}

-- one of these disks has the slot
abbrev pub IsSlotOf : List Disk → ℕ → Type 0
IsSlotOf disks slot = (d : Disk) × Contains disks d × (d.slot ≡ slot)

-- The volume of the configuration has the sector of the device: a plex of it lies there, on one of these disks, and the slot of
-- this disk has the number of the device. Public regions begin at sector 2,048.
pub record IsOwnSector (c : Config) (vol : Word) (disks : List Disk) (numbers : List ℕ) (device k : ℕ) : Type 0 where
  pub slot : ℕ
  pub sector : ℕ
  pub place_is : k ≡ 2048 + sector
  pub number_is : slice_index numbers slot ≡ device
  pub of : IsOfVolume c vol (record { disk = slot; sector = sector })
  pub on : IsSlotOf disks slot

-- the disks that were good as the volume was opened
abbrev pub disks_at : Opening → List Disk
disks_at opening = good_disks opening.good opening.config.disks

-- ---- plexes that lie where they lay

-- a plex of the volume in the other configuration has the name of this plex, and lies where it lies
pub record IsKeptPlex (c0 c : Config) (vol : Word) (p : Plex) : Type 0 where
  pub plex : Plex
  pub there : Contains c.plexes plex
  pub own : refers plex.vol vol ≡ true
  pub name : plex.name ≡ p.name
  pub lies : LiesStill c0 c p plex

-- each plex of the volume, of data or of its log, in whatever state and on whatever disks, is one of the volume in the other
-- configuration, and lies where it lay
abbrev pub KeepsPlaces : Config → Word → Config → Word → Type 0
KeepsPlaces c0 vol0 c vol = (p : Plex) → Contains c0.plexes p → refers p.vol vol0 ≡ true → IsKeptPlex c0 c vol p

-- A volume of the configuration runs, its plexes lie where they lay as it was opened, and the disks that were good then have numbers. Of
-- its sectors then, those whose disk is good now had a good one.
pub record RunsInPlace {P : Type 0} {ghosts : Ghosts P} (see : P → Seen) (config : Config) (good : ℕ) (numbers : List ℕ) (vol : Vol) (running : Running P ghosts) : Type 0 where
  pub runs : RunsIn see config good numbers vol running
  pub places : KeepsPlaces runs.opening.config runs.opening.vol.name config vol.name
  pub numbered : AreNumbered numbers runs.opening.good runs.opening.config.disks
  pub were_good : (place : Place) → IsOfVolume runs.opening.config runs.opening.vol.name place → has good place.disk ≡ true → has runs.opening.good place.disk ≡ true
