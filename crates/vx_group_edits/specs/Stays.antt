-- A volume that an edited configuration records still, as it was.
use Rattle.std.specs.Prelude.{◌≡◌, ◌⊎◌, ◌==◌, ℕ, Bool, true, false, Contains}
use Rattle.std.specs.List.{list_any}
use Rattle.vx_base.specs.Named.{Word}
use Rattle.vx_mask.specs.Mask.{has}
use Rattle.vx_config_parts.specs.declared.plex.Plex.{Plex}
use Rattle.vx_config_parts.specs.declared.vol.Vol.{Vol}
use Rattle.vx_config_parts.specs.Objects.{refers}
use Rattle.vx_layout.specs.declared.place.Place.{Place}
use Rattle.vx_objects.specs.declared.config.Config.{Config}
use Rattle.vx_image.specs.Own.{IsOfVolume}
use Rattle.vx_image.specs.UsedPlexes.{IsVolOf}
use Rattle.vx_volume_laws.specs.Keeping.{KeepsVolume, LiesStill}

-- the configuration has a disk in the slot
abbrev pub has_disk_in : Config → ℕ → Bool
has_disk_in c slot = list_any (λ d. d.slot == slot) c.disks

-- a slot whose disk is good now was good before, or the old configuration has no disk in it
abbrev pub AreFewer : Config → ℕ → ℕ → Type 0
AreFewer c good good' = (slot : ℕ) → has good' slot ≡ true → (has good slot ≡ true) ⊎ (has_disk_in c slot ≡ false)

-- the plex is one of the volume in the new configuration, and lies where it lay
pub record StaysPlex (c c' : Config) (vol : Word) (p : Plex) : Type 0 where
  pub there : Contains c'.plexes p
  pub own : refers p.vol vol ≡ true
  pub lies : LiesStill c c' p p

-- The new configuration records the volume with its name and state, and keeps it. Each of its plexes stays, of data or of its log, in
-- whatever state and on whatever disks. It has no sectors that it had not, and on disks alone that were good before, if they are now.
pub record StaysRecorded (c : Config) (good : ℕ) (v : Vol) (c' : Config) (good' : ℕ) : Type 0 where
  pub now : Vol
  pub recorded : IsVolOf c' now
  pub name : now.name ≡ v.name
  pub state : now.state ≡ v.state
  pub keeps : KeepsVolume c good v false c' good' now
  pub plexes : (p : Plex) → Contains c.plexes p → refers p.vol v.name ≡ true → StaysPlex c c' now.name p
  pub places : (place : Place) → IsOfVolume c' now.name place → IsOfVolume c v.name place
  pub were_good : (place : Place) → IsOfVolume c v.name place → has good' place.disk ≡ true → has good place.disk ≡ true

-- each volume of a configuration that is one of these stays recorded in the other configuration, whatever disks have failed since
abbrev pub EachStays : (Vol → Type 0) → Config → Config → Type 0
EachStays These c c' = (v : Vol) → IsVolOf c v → These v → (good good' : ℕ) → AreFewer c good good' → StaysRecorded c good v c' good'
