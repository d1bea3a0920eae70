-- The world that a script runs in.
use Rattle.std.specs.Prelude.{ℕ, Bool, Option, List}
use Rattle.vx_base.specs.Blocks.{Contents}
use Rattle.vx_base.specs.Named.{Word}
use Rattle.vx_life.specs.Life.{Life}
use Rattle.vx_objects.specs.declared.config.Config.{Config}

pub record Device : Type 0 where
  pub sectors : ℕ
  pub contents : Contents

-- where a started volume lies: on a whole device, or on plexes of the group, of data and of its log
pub data Lies : Type 0 where
  OnDevice : (device : Word) → Lies
  OnPlexes : (plexes : List Word) → Lies

-- the regions in which a plex or a snapshot surely differs, and those in which it may differ
pub record Track : Type 0 where
  pub sure : ℕ → Bool
  pub possible : ℕ → Bool

-- A started volume. Where it lies on a whole device, the bytes of that mean nothing.
pub record Volume : Type 0 where
  pub lies : Lies
  pub length : ℕ
  pub region : ℕ
  pub life : Life
  -- the regions that a log may show dirty
  pub dirty : ℕ → Bool
  -- the same as the life began
  pub dirty_began : ℕ → Bool
  -- by the name of a data plex, or of a snapshot's relation
  pub tracks : Word → Track
  -- the devices whose count of faults rose in this life
  pub failed : Word → Bool
  -- its bytes were sound as its life began; else nothing is known of what it reads
  pub sound : Bool

-- a disk of the imported group
pub record Member : Type 0 where
  -- the device that it lies on
  pub device : Word
  -- its name in the group
  pub disk : Word
  pub slot : ℕ

-- the imported group: its configuration, the mask of its good slots, its disks, and the number of its newest commit
pub record Group : Type 0 where
  pub config : Config
  pub good : ℕ
  pub members : List Member
  pub sequence : ℕ

-- all devices, those that are held too
pub record World : Type 0 where
  pub devices : Word → Option Device
  pub volumes : Word → Option Volume
  pub group : Option Group
