-- Which sectors are free: those of the public regions of good disks that are in no subdisk.
use Rattle.std.specs.Prelude.{◌≡◌, ℕ, ◌+◌, nat_le, nat_lt, Bool, true, ◌&&◌, not, List}
use Rattle.std.specs.List.{list_any}
use Rattle.std.specs.Str.{bytes_eq}
use Rattle.vx_base.specs.Named.{Word}
use Rattle.vx_config_parts.specs.declared.disk.Disk.{Disk}
use Rattle.vx_config_parts.specs.declared.subdisk.Subdisk.{Subdisk}
use Rattle.vx_objects.specs.declared.config.Config.{Config}
use Rattle.vx_space.specs.declared.extent.Extent.{Extent}
use Rattle.vx_space.specs.Extents.{is_listed, are_in_order}
use Rattle.vx_space.specs.Disks.{is_good}

-- the disk has that name, and the sector in its public region
abbrev pub has_public : Word → ℕ → Disk → Bool
has_public disk x d = bytes_eq d.name disk && nat_lt x d.publen

-- the subdisk has the sector of the disk
abbrev pub covers : Word → ℕ → Subdisk → Bool
covers disk x s = bytes_eq s.disk disk && (nat_le s.off x && nat_lt x (s.off + s.len))

-- a sector of the public region of a good disk is free where it is in no subdisk
abbrev pub is_free : Config → ℕ → Word → ℕ → Bool
is_free c good disk x = list_any (λ d. is_good good d && has_public disk x d) c.disks && not (list_any (covers disk x) c.subdisks)

-- the extents have just the free sectors; disks rise by name, extents of a disk by start, and no two touch
pub record AreFree (c : Config) (good : ℕ) (free : List Extent) : Type 0 where
  pub sectors : (disk : Word) (x : ℕ) → is_listed free disk x ≡ is_free c good disk x
  pub order : are_in_order free ≡ true

-- a configuration and a mask have one list of free extents
abbrev pub EachHasOneFreeList : Type 0
EachHasOneFreeList = (c : Config) (good : ℕ) (es fs : List Extent) → AreFree c good es → AreFree c good fs → es ≡ fs
