-- The good disks of a group, by name.
use Rattle.std.specs.Prelude.{◌≡◌, ℕ, Bool, true, ◌&&◌, List, [], ◌∷◌}
use Rattle.std.specs.List.{list_any}
use Rattle.vx_mask.specs.Mask.{has}
use Rattle.vx_config_parts.specs.declared.disk.Disk.{Disk}
use Rattle.vx_config_parts.specs.Objects.{comes_before}
use Rattle.vx_objects.specs.declared.config.Config.{Config}

-- the disk's slot is in the mask
abbrev pub is_good : ℕ → Disk → Bool
is_good good d = has good d.slot

abbrev pub next_is_later : Disk → List Disk → Bool
next_is_later d [] = true
next_is_later d (e ∷ es) = comes_before d.name e.name

-- the name of each comes before that of the next
abbrev pub names_rise : List Disk → Bool
names_rise [] = true
names_rise (d ∷ ds) = next_is_later d ds && names_rise ds

-- the good disks of the configuration by name
pub record AreGoodDisks (c : Config) (good : ℕ) (disks : List Disk) : Type 0 where
  -- whatever is asked of a disk: one of these answers it where a good disk of the configuration does
  pub there : (test : Disk → Bool) → list_any test disks ≡ list_any (λ d. is_good good d && test d) c.disks
  pub order : names_rise disks ≡ true
