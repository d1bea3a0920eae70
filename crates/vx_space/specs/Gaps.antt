-- The runs of a disk between subdisks that rise by their first sectors.
use Rattle.std.specs.Prelude.{ℕ, ◌+◌, max, nat_lt, ◌^◌, Bool, if◌then◌else◌, List, [], ◌∷◌, ◌++◌}
use Rattle.std.specs.Str.{bytes_eq}
use Rattle.vx_config_parts.specs.declared.disk.Disk.{Disk}
use Rattle.vx_config_parts.specs.declared.subdisk.Subdisk.{Subdisk}
use Rattle.vx_space.specs.declared.extent.Extent.{Extent}
use Rattle.vx_space.specs.Extents.{between}

-- the runs from a sector on, up to the end of the public region
abbrev pub gaps : Disk → ℕ → List Subdisk → List Extent
gaps d at [] = between d.name at d.publen
gaps d at (s ∷ ss) = if bytes_eq s.disk d.name then between d.name at s.off ++ gaps d (max at (s.off + s.len)) ss else gaps d at ss

-- those of several disks
abbrev pub all_gaps : List Subdisk → List Disk → List Extent
all_gaps ss [] = []
all_gaps ss (d ∷ ds) = gaps d 0 ss ++ all_gaps ss ds

-- the subdisk ends in the numbers that a field holds
abbrev pub ends_in : Subdisk → Bool
ends_in s = nat_lt (s.off + s.len) (2 ^ 64)
