-- Lists of disks by their names, and the free sectors on them.
use Rattle.std.specs.Prelude.{ℕ, ◌+◌, max, nat_le, Bool, not, Option, List, [], ◌∷◌}
use Rattle.std.specs.List.{list_any, filter, find}
use Rattle.std.specs.Str.{bytes_eq}
use Rattle.vx_base.specs.Named.{Word}
use Rattle.vx_config_parts.specs.declared.disk.Disk.{Disk}
use Rattle.vx_space.specs.declared.extent.Extent.{Extent}
use Rattle.vx_space.specs.Extents.{total}

abbrev pub names_of : List Disk → List Word
names_of [] = []
names_of (d ∷ ds) = d.name ∷ names_of ds

-- the name is one of these
abbrev pub is_among : List Word → Word → Bool
is_among names name = list_any (λ n. bytes_eq n name) names

-- those of the disks that are among these names; all where no name is given
abbrev pub candidates : List Word → List Word → List Word
candidates [] disks = disks
candidates (n ∷ ns) disks = filter (is_among (n ∷ ns)) disks

-- the disks but those
abbrev pub without : List Word → List Word → List Word
without avoid disks = filter (λ d. not (is_among avoid d)) disks

-- the disks but that one
abbrev pub others : Word → List Word → List Word
others name disks = filter (λ d. not (bytes_eq d name)) disks

-- the free sectors of these disks together
abbrev pub total_on : List Word → List Extent → ℕ
total_on [] free = 0
total_on (d ∷ ds) free = total d free + total_on ds free

-- the free sectors of the one of these disks that has the most, 0 where there is none
abbrev pub largest_on : List Word → List Extent → ℕ
largest_on [] free = 0
largest_on (d ∷ ds) free = max (total d free) (largest_on ds free)

-- the first of these disks that has so many free sectors
abbrev pub first_with : ℕ → List Word → List Extent → Option Word
first_with need disks free = find (λ d. nat_le need (total d free)) disks
