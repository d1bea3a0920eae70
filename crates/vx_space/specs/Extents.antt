-- Runs of sectors of disks, and what a caller takes of them.
use Rattle.std.specs.Prelude.{ℕ, ◌+◌, ◌-◌, min, nat_le, nat_lt, Bool, true, ◌&&◌, ◌||◌, if◌then◌else◌, List, [], ◌∷◌, ◌++◌}
use Rattle.std.specs.List.{list_any}
use Rattle.std.specs.Str.{bytes_eq}
use Rattle.vx_base.specs.Named.{Word}
use Rattle.vx_config_parts.specs.Objects.{comes_before}
use Rattle.vx_space.specs.declared.extent.Extent.{Extent}

-- the extent has the sector of the disk
abbrev pub has_sector : Word → ℕ → Extent → Bool
has_sector disk x e = bytes_eq e.disk disk && (nat_le e.start x && nat_lt x (e.start + e.count))

-- the sector of the disk is in one of the extents
abbrev pub is_listed : List Extent → Word → ℕ → Bool
is_listed es disk x = list_any (has_sector disk x) es

-- the second lies on a later disk, or on the same behind the end of the first, which it does not touch
abbrev pub comes_behind : Extent → Extent → Bool
comes_behind e f = comes_before e.disk f.disk || (bytes_eq e.disk f.disk && nat_lt (e.start + e.count) f.start)

abbrev pub next_is_behind : Extent → List Extent → Bool
next_is_behind e [] = true
next_is_behind e (f ∷ fs) = comes_behind e f

-- each extent has a sector, and the next comes behind it
abbrev pub are_in_order : List Extent → Bool
are_in_order [] = true
are_in_order (e ∷ es) = nat_lt 0 e.count && (next_is_behind e es && are_in_order es)

-- the sectors of a disk in these extents
abbrev pub total : Word → List Extent → ℕ
total disk [] = 0
total disk (e ∷ es) = (if bytes_eq e.disk disk then e.count else 0) + total disk es

-- the sectors of a disk from one on up to another, as an extent where there are any
abbrev pub between : Word → ℕ → ℕ → List Extent
between disk from to = if nat_lt from to then record { disk = disk; start = from; count = to - from } ∷ [] else []

-- the first so many sectors of a disk: its extents in their order, the last one in part
abbrev pub taken : Word → ℕ → List Extent → List Extent
taken disk count [] = []
taken disk count (e ∷ es) =
    if bytes_eq e.disk disk
    then between disk e.start (e.start + min count e.count) ++ taken disk (count - min count e.count) es
    else taken disk count es

-- what stays: the others
abbrev pub left : Word → ℕ → List Extent → List Extent
left disk count [] = []
left disk count (e ∷ es) =
    if bytes_eq e.disk disk
    then between disk (e.start + min count e.count) (e.start + e.count) ++ left disk (count - min count e.count) es
    else e ∷ left disk count es
