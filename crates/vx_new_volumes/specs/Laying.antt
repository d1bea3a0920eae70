-- The subdisks of extents: on each disk their numbers rise.
use Rattle.std.specs.Prelude.{ℕ, ◌+◌, min, if◌then◌else◌, Option, Some, List, [], ◌∷◌, ◌++◌}
use Rattle.std.specs.Str.{bytes_eq}
use Rattle.vx_base.specs.Named.{Word}
use Rattle.vx_config_parts.specs.declared.object.Object.{Object}
use Rattle.vx_config_parts.specs.declared.object.Object.TheVariants.{SubdiskRecord}
use Rattle.vx_space.specs.declared.extent.Extent.{Extent}
use Rattle.vx_new_volumes.specs.declared.next.Next.{Next}
use Rattle.vx_new_volumes.specs.Naming.{and_then, next_name}

-- the number from which on the next subdisk of a disk is named
abbrev pub next_on : List Next → Word → ℕ
next_on [] disk = 1
next_on (n ∷ ns) disk = if bytes_eq n.disk disk then n.number else next_on ns disk

abbrev pub with_next : Word → ℕ → List Next → List Next
with_next disk number [] = record { disk = disk; number = number } ∷ []
with_next disk number (n ∷ ns) =
    if bytes_eq n.disk disk then record { disk = disk; number = number } ∷ ns else n ∷ with_next disk number ns

-- what was made of extents so far, and the numbers that come next
pub record Laid : Type 0 where
  pub objects : List Object
  pub nexts : List Next

-- the extent as a subdisk of a column, behind so many of its sectors
abbrev pub subdisk : Word → Word → ℕ → ℕ → Extent → Object
subdisk name plex col at e = SubdiskRecord (record { name = name; disk = e.disk; off = e.start; len = e.count; plex = Some plex; col = col; at = at })

abbrev pub put_extent : List Word → Word → ℕ → ℕ → Extent → Laid → Option Laid
put_extent known plex col at e l =
    and_then (next_name known e.disk (next_on l.nexts e.disk))
    (λ t. Some (record { objects = l.objects ++ subdisk t.name plex col at e ∷ []; nexts = with_next e.disk (t.number + 1) l.nexts }))

-- the extents of a column, one behind the other
abbrev pub put_column : List Word → Word → ℕ → ℕ → List Extent → Laid → Option Laid
put_column known plex col at [] l = Some l
put_column known plex col at (e ∷ es) l = and_then (put_extent known plex col at e l) (put_column known plex col (min (at + e.count) 18446744073709551615) es)

-- the columns of a plex from this one on
abbrev pub put_columns : List Word → Word → ℕ → List (List Extent) → Laid → Option Laid
put_columns known plex col [] l = Some l
put_columns known plex col (c ∷ cs) l = and_then (put_column known plex col 0 c l) (put_columns known plex (min (col + 1) 4294967295) cs)

-- the columns of plexes of these names
abbrev pub put_plexes : List Word → List Word → List (List (List Extent)) → Laid → Option Laid
put_plexes known [] plexes l = Some l
put_plexes known (name ∷ names) [] l = Some l
put_plexes known (name ∷ names) (p ∷ ps) l = and_then (put_columns known name 0 p l) (put_plexes known names ps)

-- logs of these names, each of one column
abbrev pub put_logs : List Word → List Word → List (List Extent) → Laid → Option Laid
put_logs known [] logs l = Some l
put_logs known (name ∷ names) [] l = Some l
put_logs known (name ∷ names) (es ∷ ess) l = and_then (put_column known name 0 0 es l) (put_logs known names ess)
