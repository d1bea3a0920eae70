-- The view of volumes with their plexes and subdisks.
use Rattle.std.specs.Prelude.{◌≡◌, ◌++◌, ℕ, Bool, Option, List}
use Rattle.std.specs.List.{filter, flat_map}
use Rattle.std.specs.List.Sorted.{IsPermutation, IsSorted}
use Rattle.vx_base.specs.Named.{Word}
use Rattle.vx_config_parts.specs.declared.plex.Plex.{Plex}
use Rattle.vx_objects.specs.declared.config.Config.{Config}
use Rattle.vx_hierarchy.specs.Lines.{row_line}
use Rattle.vx_hierarchy.specs.Rows.{by_place, is_asked, rows}
use Rattle.vx_hierarchy.specs.declared.row.Row.{Row}

-- the lines of the rows that are asked for, each in its place, were appended; which plexes are held and which volumes started is given
pub record IsHierarchy (config : Config) (held : Plex → Bool) (started : Word → Bool) (only : Option Word) (old new : List ℕ) : Type 0 where
  pub shown : List Row
  pub same : IsPermutation (filter (is_asked only) (rows config held started)) shown
  pub ordered : IsSorted by_place shown
  pub text : new ≡ old ++ flat_map row_line shown
