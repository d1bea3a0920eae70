-- Which volumes of a group are started, and which of its plexes are held.
use Rattle.std.specs.Prelude.{◌||◌, Bool, false, Option, Some, None, is_some}
use Rattle.vx_base.specs.Named.{Word}
use Rattle.vx_config_parts.specs.declared.plex.Plex.{Plex}
use Rattle.vx_image.specs.Bytes.{is_held}
use Rattle.vx_moments.specs.Holding.{is_among}
use Rattle.vx_moments.specs.Leaving.{grouped}
use Rattle.vx_moments.specs.World.{World, Volume, Group, Lies, OnDevice, OnPlexes}

-- a volume of the name is started on plexes of the group
abbrev pub is_running : World → Word → Bool
is_running w vol = is_some (grouped (w.volumes vol))

-- the plex is among those that it lies on
abbrev pub lies_on : Lies → Word → Bool
lies_on (OnDevice device) plex = false
lies_on (OnPlexes plexes) plex = is_among plex plexes

-- a volume is started, and lies on the plex
abbrev pub runs_on : Option Volume → Word → Bool
runs_on None plex = false
runs_on (Some v) plex = lies_on v.lies plex

-- the plex is lent to its volume, which runs on it
abbrev pub is_lent_to : World → Option Word → Word → Bool
is_lent_to w None plex = false
is_lent_to w (Some vol) plex = runs_on (w.volumes vol) plex

-- the plex is held: all its disks are good, or it is lent
abbrev pub is_held_in : World → Group → Plex → Bool
is_held_in w g p = is_held g.config g.good p || is_lent_to w p.vol p.name
