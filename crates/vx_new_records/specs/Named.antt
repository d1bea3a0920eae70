-- The new names of plexes and logs, where these names are known.
use Rattle.std.specs.Prelude.{Bool, false, Option, Some, None, List, [], length}
use Rattle.vx_base.specs.Named.{Word}
use Rattle.vx_new_volumes.specs.declared.parts.Plan.{Plan}
use Rattle.vx_new_volumes.specs.declared.volume.NewVolume.{NewVolume}
use Rattle.vx_new_volumes.specs.Naming.{is_known, names_behind}
use Rattle.vx_new_volumes.specs.Records.{log_stem}

abbrev pub plex_names : List Word → NewVolume → Plan → Option (List Word)
plex_names known n plan = names_behind (length plan.plexes) [] known n.vol 1

abbrev pub log_names : List Word → NewVolume → Plan → Option (List Word)
log_names known n plan = names_behind (length plan.logs) [] known (log_stem n.vol) 1

-- the attribute names one of these
abbrev pub is_one_of : List Word → Option Word → Bool
is_one_of names None = false
is_one_of names (Some name) = is_known names name
