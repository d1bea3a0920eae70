-- The change maps of a volume, and its logs.
use Rattle.std.specs.Prelude.{ℕ, ◌+◌, Bool, true, false, Option, Some, None, List, ◌==◌, ◌&&◌, ◌||◌, nat_le, nat_lt, is_some, is_none, not, if◌then◌else◌}
use Rattle.std.specs.List.{list_any, list_all, count_by}
use Rattle.std.specs.Str.{bytes_eq}
use Rattle.vx_base.specs.Named.{Word}
use Rattle.vx_config_parts.specs.declared.plex.PlexKind.{PlexKind}
use Rattle.vx_config_parts.specs.declared.plex.PlexKind.TheVariants.{Data, Log}
use Rattle.vx_config_parts.specs.declared.vol.Vol.{Vol}
use Rattle.vx_config_parts.specs.declared.vol.PolicyKind.{PolicyKind}
use Rattle.vx_config_parts.specs.declared.vol.PolicyKind.TheVariants.{Round, Prefer, Select}
use Rattle.vx_config_parts.specs.declared.state.PlexState.{PlexState}
use Rattle.vx_config_parts.specs.declared.state.PlexState.TheVariants as state
use Rattle.vx_config_parts.specs.declared.object.Object.{Object}
use Rattle.vx_config_parts.specs.declared.object.Object.TheVariants.{PlexRecord, VolRecord, SnapRecord}
use Rattle.vx_config_parts.specs.declared.fault.ObjectFault.{ObjectFault}
use Rattle.vx_config_parts.specs.declared.fault.ObjectFault.TheVariants.{NoMap, NoLog, NoObject}
use Rattle.vx_config_parts.specs.Objects.{is_plex, is_snap, refers, is_data_plex_of, is_log_plex_of}
use Rattle.vx_rules.specs.Faults.{unless}
use Rattle.vx_rules.specs.Below.{all_below}

abbrev pub has_map : Option ℕ → ℕ → Bool
has_map None map = false
has_map (Some m) map = m == map

-- how many of the volume's data plexes and relations use the map
abbrev pub map_uses : List Object → Word → ℕ → ℕ
map_uses all vol map =
    count_by (λ o. is_plex (λ p. is_data_plex_of vol p && has_map p.map map) o) all
    + count_by (λ o. is_snap (λ s. bytes_eq s.vol vol && s.map == map) o) all
    + count_by (λ o. is_snap (λ s. bytes_eq s.of vol && s.ofmap == map) o) all

-- a data plex has a map exactly where its volume is prepared; a log plex has none
abbrev pub plex_map_fits : PlexKind → Bool → Option ℕ → Bool
plex_map_fits Data prepared None = not prepared
plex_map_fits Data prepared (Some m) = prepared && nat_lt m 30
plex_map_fits Log prepared None = true
plex_map_fits Log prepared (Some m) = false

abbrev pub maps_fit : Vol → Object → Bool
maps_fit v (PlexRecord p) = if refers p.vol v.name then plex_map_fits p.kind (is_some v.dco) p.map else true
maps_fit v (SnapRecord s) = (if bytes_eq s.vol v.name then nat_lt s.map 30 else true) && (if bytes_eq s.of v.name then nat_lt s.ofmap 30 else true)
maps_fit v _ = true

-- no map from 0 to 29 is used twice
unfoldable pub maps_differ : List Object → Word → Bool
maps_differ all vol = all_below 30 (λ m. nat_le (map_uses all vol m) 1)

-- the maps of the volume are 0 to 29 and differ
abbrev pub maps_are_good : List Object → Vol → Bool
maps_are_good all v = list_all (λ o. maps_fit v o) all && maps_differ all v.name

-- the maps of a volume are good; a plex without a volume has none
abbrev pub map_fault : List Object → Object → Option ObjectFault
map_fault all (VolRecord v) = unless (maps_are_good all v) (NoMap v.name)
map_fault all (PlexRecord p) = unless (is_some p.vol || is_none p.map) (NoMap p.name)
map_fault all _ = None

-- the log counts for its volume
abbrev pub is_in_use : PlexState → Bool
is_in_use state.Active = true
is_in_use state.Empty = true
is_in_use _ = false

-- how many logs the volume has in state ACTIVE or EMPTY
abbrev pub log_count : List Object → Word → ℕ
log_count all vol = count_by (λ o. is_plex (λ p. is_log_plex_of vol p && is_in_use p.state) o) all

abbrev pub data_count : List Object → Word → ℕ
data_count all vol = count_by (λ o. is_plex (λ p. is_data_plex_of vol p) o) all

-- a volume with two or more data plexes has a DCO; one with a DCO has one or two logs in use
abbrev pub logs_are_good : List Object → Word → Option Word → Bool
logs_are_good all vol None = nat_le (data_count all vol) 1
logs_are_good all vol (Some dco) = nat_le 1 (log_count all vol) && nat_le (log_count all vol) 2

abbrev pub log_fault : List Object → Object → Option ObjectFault
log_fault all (VolRecord v) = unless (logs_are_good all v.name v.dco) (NoLog v.name)
log_fault all _ = None

-- there is a data plex of that name in the volume
abbrev pub has_data_plex : Word → Word → List Object → Bool
has_data_plex name vol all = list_any (λ o. is_plex (λ p. bytes_eq p.name name && is_data_plex_of vol p) o) all

-- a plex is named exactly where the policy prefers one, and it is a data plex of the volume
abbrev pub prefer_fault_of : List Object → Word → PolicyKind → Option Word → Option ObjectFault
prefer_fault_of all vol Prefer (Some plex) = unless (has_data_plex plex vol all) (NoObject plex)
prefer_fault_of all vol Prefer None = Some (NoObject vol)
prefer_fault_of all vol Round (Some plex) = Some (NoObject plex)
prefer_fault_of all vol Round None = None
prefer_fault_of all vol Select (Some plex) = Some (NoObject plex)
prefer_fault_of all vol Select None = None

abbrev pub prefer_fault : List Object → Object → Option ObjectFault
prefer_fault all (VolRecord v) = prefer_fault_of all v.name v.rdpol v.prefer
prefer_fault all _ = None
