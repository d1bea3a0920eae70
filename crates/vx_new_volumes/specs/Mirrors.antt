-- A data plex that is to be added to a volume: the tests before it is planned, the request for it, its map, and its records.
use Rattle.std.specs.Prelude.{ℕ, zero, suc, ◌+◌, ◌==◌, nat_lt, Bool, false, if◌then◌else◌, Option, Some, None, is_some, List, [], ◌∷◌, ◌++◌, map}
use Rattle.std.specs.List.{count_by}
use Rattle.vx_base.specs.Named.{Word}
use Rattle.vx_config_parts.specs.declared.plex.Plex.{Plex}
use Rattle.vx_config_parts.specs.declared.plex.PlexKind.TheVariants.{Data}
use Rattle.vx_config_parts.specs.declared.state.PlexState.TheVariants as plex_state
use Rattle.vx_config_parts.specs.declared.vol.Vol.{Vol}
use Rattle.vx_config_parts.specs.declared.object.Object.{Object}
use Rattle.vx_config_parts.specs.declared.object.Object.TheVariants.{SubdiskRecord, PlexRecord}
use Rattle.vx_config_parts.specs.declared.fault.Limit.TheVariants as limit
use Rattle.vx_config_parts.specs.declared.fault.ObjectFault.{ObjectFault}
use Rattle.vx_config_parts.specs.declared.fault.ObjectFault.TheVariants.{Limit, NoLog}
use Rattle.vx_config_parts.specs.Objects.{name_of, is_plex, refers, is_data_plex_of}
use Rattle.vx_rules.specs.Faults.{first_some, unless}
use Rattle.vx_rules.specs.Maps.{has_data_plex, map_uses}
use Rattle.vx_new_volumes.specs.declared.request.Request.{Request}
use Rattle.vx_new_volumes.specs.declared.parts.Plan.{Plan}
use Rattle.vx_new_volumes.specs.Naming.{and_then, next_name}
use Rattle.vx_new_volumes.specs.Laying.{put_plexes}
use Rattle.vx_new_volumes.specs.Tests.{absent_disk}

-- how many plexes the volume has, of data and logs alike
abbrev pub plex_count : List Object → Word → ℕ
plex_count group vol = count_by (λ o. is_plex (λ p. refers p.vol vol) o) group

-- there is room for one more plex, and a log for it
abbrev pub room_fault : List Object → Vol → Option ObjectFault
room_fault group v =
    first_some (unless (nat_lt (plex_count group v.name) 32) (Limit limit.Plexes)) (unless (is_some v.dco) (NoLog v.name))

-- why the volume cannot get a data plex on these disks in a group of these records, whatever space there is
abbrev pub mirror_fault : List Object → Vol → List Word → Option ObjectFault
mirror_fault group v disks = first_some (absent_disk group disks) (room_fault group v)

-- the record as a data plex of the volume, where it is one
abbrev pub data_plex_of : Word → Object → Option Plex
data_plex_of vol (PlexRecord p) = if is_data_plex_of vol p then Some p else None
data_plex_of vol _ = None

-- the number of a map, 0 where there is none
abbrev pub map_number : Option ℕ → ℕ
map_number None = 0
map_number (Some m) = m

-- the one of two plexes with the lower map, the first where their maps are equal
abbrev pub lower : Option Plex → Option Plex → Option Plex
lower None q = q
lower (Some p) None = Some p
lower (Some p) (Some q) = if nat_lt (map_number q.map) (map_number p.map) then Some q else Some p

-- the data plex of the volume with the lowest map
abbrev pub lowest_plex : Word → List Object → Option Plex
lowest_plex vol [] = None
lowest_plex vol (o ∷ os) = lower (data_plex_of vol o) (lowest_plex vol os)

-- the attribute names a data plex of the volume
abbrev pub is_on_data : List Object → Word → Option Word → Bool
is_on_data group vol None = false
is_on_data group vol (Some plex) = has_data_plex plex vol group

-- the disk of a subdisk of the volume's data plexes
abbrev pub data_disk : List Object → Word → Object → List Word
data_disk group vol (SubdiskRecord s) = if is_on_data group vol s.plex then s.disk ∷ [] else []
data_disk group vol _ = []

-- the disks of those of these records that are subdisks of the volume's data plexes
abbrev pub data_disks_among : List Object → Word → List Object → List Word
data_disks_among group vol [] = []
data_disks_among group vol (o ∷ os) = data_disk group vol o ++ data_disks_among group vol os

-- the disks that the volume's data plexes lie on
abbrev pub data_disks : List Object → Word → List Word
data_disks group vol = data_disks_among group vol group

-- one data plex like the lowest one, on other disks than the volume's data plexes lie on
abbrev pub mirror_request : List Object → Vol → Plex → List Word → Request
mirror_request group v lowest disks = record {
  length = v.len;
  region = v.region;
  ncol = lowest.ncol;
  unit = lowest.unit;
  mirrors = 1;
  logs = 0;
  disks = disks;
  avoid = data_disks group v.name;
}

-- the first of so many maps from one on that nothing of the volume uses
abbrev pub free_map_from : ℕ → ℕ → List Object → Word → Option ℕ
free_map_from zero m group vol = None
free_map_from (suc n) m group vol = if map_uses group vol m == 0 then Some m else free_map_from n (m + 1) group vol

-- the lowest of the maps 0 to 29 that no data plex of the volume and none of its relations uses
unfoldable pub free_map : List Object → Word → Option ℕ
free_map group vol = free_map_from 30 0 group vol

-- the plex, which holds nothing of the volume yet that its map does not mark
abbrev pub mirror_plex : Vol → Plex → ℕ → Word → Plex
mirror_plex v lowest m name = record {
  name = name;
  vol = Some v.name;
  kind = Data;
  layout = lowest.layout;
  ncol = lowest.ncol;
  unit = lowest.unit;
  state = plex_state.Active;
  map = Some m;
}

-- the plex and its subdisks, where no other record has the names that are known
abbrev pub plex_named : List Word → Plex → Plan → Option (List Object)
plex_named known plex plan =
    and_then (put_plexes (known ++ plex.name ∷ []) (plex.name ∷ []) plan.plexes (record { objects = []; nexts = [] }))
    (λ l. Some (PlexRecord plex ∷ l.objects))

-- The records of a new data plex of the volume in a group of these records, which has this map and lies as is planned; none where some
-- name would be too long. A new name takes the lowest number that is free.
unfoldable pub mirror_of : List Object → Vol → Plex → ℕ → Plan → Option (List Object)
mirror_of group v lowest m plan =
    and_then (next_name (map name_of group) v.name 1) (λ t. plex_named (map name_of group) (mirror_plex v lowest m t.name) plan)
