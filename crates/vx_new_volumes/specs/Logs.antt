-- Logs that are to be added to a volume, and a DCO with them: the tests before they are planned, the request for them, and their records.
use Rattle.std.specs.Prelude.{ℕ, ◌+◌, ◌==◌, ◌&&◌, not, nat_le, Bool, Option, Some, None, List, [], ◌∷◌, ◌++◌, length, map}
use Rattle.vx_base.specs.Named.{Word}
use Rattle.vx_block.specs.Geometry.{is_region_size, is_geometry}
use Rattle.vx_config_parts.specs.declared.plex.PlexKind.TheVariants.{Log}
use Rattle.vx_config_parts.specs.declared.plex.PlexLayout.TheVariants.{Concat}
use Rattle.vx_config_parts.specs.declared.state.PlexState.{PlexState}
use Rattle.vx_config_parts.specs.declared.vol.Vol.{Vol}
use Rattle.vx_config_parts.specs.declared.object.Object.{Object}
use Rattle.vx_config_parts.specs.declared.object.Object.TheVariants.{PlexRecord}
use Rattle.vx_config_parts.specs.declared.fault.Limit.TheVariants as limit
use Rattle.vx_config_parts.specs.declared.fault.ObjectFault.{ObjectFault}
use Rattle.vx_config_parts.specs.declared.fault.ObjectFault.TheVariants.{Exists, Limit, NoLog}
use Rattle.vx_config_parts.specs.Objects.{name_of}
use Rattle.vx_rules.specs.Faults.{first_some, unless}
use Rattle.vx_rules.specs.References.{has_name}
use Rattle.vx_rules.specs.Maps.{log_count}
use Rattle.vx_new_volumes.specs.declared.request.Request.{Request}
use Rattle.vx_new_volumes.specs.declared.parts.Plan.{Plan}
use Rattle.vx_new_volumes.specs.Naming.{and_then, names_behind}
use Rattle.vx_new_volumes.specs.Laying.{put_logs}
use Rattle.vx_new_volumes.specs.Records.{dco_name, log_stem}
use Rattle.vx_new_volumes.specs.Mirrors.{plex_count}

-- the region that the volume is to have: its own, where none is given
abbrev pub region_with : Vol → Option ℕ → ℕ
region_with v None = v.region
region_with v (Some region) = region

-- the limits: the region, regions, and how many plexes
abbrev pub logs_limit_fault : List Object → Vol → ℕ → ℕ → Option ObjectFault
logs_limit_fault group v count region =
    first_some (unless (is_region_size region) (Limit limit.Region))
    (first_some (unless (is_geometry v.len region) (Limit limit.Regions))
    (unless (nat_le (plex_count group v.name + count) 32) (Limit limit.Plexes)))

-- some record has the name of the DCO
abbrev pub dco_name_fault : List Object → Option Word → Option ObjectFault
dco_name_fault group None = None
dco_name_fault group (Some dco) = unless (not (has_name dco group)) (Exists dco)

-- the name that is told of a volume which has this DCO: that of the new one, or its own where that would be too long
abbrev pub told_dco : Word → Option Word → Word
told_dco dco None = dco
told_dco dco (Some new) = new

-- the volume has that DCO, or else some record has the name of the new one
abbrev pub dco_fault : List Object → Option Word → Option Word → Option ObjectFault
dco_fault group None new = dco_name_fault group new
dco_fault group (Some dco) new = Some (Exists (told_dco dco new))

-- one log or two are to be made, and the volume has none in use
abbrev pub logs_fit : List Object → Word → ℕ → Bool
logs_fit group vol count = nat_le 1 count && (nat_le count 2 && log_count group vol == 0)

-- no DCO and none of its name is there, and the number of logs is right
abbrev pub new_dco_fault : List Object → Vol → ℕ → Option ObjectFault
new_dco_fault group v count = first_some (dco_fault group v.dco (dco_name v.name)) (unless (logs_fit group v.name count) (NoLog v.name))

-- why the volume cannot get so many logs, and this region where one is given, in a group of these records, whatever space there is
abbrev pub logs_fault : List Object → Vol → ℕ → Option ℕ → Option ObjectFault
logs_fault group v count region = first_some (logs_limit_fault group v count (region_with v region)) (new_dco_fault group v count)

-- so many logs, on any disks
abbrev pub logs_request : Vol → ℕ → Option ℕ → Request
logs_request v count region = record {
  length = v.len;
  region = region_with v region;
  ncol = 1;
  unit = 128;
  mirrors = 0;
  logs = count;
  disks = [];
  avoid = [];
}

abbrev pub log_in : Word → PlexState → Word → Object
log_in vol state name =
    PlexRecord (record { name = name; vol = Some vol; kind = Log; layout = Concat; ncol = 1; unit = 128; state = state; map = None })

-- logs of these names and their subdisks, where no other record has the names that are known
abbrev pub logs_named : List Word → Vol → List Word → Plan → PlexState → Option (List Object)
logs_named known v names plan state =
    and_then (put_logs (known ++ names) names plan.logs (record { objects = []; nexts = [] })) (λ l. Some (map (log_in v.name state) names ++ l.objects))

-- The records of logs of the volume, in a group of these records that is to have a DCO of that name, where the logs lie as is planned and
-- are in this state; none where some name would be too long. A new name takes the lowest number that is free.
unfoldable pub logs_of : List Object → Vol → Word → Plan → PlexState → Option (List Object)
logs_of group v dco plan state =
    and_then (names_behind (length plan.logs) [] (dco ∷ map name_of group) (log_stem v.name) 1)
    (λ names. logs_named (dco ∷ map name_of group) v names plan state)
