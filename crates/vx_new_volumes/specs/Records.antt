-- The records of a new volume: itself, its DCO where it has logs, its plexes and logs, and their subdisks.
use Rattle.std.specs.Prelude.{ℕ, ◌+◌, ◌==◌, min, nat_lt, Bool, if◌then◌else◌, Option, Some, None, List, [], ◌∷◌, ◌++◌, length, map, codes}
use Rattle.vx_base.specs.Named.{Word}
use Rattle.vx_config_parts.specs.declared.plex.Plex.{Plex}
use Rattle.vx_config_parts.specs.declared.plex.PlexKind.TheVariants.{Data, Log}
use Rattle.vx_config_parts.specs.declared.plex.PlexLayout.{PlexLayout}
use Rattle.vx_config_parts.specs.declared.plex.PlexLayout.TheVariants.{Concat, Stripe}
use Rattle.vx_config_parts.specs.declared.state.PlexState.TheVariants as plex_state
use Rattle.vx_config_parts.specs.declared.state.VolState.TheVariants as vol_state
use Rattle.vx_config_parts.specs.declared.vol.PolicyKind.TheVariants.{Round}
use Rattle.vx_config_parts.specs.declared.vol.Vol.{Vol}
use Rattle.vx_config_parts.specs.declared.object.Object.{Object}
use Rattle.vx_config_parts.specs.declared.object.Object.TheVariants.{PlexRecord, VolRecord, DcoRecord}
use Rattle.vx_config_parts.specs.Objects.{name_of}
use Rattle.vx_new_volumes.specs.declared.parts.Plan.{Plan}
use Rattle.vx_new_volumes.specs.declared.volume.NewVolume.{NewVolume}
use Rattle.vx_new_volumes.specs.Naming.{and_then, as_name, names_behind}
use Rattle.vx_new_volumes.specs.Laying.{Laid, put_logs, put_plexes}

-- the volume is to have logs, and a DCO with them
abbrev pub has_logs : NewVolume → Bool
has_logs n = nat_lt 0 n.request.logs

abbrev pub dco_name : Word → Option Word
dco_name vol = as_name (vol ++ codes "_dco")

abbrev pub log_stem : Word → Word
log_stem vol = vol ++ codes "_dcl"

-- the volume, as it was never started
abbrev pub vol_of : NewVolume → Word → Vol
vol_of n dco = record {
  name = n.vol;
  len = n.request.length;
  region = n.request.region;
  rdpol = Round;
  prefer = None;
  state = vol_state.Empty;
  dco = if has_logs n then Some dco else None;
}

abbrev pub dco_of : NewVolume → Word → List Object
dco_of n dco = if has_logs n then DcoRecord (record { name = dco; vol = n.vol; maps = 32 }) ∷ [] else []

abbrev pub layout_of : ℕ → PlexLayout
layout_of ncol = if ncol == 1 then Concat else Stripe

-- a data plex, with a map where there are logs
abbrev pub data_plex : NewVolume → ℕ → Word → Plex
data_plex n m name = record {
  name = name;
  vol = Some n.vol;
  kind = Data;
  layout = layout_of n.request.ncol;
  ncol = n.request.ncol;
  unit = n.request.unit;
  state = plex_state.Empty;
  map = if has_logs n then Some m else None;
}

-- data plexes of these names, with rising maps
abbrev pub data_plexes : NewVolume → ℕ → List Word → List Object
data_plexes n m [] = []
data_plexes n m (name ∷ names) = PlexRecord (data_plex n m name) ∷ data_plexes n (min (m + 1) 255) names

abbrev pub log_plex : NewVolume → Word → Object
log_plex n name =
    PlexRecord (record { name = name; vol = Some n.vol; kind = Log; layout = Concat; ncol = 1; unit = 128; state = plex_state.Empty; map = None })

-- the names of the group, and those of the volume and of its DCO
abbrev pub names_known : List Object → NewVolume → Word → List Word
names_known group n dco = n.vol ∷ dco ∷ map name_of group

-- the subdisks of all plexes and logs, where no other record has the names that are known
abbrev pub subdisks : List Word → List Word → List Word → Plan → Option Laid
subdisks known plexes logs plan =
    and_then (put_plexes known plexes plan.plexes (record { objects = []; nexts = [] })) (put_logs known logs plan.logs)

-- the records with plexes and logs of these names
abbrev pub records_named : List Word → NewVolume → Word → List Word → List Word → Plan → Option (List Object)
records_named known n dco plexes logs plan =
    and_then (subdisks (known ++ plexes ++ logs) plexes logs plan)
    (λ l. Some (VolRecord (vol_of n dco) ∷ dco_of n dco ++ data_plexes n 0 plexes ++ map (log_plex n) logs ++ l.objects))

-- The records of the volume in a group of these records, whose plexes and logs lie as is planned; none where some name would be too long.
-- A new name takes the lowest number that is free.
unfoldable pub records_of : List Object → NewVolume → Plan → Option (List Object)
records_of group n plan =
    and_then (dco_name n.vol)
    (λ dco. and_then (names_behind (length plan.plexes) [] (names_known group n dco) n.vol 1)
    (λ plexes. and_then (names_behind (length plan.logs) [] (names_known group n dco) (log_stem n.vol) 1)
    (λ logs. records_named (names_known group n dco) n dco plexes logs plan)))
