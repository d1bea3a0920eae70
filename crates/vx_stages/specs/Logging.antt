-- `vxsnap prepare` and `vxsnap unprepare`: the tests in their order, what is changed in the group, and why the commands are refused.
use Rattle.std.specs.Prelude.{◌≡◌, ◌⊎◌, ℕ, ◌==◌, ◌&&◌, ◌||◌, not, Bool, true, false, Option, Some, None, Ok, List, [], ◌∷◌, ◌++◌, length, map}
use Rattle.std.specs.List.{filter, list_any}
use Rattle.std.specs.Str.{bytes_eq}
use Rattle.vx_base.specs.Named.{Word}
use Rattle.vx_config_parts.specs.declared.object.Object.{Object}
use Rattle.vx_config_parts.specs.declared.plex.Plex.{Plex}
use Rattle.vx_config_parts.specs.declared.state.PlexState.{PlexState}
use Rattle.vx_config_parts.specs.declared.state.PlexState.TheVariants as plex_state
use Rattle.vx_config_parts.specs.declared.state.VolState.{VolState}
use Rattle.vx_config_parts.specs.declared.state.VolState.TheVariants as vol_state
use Rattle.vx_config_parts.specs.declared.snap.Snap.{Snap}
use Rattle.vx_config_parts.specs.declared.vol.Vol.{Vol}
use Rattle.vx_config_parts.specs.declared.fault.Limit.TheVariants as limit
use Rattle.vx_config_parts.specs.Objects.{is_data_plex_of, is_log_plex_of}
use Rattle.vx_rules.specs.Faults.{first_some}
use Rattle.vx_objects.specs.declared.config.Config.{Config}
use Rattle.vx_objects.specs.declared.edit.Edit.{Edit}
use Rattle.vx_objects.specs.declared.edit.Edit.TheVariants.{AddDco, Make, RemoveDco, RemovePlex, SetPlex, SetRegion}
use Rattle.vx_objects.specs.Applied.{IsEdited}
use Rattle.vx_objects.specs.Config.{objects_of}
use Rattle.vx_objects.specs.Edits.{refusal_of}
use Rattle.vx_new_volumes.specs.declared.logs.NewLogs.{NewLogs}
use Rattle.vx_new_volumes.specs.declared.parts.Plan.{Plan}
use Rattle.vx_new_volumes.specs.Planned.{IsPlanned}
use Rattle.vx_new_volumes.specs.Logs.{logs_fault, logs_of, logs_request, region_with}
use Rattle.vx_new_volumes.specs.Mirrors.{lowest_plex}
use Rattle.vx_new_volumes.specs.Records.{dco_name}
use Rattle.vx_answers.specs.declared.answer.End.{End}
use Rattle.vx_answers.specs.declared.refusal.Refusal.{Refusal}
use Rattle.vx_answers.specs.declared.refusal.Refusal.TheVariants as refusal
use Rattle.vx_moments.specs.World.{Group}
use Rattle.vx_stages.specs.Ends.{RefusedAsLong}
use Rattle.vx_stages.specs.Mirroring.{HasNoPlan, RefusedFor}
use Rattle.vx_stages.specs.Refusals.{refusal_from}
use Rattle.vx_stages.specs.Tests.{unless, volume_in, where_}

-- ---- the tests of `prepare` before its plan

-- the volume is to have other regions than it has
abbrev pub has_other_region : Vol → Option ℕ → Bool
has_other_region v region = not (region_with v region == v.region)

-- the first test that the volume does not pass, which runs or not: its regions change, and it is started; or what the group says of new logs
abbrev pub new_logs_refusal : Bool → Config → NewLogs → Vol → Option Refusal
new_logs_refusal runs c n v =
    first_some (where_ (runs && has_other_region v n.region) (refusal.VolState v.state)) (refusal_from (logs_fault (objects_of c) v n.count n.region))

-- .. or there is none of the name
abbrev pub found_for_logs : Bool → Config → NewLogs → Option Vol → Option Refusal
found_for_logs runs c n None = Some (refusal.NoObject n.vol)
found_for_logs runs c n (Some v) = new_logs_refusal runs c n v

-- the first test before the plan that refuses new logs of the volume of the name
abbrev pub prepare_refusal : Bool → Config → NewLogs → Option Refusal
prepare_refusal runs c n = found_for_logs runs c n (volume_in n.vol c.volumes)

-- ---- the plan

-- the state of new logs: those of a volume that was never started are empty as it is
abbrev pub log_state : VolState → PlexState
log_state vol_state.Empty = plex_state.Empty
log_state other = plex_state.Active

-- the volume gets its regions, the logs, a DCO of 32 maps, and its data plex the first of these
abbrev pub prepare_edits : Vol → NewLogs → Word → Plex → List Object → List Edit
prepare_edits v n dco plex added =
    SetRegion v.name (region_with v n.region)
    ∷ Make added
    ∷ AddDco (record { name = dco; vol = v.name; maps = 32 })
    ∷ SetPlex plex.name (Some v.name) plex.state (Some 0)
    ∷ []

-- The logs have these records, and the group is changed by these edits: the logs lie as is planned on good disks.
pub record AreLogsLaid (c : Config) (good : ℕ) (v : Vol) (n : NewLogs) (plex : Plex) (added : List Object) (edits : List Edit) : Type 0 where
  pub plex_is : lowest_plex v.name (objects_of c) ≡ Some plex
  pub plan : Plan
  pub planned : IsPlanned c good (logs_request v n.count n.region) (Ok plan)
  pub dco : Word
  pub dco_is : dco_name v.name ≡ Some dco
  pub records : logs_of (objects_of c) v dco plan (log_state v.state) ≡ Some added
  pub edits_are : edits ≡ prepare_edits v n dco plex added

-- the name of the DCO, or one of those of a plan's logs and subdisks, would be too long
abbrev pub AreLogsUnnamed : Config → Vol → Plan → Type 0
AreLogsUnnamed c v plan = (dco_name v.name ≡ None) ⊎ ((dco : Word) × (dco_name v.name ≡ Some dco) × (logs_of (objects_of c) v dco plan (log_state v.state) ≡ None))

-- there is no plan for the logs, or it has no records
abbrev pub AreLogsUnlaid : Config → ℕ → Vol → NewLogs → Refusal → Type 0
AreLogsUnlaid c good v n r =
    HasNoPlan c good (logs_request v n.count n.region) r
    ⊎ ((plan : Plan) × IsPlanned c good (logs_request v n.count n.region) (Ok plan) × AreLogsUnnamed c v plan × (r ≡ refusal.Limit limit.Name))

-- the configuration does not take the edits: they break a rule, or its text is too long then
abbrev pub AreEditsRefused : Config → List Edit → End → Type 0
AreEditsRefused c edits end =
    RefusedFor (λ r. refusal_from (refusal_of edits (objects_of c)) ≡ Some r) end
    ⊎ ((next : Config) × IsEdited edits c next × RefusedAsLong next end)

-- there are no logs, or the configuration does not take them
abbrev pub AreLogsUnplanned : Config → ℕ → Vol → NewLogs → End → Type 0
AreLogsUnplanned c good v n end =
    RefusedFor (AreLogsUnlaid c good v n) end
    ⊎ ((plex : Plex) × (added : List Object) × (edits : List Edit) × AreLogsLaid c good v n plex added edits × AreEditsRefused c edits end)

-- `prepare` is refused in a group: a test before the plan refuses it, or all let it through and nothing can be planned.
abbrev pub IsPrepareRefused : (runs : Bool) → Group → NewLogs → End → Type 0
IsPrepareRefused runs g n end =
    RefusedFor (λ r. prepare_refusal runs g.config n ≡ Some r) end
    ⊎ ((v : Vol) × (volume_in n.vol g.config.volumes ≡ Some v) × (prepare_refusal runs g.config n ≡ None) × AreLogsUnplanned g.config g.good v n end)

-- ---- `unprepare`

-- a log plex that waits for a snapshot
abbrev pub is_waiting : PlexState → Bool
is_waiting plex_state.DcoSnp = true
is_waiting other = false

-- the volume is in a relation, as the snapshot or as the original
abbrev pub has_relation : Config → Word → Bool
has_relation c vol = list_any (λ (s : Snap). bytes_eq s.vol vol || bytes_eq s.of vol) c.snaps

-- nothing of the volume needs the DCO: it has one data plex, no relation, and no log plex that waits
abbrev pub is_log_spare : Config → Word → Bool
is_log_spare c vol =
    (length (filter (is_data_plex_of vol) c.plexes) == 1)
    && (not (has_relation c vol) && not (list_any (λ (p : Plex). is_log_plex_of vol p && is_waiting p.state) c.plexes))

-- the volume has no DCO, or it is in use
abbrev pub spare_log_refusal : Config → Vol → Option Word → Option Refusal
spare_log_refusal c v None = Some (refusal.NoLog v.name)
spare_log_refusal c v (Some dco) = unless (is_log_spare c v.name) (refusal.InUse dco)

-- the first test that refuses `unprepare` of the volume of the name
abbrev pub found_unprepare_refusal : Config → Word → Option Vol → Option Refusal
found_unprepare_refusal c name None = Some (refusal.NoObject name)
found_unprepare_refusal c name (Some v) = spare_log_refusal c v v.dco

abbrev pub unprepare_refusal : Config → Word → Option Refusal
unprepare_refusal c name = found_unprepare_refusal c name (volume_in name c.volumes)

-- the log plexes of the volume, in order
abbrev pub log_plexes_of : Config → Word → List Plex
log_plexes_of c vol = filter (is_log_plex_of vol) c.plexes

-- the logs go, and the DCO, and the data plex has no map
abbrev pub unprepare_edits : Config → Vol → Word → Plex → List Edit
unprepare_edits c v dco plex =
    map (λ (p : Plex). RemovePlex p.name) (log_plexes_of c v.name) ++ RemoveDco dco ∷ SetPlex plex.name (Some v.name) plex.state None ∷ []

-- The volume of the name may lose its log by these edits; it has this data plex.
pub record MayLoseLog (c : Config) (name : Word) (v : Vol) (plex : Plex) (edits : List Edit) : Type 0 where
  pub found : volume_in name c.volumes ≡ Some v
  pub fits : unprepare_refusal c name ≡ None
  pub plex_is : lowest_plex v.name (objects_of c) ≡ Some plex
  pub dco : Word
  pub dco_is : v.dco ≡ Some dco
  pub edits_are : edits ≡ unprepare_edits c v dco plex

-- `unprepare` is refused in a group: a test refuses it, or the configuration does not take its edits
abbrev pub IsUnprepareRefused : Group → Word → End → Type 0
IsUnprepareRefused g name end =
    RefusedFor (λ r. unprepare_refusal g.config name ≡ Some r) end
    ⊎ ((v : Vol) × (plex : Plex) × (edits : List Edit) × MayLoseLog g.config name v plex edits × AreEditsRefused g.config edits end)
