-- What is planned for new logs of a volume, and for logs that go.
use Rattle.std.specs.Prelude.{◌≡◌, ◌⊎◌, Some, None, Ok, ℕ, List}
use Rattle.vx_base.specs.Named.{Word}
use Rattle.vx_config_parts.specs.declared.object.Object.{Object}
use Rattle.vx_config_parts.specs.declared.plex.Plex.{Plex}
use Rattle.vx_config_parts.specs.declared.vol.Vol.{Vol}
use Rattle.vx_config_parts.specs.declared.fault.Limit.TheVariants as limit
use Rattle.vx_objects.specs.declared.config.Config.{Config}
use Rattle.vx_objects.specs.declared.edit.Edit.{Edit}
use Rattle.vx_objects.specs.Config.{objects_of}
use Rattle.vx_new_volumes.specs.declared.logs.NewLogs.{NewLogs}
use Rattle.vx_new_volumes.specs.declared.parts.Plan.{Plan}
use Rattle.vx_new_volumes.specs.Logs.{logs_of, logs_request}
use Rattle.vx_new_volumes.specs.Mirrors.{lowest_plex}
use Rattle.vx_new_volumes.specs.Planned as plans
use Rattle.vx_new_volumes.specs.Records.{dco_name}
use Rattle.vx_answers.specs.declared.answer.End.{End}
use Rattle.vx_answers.specs.declared.refusal.Refusal.{Refusal}
use Rattle.vx_answers.specs.declared.refusal.Refusal.TheVariants as refusal
use Rattle.vx_stages.specs.Logging.{AreEditsRefused, AreLogsLaid, log_state, unprepare_edits}
use Rattle.vx_stage_changes.specs.declared.planning.NextConfig.{NextConfig}
use Rattle.vx_stage_changes.specs.Planning.{IsPlanned}
use Rattle.vx_stage_mirrors.specs.declared.log_laying.LaidLogs.{LaidLogs}

-- ---- new logs

-- the name of the DCO, and the records of the plan's logs
pub record AreNamed (group : List Object) (v : Vol) (p : Plan) (dco : Word) (records : List Object) : Type 0 where
  pub dco_is : dco_name v.name ≡ Some dco
  pub records_are : logs_of group v dco p (log_state v.state) ≡ Some records

-- a name would be too long
abbrev pub AreUnnamed : List Object → Vol → Plan → Refusal → Type 0
AreUnnamed group v p r =
    ((dco_name v.name ≡ None) ⊎ ((dco : Word) × (dco_name v.name ≡ Some dco) × (logs_of group v dco p (log_state v.state) ≡ None))) × (r ≡ refusal.Limit limit.Name)

-- the logs lie as is planned on good disks
pub record AreLaid (c : Config) (good : ℕ) (v : Vol) (n : NewLogs) (l : LaidLogs) : Type 0 where
  pub plex_is : lowest_plex v.name (objects_of c) ≡ Some l.plex
  pub plan : Plan
  pub planned : plans.IsPlanned c good (logs_request v n.count n.region) (Ok plan)
  pub dco_is : dco_name v.name ≡ Some l.dco
  pub records : logs_of (objects_of c) v l.dco plan (log_state v.state) ≡ Some l.records.items

-- they are to be recorded so
pub record AreLogsPlanned (c : Config) (good : ℕ) (v : Vol) (n : NewLogs) (p : NextConfig) : Type 0 where
  pub plex : Plex
  pub added : List Object
  pub edits : List Edit
  pub laid : AreLogsLaid c good v n plex added edits
  pub next : IsPlanned edits c p

-- ---- logs that go

-- the logs and the DCO are to go
pub record IsLossPlanned (c : Config) (v : Vol) (dco : Word) (p : NextConfig) : Type 0 where
  pub plex : Plex
  pub plex_is : lowest_plex v.name (objects_of c) ≡ Some plex
  pub next : IsPlanned (unprepare_edits c v dco plex) c p

-- the configuration does not take that
abbrev pub IsLossUnplanned : Config → Vol → Word → End → Type 0
IsLossUnplanned c v dco end = (plex : Plex) × (lowest_plex v.name (objects_of c) ≡ Some plex) × AreEditsRefused c (unprepare_edits c v dco plex) end
