-- What is to be committed for new logs, and for logs that go, and why nothing is.
use Rattle.std.proofs.Common.{◌≡◌, ℕ, Some, Ok, List, inl, inr, subst}
use Rattle.vx_base.specs.Named.{Word}
use Rattle.vx_config_parts.specs.declared.object.Object.{Object}
use Rattle.vx_config_parts.specs.declared.plex.Plex.{Plex}
use Rattle.vx_config_parts.specs.declared.vol.Vol.{Vol}
use Rattle.vx_objects.specs.declared.config.Config.{Config}
use Rattle.vx_objects.specs.declared.edit.Edit.{Edit}
use Rattle.vx_objects.specs.Config.{objects_of}
use Rattle.vx_new_volumes.specs.declared.logs.NewLogs.{NewLogs}
use Rattle.vx_new_volumes.specs.declared.parts.Plan.{Plan}
use Rattle.vx_new_volumes.specs.Logs.{logs_request}
use Rattle.vx_new_volumes.specs.Mirrors.{lowest_plex}
use Rattle.vx_new_volumes.specs.Planned as plans
use Rattle.vx_stages.specs.Logging.{AreLogsLaid, AreLogsUnlaid, AreLogsUnplanned, prepare_edits, unprepare_edits}
use Rattle.vx_stages.specs.Mirroring.{RefusedFor}
use Rattle.vx_house.specs.declared.stop.Stop.{Stop}
use Rattle.vx_house.specs.declared.stop.Stop.TheVariants as stops
use Rattle.vx_stage_changes.specs.Planning.{IsPlanned, IsUnplanned}
use Rattle.vx_stage_changes.specs.declared.planning.NextConfig.{NextConfig}
use Rattle.vx_stage_mirrors.specs.Planned.{EndsAs}
use Rattle.vx_stage_mirrors.specs.PlannedLogs.{AreLaid, AreLogsPlanned, AreUnnamed, IsLossUnplanned}
use Rattle.vx_stage_mirrors.specs.declared.log_laying.LaidLogs.{LaidLogs}

-- ---- new logs

module _ (c : Config) (good : ℕ) (v : Vol) (n : NewLogs) where
  -- the plan has no records, by the records of the configuration
  pub unnamed : (group : List Object) → group ≡ objects_of c → (p : Plan) → plans.IsPlanned c good (logs_request v n.count n.region) (Ok p) → (stop : Stop) → EndsAs (RefusedFor (AreUnnamed group v p)) stop → EndsAs (RefusedFor (AreLogsUnlaid c good v n)) stop
  unnamed group all p planned stops.OutOfMemory why = tt
  unnamed group all p planned (stops.Ended end) (r, why, is) = let there = subst (λ os. AreUnnamed os v p r) all why in (r, inr (p, planned, there.0, there.1), is)

  module _ (l : LaidLogs) (laid : AreLaid c good v n l) (edits : List Edit) (are : edits ≡ prepare_edits v n l.dco l.plex l.records.items) where
    laid_so : AreLogsLaid c good v n l.plex l.records.items edits
    laid_so = record { plex_is = laid.plex_is; plan = laid.plan; planned = laid.planned; dco = l.dco; dco_is = laid.dco_is; records = laid.records; edits_are = are }

    pub planned_so : (p : NextConfig) → IsPlanned edits c p → AreLogsPlanned c good v n p
    planned_so p next = record { plex = l.plex; added = l.records.items; edits = edits; laid = laid_so; next = next }

    pub unplanned_so : (stop : Stop) → IsUnplanned edits c stop → EndsAs (AreLogsUnplanned c good v n) stop
    unplanned_so stops.OutOfMemory why = tt
    unplanned_so (stops.Ended end) (inl broken) = inr (l.plex, l.records.items, edits, laid_so, inl broken)
    unplanned_so (stops.Ended end) (inr long) = inr (l.plex, l.records.items, edits, laid_so, inr long)

-- ---- logs that go

pub loss_unplanned : (c : Config) (v : Vol) (dco : Word) (plex : Plex) → lowest_plex v.name (objects_of c) ≡ Some plex → (edits : List Edit) → edits ≡ unprepare_edits c v dco plex → (stop : Stop) → IsUnplanned edits c stop → EndsAs (IsLossUnplanned c v dco) stop
loss_unplanned c v dco plex is edits are stop why = by stop (subst (λ es. IsUnplanned es c stop) are why)
  where
    by : (s : Stop) → IsUnplanned (unprepare_edits c v dco plex) c s → EndsAs (IsLossUnplanned c v dco) s
    by stops.OutOfMemory h = tt
    by (stops.Ended end) (inl broken) = (plex, is, inl broken)
    by (stops.Ended end) (inr long) = (plex, is, inr long)
