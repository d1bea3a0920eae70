-- What is known of a volume whose new logs no test before the plan refuses.
use Rattle.std.proofs.Common.{◌≡◌, Bool, true, false, Option, Some, None, List, refl, subst}
use Rattle.std.specs.Prelude.{◌==◌, not}
use Rattle.std.proofs.lemmas.Bool.{eqb-true}
use Rattle.vx_base.specs.Named.{Word}
use Rattle.vx_config_parts.specs.declared.fault.ObjectFault.TheVariants.{NoLog}
use Rattle.vx_config_parts.specs.declared.object.Object.{Object}
use Rattle.vx_config_parts.specs.declared.vol.Vol.{Vol}
use Rattle.vx_rules.specs.Faults.{unless}
use Rattle.vx_objects.specs.declared.config.Config.{Config}
use Rattle.vx_objects.specs.Config.{objects_of}
use Rattle.vx_objects.proofs.OneGroup.{first_none, second_none}
use Rattle.vx_new_volumes.specs.declared.logs.NewLogs.{NewLogs}
use Rattle.vx_new_volumes.specs.Logs.{dco_fault, logs_fault, logs_fit, logs_limit_fault, new_dco_fault, region_with}
use Rattle.vx_new_volumes.specs.Records.{dco_name}
use Rattle.vx_answers.specs.declared.refusal.Refusal.{Refusal}
use Rattle.vx_answers.specs.declared.refusal.Refusal.TheVariants as refusal
use Rattle.vx_stages.specs.Logging.{found_for_logs, has_other_region, new_logs_refusal, prepare_refusal}
use Rattle.vx_stages.specs.Refusals.{refusal_from}
use Rattle.vx_stages.specs.Tests.{volume_in, where_}
use Rattle.vx_group_edits.proofs.DcoEdits.{fits_logs}

tested : (runs : Bool) (c : Config) (n : NewLogs) (v : Vol) → volume_in n.vol c.volumes ≡ Some v → prepare_refusal runs c n ≡ None → new_logs_refusal runs c n v ≡ None
tested runs c n v found fits = subst (λ o. found_for_logs runs c n o ≡ None) found fits

not_where : (holds : Bool) (r : Refusal) → where_ holds r ≡ None → not holds ≡ true
not_where true r e = cc
not_where false r e = refl

-- a running volume keeps its regions
pub runs_with_its_regions : (c : Config) (n : NewLogs) (v : Vol) → volume_in n.vol c.volumes ≡ Some v → prepare_refusal true c n ≡ None → region_with v n.region ≡ v.region
runs_with_its_regions c n v found fits =
    let none = first_none (where_ (has_other_region v n.region) (refusal.VolState v.state)) (refusal_from (logs_fault (objects_of c) v n.count n.region)) (tested true c n v found fits) in
    eqb-true (region_with v n.region) v.region (same (region_with v n.region == v.region) (not_where (has_other_region v n.region) (refusal.VolState v.state) none))
  where
    same : (b : Bool) → not (not b) ≡ true → b ≡ true
    same true e = refl
    same false e = cc

none_there : (group : List Object) (old new : Option Word) → dco_fault group old new ≡ None → old ≡ None
none_there group None new e = refl
none_there group (Some dco) new e = cc

-- the volume has no DCO
pub prepared_had_none : (runs : Bool) (c : Config) (n : NewLogs) (v : Vol) → volume_in n.vol c.volumes ≡ Some v → prepare_refusal runs c n ≡ None → v.dco ≡ None
prepared_had_none runs c n v found fits =
    let group = objects_of c in
    let dco = second_none (logs_limit_fault group v n.count (region_with v n.region)) (new_dco_fault group v n.count) (fits_logs runs c n v found fits) in
    none_there group v.dco (dco_name v.name) (first_none (dco_fault group v.dco (dco_name v.name)) (unless (logs_fit group v.name n.count) (NoLog v.name)) dco)
