-- Where no test before the plan refuses logs of a volume, they can be asked for.
use Rattle.std.proofs.Common.{◌≡◌, ℕ, Bool, true, Option, Some, None, List}
use Rattle.std.specs.Prelude.{◌==◌, ◌&&◌, ◌+◌, nat_le}
use Rattle.std.proofs.lemmas.Bool.{and_from, and_parts}
use Rattle.vx_block.specs.Geometry.{is_geometry, is_region_size}
use Rattle.vx_config_parts.specs.declared.fault.Limit.TheVariants as limit
use Rattle.vx_config_parts.specs.declared.fault.ObjectFault.TheVariants.{Limit, NoLog}
use Rattle.vx_config_parts.specs.declared.object.Object.{Object}
use Rattle.vx_config_parts.specs.declared.vol.Vol.{Vol}
use Rattle.vx_rules.specs.Faults.{first_some, unless}
use Rattle.vx_rules.specs.Maps.{log_count}
use Rattle.vx_objects.specs.declared.config.Config.{Config}
use Rattle.vx_objects.specs.Config.{objects_of}
use Rattle.vx_objects.proofs.OneGroup.{first_none, second_none, unless_none}
use Rattle.vx_new_volumes.specs.declared.logs.NewLogs.{NewLogs}
use Rattle.vx_new_volumes.specs.Logs.{dco_fault, logs_fault, logs_fit, logs_limit_fault, logs_request, new_dco_fault, region_with}
use Rattle.vx_new_volumes.specs.Mirrors.{plex_count}
use Rattle.vx_new_volumes.specs.Records.{dco_name}
use Rattle.vx_new_volumes.specs.Rule.{is_request}
use Rattle.vx_stages.specs.Logging.{prepare_refusal}
use Rattle.vx_stages.specs.Tests.{volume_in}
use Rattle.vx_group_edits.proofs.DcoEdits.{fits_logs}

-- what the group says nothing against keeps to its ranges
pub faultless_request : (group : List Object) (v : Vol) (count : ℕ) (region : Option ℕ) → logs_fault group v count region ≡ None → is_request (logs_request v count region) ≡ true
faultless_request group v count region none =
    let size = region_with v region in
    let limits = first_none (logs_limit_fault group v count size) (new_dco_fault group v count) none in
    let plexes = unless (nat_le (plex_count group v.name + count) 32) (Limit limit.Plexes) in
    let sized = first_none (unless (is_geometry v.len size) (Limit limit.Regions)) plexes
    (second_none (unless (is_region_size size) (Limit limit.Region)) (first_some (unless (is_geometry v.len size) (Limit limit.Regions)) plexes) limits) in
    let dco = second_none (logs_limit_fault group v count size) (new_dco_fault group v count) none in
    let fit = unless_none (logs_fit group v.name count) (NoLog v.name) (second_none (dco_fault group v.dco (dco_name v.name)) (unless (logs_fit group v.name count) (NoLog v.name)) dco) in
    let few = (and_parts (nat_le count 2) (log_count group v.name == 0) (and_parts (nat_le 1 count) (nat_le count 2 && log_count group v.name == 0) fit).1).0 in
    and_from (is_geometry v.len size) _ (unless_none (is_geometry v.len size) (Limit limit.Regions) sized) few

pub logs_can_be_asked : (runs : Bool) (c : Config) (n : NewLogs) (v : Vol) → volume_in n.vol c.volumes ≡ Some v → prepare_refusal runs c n ≡ None → is_request (logs_request v n.count n.region) ≡ true
logs_can_be_asked runs c n v found fits = faultless_request (objects_of c) v n.count n.region (fits_logs runs c n v found fits)
