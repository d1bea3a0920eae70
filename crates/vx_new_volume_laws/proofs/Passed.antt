-- What the tests of a new volume say, where it passes them.
use Rattle.std.proofs.Common.{◌≡◌, ◌||◌, ◌&&◌, not, nat_le, Bool, true, false, Option, Some, None, List, refl, subst}
use Rattle.vx_base.specs.Named.{Word}
use Rattle.vx_block.specs.Geometry.{is_region_size, is_geometry}
use Rattle.vx_config_parts.specs.declared.object.Object.{Object}
use Rattle.vx_config_parts.specs.declared.fault.Limit.TheVariants as limit
use Rattle.vx_config_parts.specs.declared.fault.ObjectFault.{ObjectFault}
use Rattle.vx_config_parts.specs.declared.fault.ObjectFault.TheVariants.{Exists, Limit, NoLog}
use Rattle.vx_rules.specs.Faults.{first_some, unless}
use Rattle.vx_rules.specs.Limits.{is_short_name}
use Rattle.vx_rules.specs.References.{has_name}
use Rattle.vx_objects.proofs.OneGroup.{first_none, second_none, unless_none}
use Rattle.vx_new_volumes.specs.Rule.{has_small_numbers}
use Rattle.vx_new_volumes.specs.Records.{dco_name, has_logs}
use Rattle.vx_new_volumes.specs.Tests.{absent_disk, dco_fault_named, has_room, limit_fault, log_fault, name_fault, new_fault}
use Rattle.vx_new_volumes.specs.declared.volume.NewVolume.{NewVolume}

pub record Passed (started : Bool) (group : List Object) (n : NewVolume) : Type 0 where
  pub room : has_room group ≡ true
  pub short : is_short_name n.vol ≡ true
  pub region : is_region_size n.request.region ≡ true
  pub geometry : is_geometry n.request.length n.request.region ≡ true
  pub numbers : has_small_numbers n.request ≡ true
  pub unstarted : started ≡ false
  pub free : has_name n.vol group ≡ false
  pub dco_free : (dco : Word) → dco_name n.vol ≡ Some dco → has_logs n ≡ true → has_name dco group ≡ false
  pub logged : (nat_le n.request.mirrors 1 || has_logs n) ≡ true

both_free : (a b : Bool) (f : ObjectFault) → unless (not (a || b)) f ≡ None → (a ≡ false) × (b ≡ false)
both_free true b f e = cc
both_free false true f e = cc
both_free false false f e = (refl, refl)

one_free : (a b : Bool) (f : ObjectFault) → unless (not (a && b)) f ≡ None → a ≡ true → b ≡ false
one_free true true f e h = cc
one_free true false f e h = refl
one_free false b f e h = cc

pub passed : (started : Bool) (group : List Object) (n : NewVolume) → new_fault started group n ≡ None → Passed started group n
unfolding new_fault
passed started group n e =
    let names : Option ObjectFault = first_some (name_fault started group n) (log_fault n) in
    let a = second_none (absent_disk group n.request.disks) (first_some (limit_fault group n) names) e in
    let limits = first_none (limit_fault group n) names a in
    let b = second_none (limit_fault group n) names a in
    let named = first_none (name_fault started group n) (log_fault n) b in
    let logged = second_none (name_fault started group n) (log_fault n) b in
    let room : Option ObjectFault = unless (has_room group) (Limit limit.Volumes) in
    let short : Option ObjectFault = unless (is_short_name n.vol) (Limit limit.Name) in
    let region : Option ObjectFault = unless (is_region_size n.request.region) (Limit limit.Region) in
    let regions : Option ObjectFault = unless (is_geometry n.request.length n.request.region) (Limit limit.Regions) in
    let numbers : Option ObjectFault = unless (has_small_numbers n.request) (Limit limit.Number) in
    let c = second_none room (first_some short (first_some region (first_some regions numbers))) limits in
    let d = second_none short (first_some region (first_some regions numbers)) c in
    let f = second_none region (first_some regions numbers) d in
    let own : Option ObjectFault = unless (not (started || has_name n.vol group)) (Exists n.vol) in
    let g = both_free started (has_name n.vol group) (Exists n.vol) (first_none own (dco_fault_named group n (dco_name n.vol)) named) in
    let h = second_none own (dco_fault_named group n (dco_name n.vol)) named in
    record {
      room = unless_none (has_room group) (Limit limit.Volumes) (first_none room (first_some short (first_some region (first_some regions numbers))) limits);
      short = unless_none (is_short_name n.vol) (Limit limit.Name) (first_none short (first_some region (first_some regions numbers)) c);
      region = unless_none (is_region_size n.request.region) (Limit limit.Region) (first_none region (first_some regions numbers) d);
      geometry = unless_none (is_geometry n.request.length n.request.region) (Limit limit.Regions) (first_none regions numbers f);
      numbers = unless_none (has_small_numbers n.request) (Limit limit.Number) (second_none regions numbers f);
      unstarted = g.0;
      free = g.1;
      dco_free = λ dco is logs. one_free (has_logs n) (has_name dco group) (Exists dco) (subst (λ (o : Option Word). dco_fault_named group n o ≡ None) is h) logs;
      logged = unless_none (nat_le n.request.mirrors 1 || has_logs n) (NoLog n.vol) logged;
    }
