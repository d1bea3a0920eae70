-- The tests in their order, and that a request within the limits is valid.
use Rattle.std.proofs.Common.{◌≡◌, ◌∙◌, Bool, true, false, Option, Some, None, List, refl, sym, ap}
use Rattle.std.proofs.lemmas.Bool.{and_from}
use Rattle.vx_block.specs.Geometry.{is_geometry, is_region_size}
use Rattle.vx_config_parts.specs.declared.object.Object.{Object}
use Rattle.vx_config_parts.specs.declared.fault.Limit.TheVariants as limit
use Rattle.vx_config_parts.specs.declared.fault.ObjectFault.{ObjectFault}
use Rattle.vx_config_parts.specs.declared.fault.ObjectFault.TheVariants.{Limit}
use Rattle.vx_rules.specs.Faults.{first_some, unless}
use Rattle.vx_rules.specs.Limits.{is_short_name}
use Rattle.vx_rules.proofs.Lookups.{first_none, second_none}
use Rattle.vx_new_volumes.specs.Rule.{has_small_numbers, is_request}
use Rattle.vx_new_volumes.specs.declared.volume.NewVolume.{NewVolume}
use Rattle.vx_new_volumes.specs.Tests.{absent_disk, has_room, limit_fault, name_fault, log_fault, new_fault}

steps : (started : Bool) (group : List Object) (n : NewVolume) → new_fault started group n ≡ first_some (absent_disk group n.request.disks) (first_some (limit_fault group n) (first_some (name_fault started group n) (log_fault n)))
unfolding new_fault
steps started group n = refl

picks : {A : Type 0} (a b : Option A) (x : A) → a ≡ Some x → first_some a b ≡ Some x
picks a b x e = ap (λ (o : Option _). first_some o b) e

passes : {A : Type 0} (a b : Option A) → a ≡ None → first_some a b ≡ b
passes a b e = ap (λ (o : Option _). first_some o b) e

module _ (started : Bool) (group : List Object) (n : NewVolume) where
  pub at_disks : (fault : ObjectFault) → absent_disk group n.request.disks ≡ Some fault → Some fault ≡ new_fault started group n
  at_disks fault e = sym (steps started group n ∙ picks _ _ fault e)

  past_disks : absent_disk group n.request.disks ≡ None → new_fault started group n ≡ first_some (limit_fault group n) (first_some (name_fault started group n) (log_fault n))
  past_disks e = steps started group n ∙ passes (absent_disk group n.request.disks) _ e

  pub at_limits : (fault : ObjectFault) → absent_disk group n.request.disks ≡ None → limit_fault group n ≡ Some fault → Some fault ≡ new_fault started group n
  at_limits fault d e = sym (past_disks d ∙ picks _ _ fault e)

  past_limits : absent_disk group n.request.disks ≡ None → limit_fault group n ≡ None → new_fault started group n ≡ first_some (name_fault started group n) (log_fault n)
  past_limits d e = past_disks d ∙ passes (limit_fault group n) _ e

  pub at_names : (fault : ObjectFault) → absent_disk group n.request.disks ≡ None → limit_fault group n ≡ None → name_fault started group n ≡ Some fault → Some fault ≡ new_fault started group n
  at_names fault d l e = sym (past_limits d l ∙ picks _ _ fault e)

  pub at_logs : absent_disk group n.request.disks ≡ None → limit_fault group n ≡ None → name_fault started group n ≡ None → log_fault n ≡ new_fault started group n
  at_logs d l e = sym (past_limits d l ∙ passes (name_fault started group n) _ e)

holds : {A : Type 0} (b : Bool) (x : A) → unless b x ≡ None → b ≡ true
holds true x e = refl
holds false x e = cc

pub valid : (group : List Object) (n : NewVolume) → limit_fault group n ≡ None → is_request n.request ≡ true
valid group n e =
    let short = second_none (unless (has_room group) (Limit limit.Volumes)) _ e in
    let region = second_none (unless (is_short_name n.vol) (Limit limit.Name)) _ short in
    let regions = second_none (unless (is_region_size n.request.region) (Limit limit.Region)) _ region in
    let geometry = first_none (unless (is_geometry n.request.length n.request.region) (Limit limit.Regions)) (unless (has_small_numbers n.request) (Limit limit.Number)) regions in
    let numbers = second_none (unless (is_geometry n.request.length n.request.region) (Limit limit.Regions)) (unless (has_small_numbers n.request) (Limit limit.Number)) regions in
    and_from _ _ (holds _ _ geometry) (holds _ _ numbers)
