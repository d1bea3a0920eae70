-- The name of a new volume, where its tests let it through: nothing of the name is started, and the group records nothing of it.
use Rattle.std.proofs.Common.{◌≡◌, ◌∙◌, ◌||◌, not, Bool, true, false, Option, Some, None, List, [], is_some, refl, ap}
use Rattle.vx_base.specs.Named.{Word}
use Rattle.vx_config_parts.specs.declared.object.Object.{Object}
use Rattle.vx_config_parts.specs.declared.fault.ObjectFault.TheVariants.{Exists}
use Rattle.vx_rules.specs.Faults.{first_some, unless}
use Rattle.vx_rules.specs.References.{has_name}
use Rattle.vx_objects.specs.Config.{objects_of}
use Rattle.vx_objects.proofs.OneGroup.{first_none, second_none}
use Rattle.vx_new_volumes.specs.Records.{dco_name}
use Rattle.vx_new_volumes.specs.Tests.{absent_disk, dco_fault_named, limit_fault, log_fault, name_fault, new_fault}
use Rattle.vx_new_volumes.specs.declared.volume.NewVolume.{NewVolume}
use Rattle.vx_moments.specs.Moment.{Moment}
use Rattle.vx_moments.specs.World.{Volume}
use Rattle.vx_stages.specs.Making.{is_started}
use Rattle.vx_stages.specs.Stages.{IsDone}
use Rattle.vx_stages.specs.declared.stage.Source.TheVariants as source
use Rattle.vx_stages.specs.declared.stage.Stage.TheVariants as stage

pub free_name : (started : Bool) (group : List Object) (n : NewVolume) → new_fault started group n ≡ None → (started ≡ false) × (has_name n.vol group ≡ false)
unfolding new_fault
free_name started group n e =
    let names = first_some (name_fault started group n) (log_fault n) in
    let behind_disks = second_none (absent_disk group n.request.disks) (first_some (limit_fault group n) names) e in
    let named = first_none (name_fault started group n) (log_fault n) (second_none (limit_fault group n) names behind_disks) in
    by started (has_name n.vol group) (first_none (unless (not (started || has_name n.vol group)) (Exists n.vol)) (dco_fault_named group n (dco_name n.vol)) named)
  where
    by : (a b : Bool) → unless (not (a || b)) (Exists n.vol) ≡ None → (a ≡ false) × (b ≡ false)
    by true b e = cc
    by false true e = cc
    by false false e = (refl, refl)

-- nothing of the name is started as the records of a new volume are added
pub unstarted : (n : NewVolume) (old mid : Moment) → IsDone (stage.Make (source.Volume n)) [] old mid → mid.world.volumes n.vol ≡ None
unstarted n old mid (x, is, committed) =
    ap (λ (f : Word → Option Volume). f n.vol) committed.committing.volumes ∙ by (old.world.volumes n.vol) (free_name (is_started old.world n.vol) (objects_of x.group.config) n is.adds.tested).0
  where
    by : (o : Option Volume) → is_some o ≡ false → o ≡ None
    by None e = refl
    by (Some v) e = cc
