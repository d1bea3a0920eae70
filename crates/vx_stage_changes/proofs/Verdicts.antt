-- What a new volume without records is refused with.
use Rattle.std.proofs.Common.{◌≡◌, inr, None, List, Ok, Bool, subst}
use Rattle.vx_base.specs.Named.{Word}
use Rattle.vx_config_parts.specs.declared.object.Object.{Object}
use Rattle.vx_objects.specs.Config.{objects_of}
use Rattle.vx_new_volumes.specs.declared.parts.Plan.{Plan}
use Rattle.vx_new_volumes.specs.Planned.{IsPlanned}
use Rattle.vx_new_volumes.specs.declared.volume.NewVolume.{NewVolume}
use Rattle.vx_new_volumes.specs.Records.{records_of}
use Rattle.vx_moments.specs.World.{Group}
use Rattle.vx_stages.specs.Sources.{IsUnlaid, test_fault}
use Rattle.vx_house.specs.declared.stop.Stop.{Stop}
use Rattle.vx_house.specs.declared.stop.Stop.TheVariants as stops
use Rattle.vx_stage_changes.specs.Judging.{IsUnnamed, StopsAs}

-- what has a plan, of whose records a name would be too long
pub unnamed_is_unlaid : (is_started : Word → Bool) (g : Group) (n : NewVolume) (plan : Plan) (objects : List Object) → objects ≡ objects_of g.config → test_fault is_started g n ≡ None → IsPlanned g.config g.good n.request (Ok plan) →
    (stop : Stop) → StopsAs (IsUnnamed objects n plan) stop → StopsAs (IsUnlaid is_started g n) stop
unnamed_is_unlaid is_started g n plan objects all tested planned (stops.Ended end) (r, is, (none, why)) = (r, is, inr (tested, inr (plan, planned, subst (λ os. records_of os n plan ≡ None) all none, why)))
unnamed_is_unlaid is_started g n plan objects all tested planned stops.OutOfMemory why = tt
