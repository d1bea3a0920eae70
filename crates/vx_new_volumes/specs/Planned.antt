-- The answer to a request over a configuration.
use Rattle.std.specs.Prelude.{◌≡◌, ℕ, Result, List}
use Rattle.vx_config_parts.specs.declared.disk.Disk.{Disk}
use Rattle.vx_objects.specs.declared.config.Config.{Config}
use Rattle.vx_space.specs.declared.extent.Extent.{Extent}
use Rattle.vx_space.specs.Disks.{AreGoodDisks}
use Rattle.vx_space.specs.Free.{AreFree}
use Rattle.vx_new_volumes.specs.declared.fault.PlanFault.{PlanFault}
use Rattle.vx_new_volumes.specs.declared.request.Request.{Request}
use Rattle.vx_new_volumes.specs.declared.parts.Plan.{Plan}
use Rattle.vx_new_volumes.specs.Disks.{names_of}
use Rattle.vx_new_volumes.specs.Rule.{rule}

-- the rule's answer over the good disks of the configuration and their free extents
pub record IsPlanned (c : Config) (good : ℕ) (r : Request) (answer : Result Plan PlanFault) : Type 0 where
  pub disks : List Disk
  pub free : List Extent
  pub are_good : AreGoodDisks c good disks
  pub are_free : AreFree c good free
  pub is : rule r (names_of disks) free ≡ answer

-- there is one answer to a request
abbrev pub EachRequestHasOneAnswer : Type 0
EachRequestHasOneAnswer = (c : Config) (good : ℕ) (r : Request) (a b : Result Plan PlanFault) → IsPlanned c good r a → IsPlanned c good r b → a ≡ b
