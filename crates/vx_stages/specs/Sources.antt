-- Where records that are added to a group come from: a text, or the plan of a new volume.
use Rattle.std.specs.Prelude.{◌≡◌, ◌⊎◌, ℕ, Bool, true, false, Option, Some, None, Ok, Err, List}
use Rattle.std.specs.List.{count_by}
use Rattle.vx_base.specs.Named.{Word}
use Rattle.vx_config_parts.specs.declared.object.Object.{Object}
use Rattle.vx_config_parts.specs.declared.object.Object.TheVariants.{PlexRecord, VolRecord}
use Rattle.vx_config_parts.specs.declared.fault.Limit.TheVariants as limit
use Rattle.vx_config_parts.specs.declared.fault.ObjectFault.{ObjectFault}
use Rattle.vx_record.specs.Grammar.{IsBadLine}
use Rattle.vx_objects.specs.Config.{objects_of}
use Rattle.vx_new_volumes.specs.declared.fault.PlanFault.{PlanFault}
use Rattle.vx_new_volumes.specs.declared.fault.PlanFault.TheVariants as plan_fault
use Rattle.vx_new_volumes.specs.declared.parts.Plan.{Plan}
use Rattle.vx_new_volumes.specs.Planned.{IsPlanned}
use Rattle.vx_new_volumes.specs.declared.volume.NewVolume.{NewVolume}
use Rattle.vx_new_volumes.specs.Records.{records_of}
use Rattle.vx_new_volumes.specs.Tests.{new_fault}
use Rattle.vx_answers.specs.declared.refusal.Refusal.{Refusal}
use Rattle.vx_answers.specs.declared.refusal.Refusal.TheVariants as refusal
use Rattle.vx_moments.specs.World.{Group}
use Rattle.vx_stages.specs.Making.{Adds}
use Rattle.vx_stages.specs.Refusals.{refusal_from}
use Rattle.vx_stages.specs.declared.stage.Source.{Source}
use Rattle.vx_stages.specs.declared.stage.Source.TheVariants as source

-- ---- a new volume

-- the first test before the plan that the new volume does not pass
abbrev pub test_fault : (Word → Bool) → Group → NewVolume → Option ObjectFault
test_fault is_started g n = new_fault (is_started n.vol) (objects_of g.config) n

-- the refusal of a request that has no plan; none for want of memory
abbrev pub plan_refusal : PlanFault → Option Refusal
plan_refusal plan_fault.OutOfMemory = None
plan_refusal (plan_fault.NoSpace have need) = Some (refusal.NoSpace have need)
plan_refusal (plan_fault.TooFewDisks count) = Some (refusal.TooFewDisks count)

-- the new volume passes the tests, and its plan over the good disks of the group makes these records
pub record IsLaid (is_started : Word → Bool) (g : Group) (n : NewVolume) (added : List Object) : Type 0 where
  pub tested : test_fault is_started g n ≡ None
  pub plan : Plan
  pub planned : IsPlanned g.config g.good n.request (Ok plan)
  pub records : records_of (objects_of g.config) n plan ≡ Some added

-- it passes the tests, and there is no plan, or a name of a plan's records would be too long
abbrev pub IsUnplanned : Group → NewVolume → Refusal → Type 0
IsUnplanned g n r =
    ((fault : PlanFault) × IsPlanned g.config g.good n.request (Err fault) × (plan_refusal fault ≡ Some r))
    ⊎ ((plan : Plan) × IsPlanned g.config g.good n.request (Ok plan) × (records_of (objects_of g.config) n plan ≡ None) × (r ≡ refusal.Limit limit.Name))

abbrev pub IsUnlaid : (Word → Bool) → Group → NewVolume → Refusal → Type 0
IsUnlaid is_started g n r = (refusal_from (test_fault is_started g n) ≡ Some r) ⊎ ((test_fault is_started g n ≡ None) × IsUnplanned g n r)

-- ---- by the source

-- the records that are added to the group
abbrev pub AddsFrom : Source → (Word → Bool) → Group → List Object → Type 0
AddsFrom (source.Text text) is_started g added = Adds text added
AddsFrom (source.Volume n) is_started g added = IsLaid is_started g n added

-- why there are none
abbrev pub Denies : Source → (Word → Bool) → Group → Refusal → Type 0
Denies (source.Text text) is_started g r = (line : ℕ) × IsBadLine text line × (r ≡ refusal.BadRecord line)
Denies (source.Volume n) is_started g r = IsUnlaid is_started g n r

-- the first start of a volume makes the word of the record's state longer by one byte
abbrev pub is_raised : Object → Bool
is_raised (PlexRecord p) = true
is_raised (VolRecord v) = true
is_raised other = false

-- by how many bytes the text grows until the command is over: a new volume is started
abbrev pub growth : Source → List Object → ℕ
growth (source.Text text) added = 0
growth (source.Volume n) added = count_by is_raised added
