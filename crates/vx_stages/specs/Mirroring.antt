-- `vxassist mirror`: the tests before the plan, in their order, what is added to the group, and why the command is refused.
use Rattle.std.specs.Prelude.{◌≡◌, ◌⊎◌, ℕ, Bool, Option, Some, None, Ok, Err, List, [], ◌∷◌}
use Rattle.vx_base.specs.Named.{Word}
use Rattle.vx_config_parts.specs.declared.object.Object.{Object}
use Rattle.vx_config_parts.specs.declared.plex.Plex.{Plex}
use Rattle.vx_config_parts.specs.declared.vol.Vol.{Vol}
use Rattle.vx_config_parts.specs.declared.fault.Limit.TheVariants as limit
use Rattle.vx_rules.specs.Faults.{first_some}
use Rattle.vx_objects.specs.declared.config.Config.{Config}
use Rattle.vx_objects.specs.declared.edit.Edit.TheVariants.{Make}
use Rattle.vx_objects.specs.Applied.{IsEdited}
use Rattle.vx_objects.specs.Config.{objects_of}
use Rattle.vx_objects.specs.Edits.{refusal_of}
use Rattle.vx_new_volumes.specs.declared.fault.PlanFault.{PlanFault}
use Rattle.vx_new_volumes.specs.declared.parts.Plan.{Plan}
use Rattle.vx_new_volumes.specs.declared.request.Request.{Request}
use Rattle.vx_new_volumes.specs.Planned.{IsPlanned}
use Rattle.vx_new_volumes.specs.Mirrors.{free_map, lowest_plex, mirror_of, mirror_request, room_fault}
use Rattle.vx_new_volumes.specs.Tests.{absent_disk}
use Rattle.vx_answers.specs.declared.answer.End.{End}
use Rattle.vx_answers.specs.declared.refusal.Refusal.{Refusal}
use Rattle.vx_answers.specs.declared.refusal.Refusal.TheVariants as refusal
use Rattle.vx_moments.specs.World.{Group}
use Rattle.vx_stages.specs.Ends.{RefusedAsLong, refused}
use Rattle.vx_stages.specs.Refusals.{refusal_from}
use Rattle.vx_stages.specs.Sources.{plan_refusal}
use Rattle.vx_stages.specs.Tests.{unless, volume_in}

-- ---- the tests before the plan

-- the first test that the volume does not pass, which runs or not: a disk is none of the group's, it is not started, it has 32 plexes,
-- it has no log
abbrev pub volume_refusal : Bool → Config → List Word → Vol → Option Refusal
volume_refusal runs c disks v =
    first_some (refusal_from (absent_disk (objects_of c) disks))
    (first_some (unless runs (refusal.NotStarted v.name))
    (refusal_from (room_fault (objects_of c) v)))

-- .. or there is none of the name
abbrev pub found_refusal : Bool → Config → Word → List Word → Option Vol → Option Refusal
found_refusal runs c name disks None = Some (refusal.NoObject name)
found_refusal runs c name disks (Some v) = volume_refusal runs c disks v

-- the first test before the plan that refuses a mirror of the volume of the name on these disks, or on any where none is named
abbrev pub mirror_refusal : Bool → Config → Word → List Word → Option Refusal
mirror_refusal runs c name disks = found_refusal runs c name disks (volume_in name c.volumes)

-- ---- the plan

-- The records of the mirror are these, with this map: it is like the volume's data plex with the lowest map, lies as is planned on good
-- disks that hold none of its data plexes, and has the lowest map that is free.
pub record IsMirrorLaid (c : Config) (good : ℕ) (v : Vol) (disks : List Word) (m : ℕ) (added : List Object) : Type 0 where
  pub lowest : Plex
  pub lowest_is : lowest_plex v.name (objects_of c) ≡ Some lowest
  pub plan : Plan
  pub planned : IsPlanned c good (mirror_request (objects_of c) v lowest disks) (Ok plan)
  pub free : free_map (objects_of c) v.name ≡ Some m
  pub records : mirror_of (objects_of c) v lowest m plan ≡ Some added

-- the request has no plan: there are too few disks, or there is too little space
abbrev pub HasNoPlan : Config → ℕ → Request → Refusal → Type 0
HasNoPlan c good request r = (fault : PlanFault) × IsPlanned c good request (Err fault) × (plan_refusal fault ≡ Some r)

-- a plan has no records: no map is free, or a name would be too long
abbrev pub HasNoRecords : List Object → Vol → Plex → Plan → Refusal → Type 0
HasNoRecords group v lowest plan r =
    ((free_map group v.name ≡ None) × (r ≡ refusal.NoMap v.name))
    ⊎ ((m : ℕ) × (free_map group v.name ≡ Some m) × (mirror_of group v lowest m plan ≡ None) × (r ≡ refusal.Limit limit.Name))

-- there are no records of a mirror: it has no plan, or the plan has no records
pub record IsMirrorUnlaid (c : Config) (good : ℕ) (v : Vol) (disks : List Word) (r : Refusal) : Type 0 where
  pub lowest : Plex
  pub lowest_is : lowest_plex v.name (objects_of c) ≡ Some lowest
  pub why : HasNoPlan c good (mirror_request (objects_of c) v lowest disks) r
      ⊎ ((plan : Plan) × IsPlanned c good (mirror_request (objects_of c) v lowest disks) (Ok plan) × HasNoRecords (objects_of c) v lowest plan r)

-- ---- why the command is refused

-- the command ends by a refusal with such a cause
abbrev pub RefusedFor : (Refusal → Type 0) → End → Type 0
RefusedFor IsCause end = (r : Refusal) × IsCause r × (end ≡ refused r)

-- a test before the plan refuses it
abbrev pub IsMirrorUnfit : Bool → Config → Word → List Word → Refusal → Type 0
IsMirrorUnfit runs c name disks r = mirror_refusal runs c name disks ≡ Some r

-- the configuration does not take the records: they break a rule, or the text with them is too long
abbrev pub IsAdditionRefused : Config → List Object → End → Type 0
IsAdditionRefused c added end =
    RefusedFor (λ r. refusal_from (refusal_of (Make added ∷ []) (objects_of c)) ≡ Some r) end
    ⊎ ((next : Config) × IsEdited (Make added ∷ []) c next × RefusedAsLong next end)

-- there are no records of a mirror, or the configuration does not take them
abbrev pub IsMirrorUnplanned : Config → ℕ → Vol → List Word → End → Type 0
IsMirrorUnplanned c good v disks end =
    RefusedFor (IsMirrorUnlaid c good v disks) end
    ⊎ ((m : ℕ) × (added : List Object) × IsMirrorLaid c good v disks m added × IsAdditionRefused c added end)

-- The command is refused in a group: a test before the plan refuses it, or all let it through and nothing can be planned.
abbrev pub IsMirrorRefused : (runs : Bool) → Group → Word → List Word → End → Type 0
IsMirrorRefused runs g name disks end =
    RefusedFor (IsMirrorUnfit runs g.config name disks) end
    ⊎ ((v : Vol) × (volume_in name g.config.volumes ≡ Some v) × (mirror_refusal runs g.config name disks ≡ None) × IsMirrorUnplanned g.config g.good v disks end)
