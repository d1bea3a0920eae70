-- What becomes of the records of a source, before anything is written and behind it.
use Rattle.std.specs.Prelude.{◌≡◌, ◌⊎◌, ℕ, Bool, Option, Some, None, List, [], ◌∷◌, Result, Err, map}
use Rattle.std.specs.List.{filter_map}
use Rattle.vx_pages.specs.declared.local_piece.LocalPiece.{Ghosts}
use Rattle.vx_base.specs.Named.{Word}
use Rattle.vx_piece.specs.Seen.{Seen}
use Rattle.vx_record.specs.Content.{Content}
use Rattle.vx_record.specs.Grammar.{IsBadLine}
use Rattle.vx_copies.specs.Disks.{good_mask}
use Rattle.vx_confdb.specs.Groups.{members}
use Rattle.vx_config_parts.specs.declared.fault.ObjectFault.{ObjectFault}
use Rattle.vx_config_parts.specs.declared.fault.Limit.TheVariants as limit
use Rattle.vx_config_parts.specs.declared.object.Object.{Object}
use Rattle.vx_objects.specs.declared.config.Config.{Config}
use Rattle.vx_objects.specs.declared.edit.Edit.TheVariants.{Make}
use Rattle.vx_objects.specs.Config.{objects_of}
use Rattle.vx_objects.specs.Printed.{AreReadAs}
use Rattle.vx_new_volumes.specs.declared.fault.PlanFault.{PlanFault}
use Rattle.vx_new_volumes.specs.declared.parts.Plan.{Plan}
use Rattle.vx_new_volumes.specs.declared.request.Request.{Request}
use Rattle.vx_new_volumes.specs.Planned.{IsPlanned}
use Rattle.vx_new_volumes.specs.declared.volume.NewVolume.{NewVolume}
use Rattle.vx_new_volumes.specs.Records.{records_of}
use Rattle.vx_answers.specs.declared.answer.End.TheVariants as ends
use Rattle.vx_answers.specs.declared.refusal.Refusal.{Refusal}
use Rattle.vx_answers.specs.declared.refusal.Refusal.TheVariants as refusal
use Rattle.vx_moments.specs.World.{Group}
use Rattle.vx_stages.specs.Making.{made, adding_refusal}
use Rattle.vx_stages.specs.Refusals.{refusal_from}
use Rattle.vx_stages.specs.Sources.{AddsFrom, Denies, growth, plan_refusal}
use Rattle.vx_stages.specs.declared.stage.Source.{Source}
use Rattle.vx_house.specs.View.{member_of}
use Rattle.vx_house.specs.declared.house.Imported.{Imported}
use Rattle.vx_house.specs.declared.stop.Stop.{Stop}
use Rattle.vx_house.specs.declared.stop.Stop.TheVariants as stops
use Rattle.vx_stage_changes.specs.Changing.{ChangeEndsBy}
use Rattle.vx_stage_changes.specs.Planning.{IsUnplannedBy}

-- the records of these are added
abbrev pub AddedOf : List Content → List Object → Type 0
AddedOf rs added = (all : List Object) × AreReadAs rs all × (added ≡ filter_map made all)

-- the imported group, as the world has it
abbrev pub group_now : {P : Type 0} {ghosts : Ghosts P} → (P → Seen) → Imported P ghosts → Group
group_now see g = record {
  config = g.config;
  good = good_mask (members see g.base);
  members = map member_of g.base.disks.items;
  sequence = g.base.sequence;
}

-- the source adds these records to the group, and no test refuses them
pub record IsReady (is_started : Word → Bool) (from : Source) (g : Group) (added : List Object) : Type 0 where
  pub adds : AddsFrom from is_started g added
  pub fine : adding_refusal is_started (objects_of g.config) added ≡ None

-- a line of the text is no record
abbrev pub IsBad : List ℕ → Refusal → Type 0
IsBad text r = (line : ℕ) × IsBadLine text line × (r ≡ refusal.BadRecord line)

-- the fault is one that refuses so
abbrev pub IsFault : Option ObjectFault → Refusal → Type 0
IsFault fault r = refusal_from fault ≡ Some r

-- the request has no plan
abbrev pub HasNoPlan : Config → ℕ → Request → Refusal → Type 0
HasNoPlan config good request r = (fault : PlanFault) × IsPlanned config good request (Err fault) × (plan_refusal fault ≡ Some r)

-- a name of the records of the plan would be too long
abbrev pub IsUnnamed : List Object → NewVolume → Plan → Refusal → Type 0
IsUnnamed group n plan r = (records_of group n plan ≡ None) × (r ≡ refusal.Limit limit.Name)

-- the source has no records, or a test refuses them
abbrev pub IsUnready : (Word → Bool) → Source → Group → Refusal → Type 0
IsUnready is_started from g r = Denies from is_started g r ⊎ ((added : List Object) × AddsFrom from is_started g added × (adding_refusal is_started (objects_of g.config) added ≡ Some r))

-- the stop is a refusal with such a cause, or want of memory
abbrev pub StopsAs : (Refusal → Type 0) → Stop → Type 0
StopsAs IsCause (stops.Ended end) = (r : Refusal) × (end ≡ ends.Refused r) × IsCause r
StopsAs IsCause stops.OutOfMemory = Unit {0}

-- the records are added, or their commit is stopped; or they are refused, or memory is wanting, and the group is as before
abbrev pub MakeEnds : {P : Type 0} {ghosts : Ghosts P} → (P → Seen) → (Word → Bool) → Source → Result (Unit {0}) Stop → Imported P ghosts → Imported P ghosts → Type 0
MakeEnds see is_started from result old new =
    ((added : List Object) × IsReady is_started from (group_now see old) added × ChangeEndsBy see (IsUnplannedBy (growth from added) (Make added ∷ []) old.config) (Make added ∷ []) result old new)
    ⊎ ((new ≡ old) × (stop : Stop) × (result ≡ Err stop) × StopsAs (IsUnready is_started from (group_now see old)) stop)
