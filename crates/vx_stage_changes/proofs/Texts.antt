-- A configuration that is planned, and why one is not.
use Rattle.std.proofs.Common.{◌≡◌, ◌∙◌, ℕ, ◌+◌, ◌<◌, List, Option, Some, None, inl, inr, length, refl, sym, ap, subst, arith}
use Rattle.vx_config_parts.specs.declared.fault.ObjectFault.{ObjectFault}
use Rattle.vx_config_parts.specs.declared.object.Object.{Object}
use Rattle.vx_objects.specs.declared.config.Config.{Config}
use Rattle.vx_objects.specs.declared.edit.Edit.{Edit}
use Rattle.vx_objects.specs.Applied.{IsEdited, IsRefusedBy}
use Rattle.vx_objects.specs.Config.{objects_of, IsMadeOf}
use Rattle.vx_objects.specs.Edits.{edited_by, refusal_of}
use Rattle.vx_objects.specs.Parts.{in_kinds}
use Rattle.vx_objects.proofs.InKinds.{are_sorted}
use Rattle.vx_answers.specs.declared.answer.End.TheVariants as ends
use Rattle.vx_answers.specs.declared.refusal.Refusal.{Refusal}
use Rattle.vx_answers.specs.declared.refusal.Refusal.TheVariants as refusal
use Rattle.vx_stages.specs.Refusals.{refusal_by, refusal_from}
use Rattle.vx_house.specs.declared.stop.Stop.{Stop}
use Rattle.vx_house.specs.declared.stop.Stop.TheVariants as stops
use Rattle.vx_stage_changes.specs.Planning.{broken_stop, stop_by, IsUnedited, IsLongBy, IsUnplanned, IsUnplannedBy}

pub sorted : (config : Config) → in_kinds (objects_of config) ≡ objects_of config
sorted c = are_sorted c.disks c.subdisks c.plexes c.volumes c.dcos c.snaps c.group c.version

pub copied_is : (config copy : Config) (all : List Object) → all ≡ objects_of config → IsMadeOf all copy → objects_of copy ≡ objects_of config
copied_is config copy all are made = made ∙ ap in_kinds are ∙ sorted config

-- the edits of a copy are those of the configuration
pub edited_copy : (edits : List Edit) (config copy next : Config) → objects_of copy ≡ objects_of config → IsEdited edits copy next → IsEdited edits config next
edited_copy edits config copy next same edited = edited ∙ ap (λ os. in_kinds (edited_by edits os)) same

broken_by : (edits : List Edit) (config : Config) (f : ObjectFault) → refusal_of edits (objects_of config) ≡ Some f → IsUnedited edits config (broken_stop f)
broken_by edits config f e = by (refusal_by f) (ap refusal_from e)
  where
    by : (o : Option Refusal) → refusal_from (refusal_of edits (objects_of config)) ≡ o → IsUnedited edits config (stop_by o)
    by None is = tt
    by (Some r) is = (r, is, refl)

pub unedited : (edits : List Edit) (config copy : Config) (f : ObjectFault) → objects_of copy ≡ objects_of config → IsRefusedBy edits copy f → IsUnedited edits config (broken_stop f)
unedited edits config copy f same (inl wants) = subst (λ x. IsUnedited edits config (broken_stop x)) (sym wants) tt
unedited edits config copy f same (inr broken) = broken_by edits config f (ap (refusal_of edits) (sym same) ∙ broken)

pub long_unplanned : (more : ℕ) (edits : List Edit) (config next : Config) (stop : Stop) → IsEdited edits config next → IsLongBy more next stop → IsUnplannedBy more edits config stop
long_unplanned more edits config next (stops.Ended end) edited is = inr (next, edited, is)
long_unplanned more edits config next stops.OutOfMemory edited is = tt

-- where the text does not grow
pub plain_unplanned : (edits : List Edit) (config : Config) (stop : Stop) → IsUnplannedBy 0 edits config stop → IsUnplanned edits config stop
plain_unplanned edits config stops.OutOfMemory is = tt
plain_unplanned edits config (stops.Ended end) (inl broken) = inl broken
plain_unplanned edits config (stops.Ended end) (inr (next, edited, (text, printed, long, same))) =
    let none : length text + 0 ≡ length text = omega arith in
    inr (next, edited, (text, printed, subst (λ n. 522240 < n) none long, same ∙ ap (λ n. ends.Refused (refusal.TooLong n)) none))
