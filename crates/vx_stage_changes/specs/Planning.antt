-- What edits make of a configuration, before anything is written.
use Rattle.std.specs.Prelude.{◌≡◌, ◌⊎◌, ◌<◌, ◌≤◌, ℕ, Option, Some, None, List, [], ◌∷◌, length}
use Rattle.vx_config_parts.specs.declared.fault.ObjectFault.{ObjectFault}
use Rattle.vx_objects.specs.declared.config.Config.{Config}
use Rattle.vx_objects.specs.declared.edit.Edit.{Edit}
use Rattle.vx_objects.specs.declared.edit.Edit.TheVariants.{SetVol, RemoveVol}
use Rattle.vx_objects.specs.Applied.{IsEdited}
use Rattle.vx_objects.specs.Config.{objects_of}
use Rattle.vx_objects.specs.Edits.{refusal_of}
use Rattle.vx_answers.specs.declared.answer.End.{End}
use Rattle.vx_answers.specs.declared.answer.End.TheVariants as ends
use Rattle.vx_answers.specs.declared.refusal.Refusal.{Refusal}
use Rattle.vx_answers.specs.declared.refusal.Refusal.TheVariants as refusal
use Rattle.vx_moments.specs.Copies.{IsTextOf}
use Rattle.vx_stages.specs.Refusals.{refusal_by, refusal_from}
use Rattle.vx_stages.specs.Ends.{RefusedAsGrown, RefusedAsLong}
use Rattle.vx_stages.specs.Stages.{policy_edit}
use Rattle.vx_stages.specs.Tests.{volume_in}
use Rattle.vx_stages.specs.declared.stage.Change.{Change}
use Rattle.vx_stages.specs.declared.stage.Change.TheVariants as changes
use Rattle.vx_house.specs.declared.stop.Stop.{Stop}
use Rattle.vx_house.specs.declared.stop.Stop.TheVariants as stops
use Rattle.vx_stage_changes.specs.declared.planning.NextConfig.{NextConfig}

-- the stop that a refusal is; want of memory is none
abbrev pub stop_by : Option Refusal → Stop
stop_by None = stops.OutOfMemory
stop_by (Some r) = stops.Ended (ends.Refused r)

-- a broken rule refuses the command
abbrev pub broken_stop : ObjectFault → Stop
broken_stop fault = stop_by (refusal_by fault)

-- the edits break a rule
abbrev pub IsBroken : List Edit → Config → End → Type 0
IsBroken edits config end = (r : Refusal) × (refusal_from (refusal_of edits (objects_of config)) ≡ Some r) × (end ≡ ends.Refused r)

abbrev pub IsUnedited : List Edit → Config → Stop → Type 0
IsUnedited edits config (stops.Ended end) = IsBroken edits config end
IsUnedited edits config stops.OutOfMemory = Unit {0}

-- the text of the configuration, and so many bytes more, are too long
abbrev pub IsLongBy : ℕ → Config → Stop → Type 0
IsLongBy more config (stops.Ended end) = RefusedAsGrown more config end
IsLongBy more config stops.OutOfMemory = Unit {0}

-- a text of so many bytes is too long
abbrev pub IsTooLong : ℕ → Stop → Type 0
IsTooLong bytes stop = (522240 < bytes) × (stop ≡ stops.Ended (ends.Refused (refusal.TooLong bytes)))

-- the text is that of the configuration, and short enough
abbrev pub IsShortText : Config → List ℕ → Type 0
IsShortText config text = IsTextOf config text × (length text ≤ 522240)

-- what is to be committed
abbrev pub IsPlanned : List Edit → Config → NextConfig → Type 0
IsPlanned edits config p = IsEdited edits config p.config × IsShortText p.config p.text.items

-- the edits break a rule, or their text is too long
abbrev pub IsUnplanned : List Edit → Config → Stop → Type 0
IsUnplanned edits config (stops.Ended end) = IsBroken edits config end ⊎ ((next : Config) × IsEdited edits config next × RefusedAsLong next end)
IsUnplanned edits config stops.OutOfMemory = Unit {0}

-- the edits break a rule, or their text, and so many bytes more, are too long
abbrev pub IsUnplannedBy : ℕ → List Edit → Config → Stop → Type 0
IsUnplannedBy more edits config (stops.Ended end) = IsBroken edits config end ⊎ ((next : Config) × IsEdited edits config next × RefusedAsGrown more next end)
IsUnplannedBy more edits config stops.OutOfMemory = Unit {0}

-- the edits of a change, by the configuration
abbrev pub change_edits : Change → Config → List Edit
change_edits (changes.Policy vol policy) config = policy_edit (volume_in vol config.volumes) (λ v. SetVol vol v.state policy)
change_edits (changes.Remove vol) config = RemoveVol vol ∷ []
