-- Records that are added to a group: which of a text, and the tests of all.
use Rattle.std.specs.Prelude.{◌≡◌, ℕ, Bool, if◌then◌else◌, is_some, Option, Some, None, List, [], ◌∷◌, ◌++◌}
use Rattle.std.specs.List.{filter_map}
use Rattle.vx_base.specs.Named.{Word}
use Rattle.vx_record.specs.Content.{Content}
use Rattle.vx_record.specs.Grammar.{Spells}
use Rattle.vx_config_parts.specs.declared.object.Object.{Object}
use Rattle.vx_config_parts.specs.declared.object.Object.TheVariants.{GroupRecord, DiskRecord, SubdiskRecord, PlexRecord, VolRecord, DcoRecord, SnapRecord}
use Rattle.vx_config_parts.specs.declared.plex.PlexKind.{PlexKind}
use Rattle.vx_config_parts.specs.declared.plex.PlexKind.TheVariants as plex_kind
use Rattle.vx_config_parts.specs.declared.state.PlexState.{PlexState}
use Rattle.vx_config_parts.specs.declared.state.PlexState.TheVariants as plex_state
use Rattle.vx_config_parts.specs.declared.state.VolState.TheVariants as vol_state
use Rattle.vx_rules.specs.Adding.{first_broken_by, firsts, had_fault}
use Rattle.vx_rules.specs.Faults.{first_some, first_of}
use Rattle.vx_rules.specs.declared.rule.Rule.{Rule}
use Rattle.vx_rules.specs.declared.rule.Rule.TheVariants as rule
use Rattle.vx_objects.specs.Printed.{AreReadAs}
use Rattle.vx_answers.specs.declared.refusal.Refusal.{Refusal}
use Rattle.vx_answers.specs.declared.refusal.Refusal.TheVariants as refusal
use Rattle.vx_moments.specs.World.{World}
use Rattle.vx_stages.specs.Refusals.{refusal_from}

-- a log that waits for a snapshot goes on waiting; every other plex is empty
abbrev pub made_state : PlexKind → PlexState → PlexState
made_state plex_kind.Log plex_state.DcoSnp = plex_state.DcoSnp
made_state _ _ = plex_state.Empty

-- what becomes of a record: those of groups, disks and relations are passed over
abbrev pub made : Object → Option Object
made (GroupRecord g) = None
made (DiskRecord d) = None
made (SubdiskRecord s) = Some (SubdiskRecord s)
made (PlexRecord p) = Some (PlexRecord (record p { state = made_state p.kind p.state }))
made (VolRecord v) = Some (VolRecord (record v { state = vol_state.Empty }))
made (DcoRecord d) = Some (DcoRecord d)
made (SnapRecord s) = None

-- the records that the text adds
abbrev pub Adds : List ℕ → List Object → Type 0
Adds text added = (rs : List Content) × (all : List Object) × Spells text rs × AreReadAs rs all × (added ≡ filter_map made all)

-- the rules of a configuration by what they answer: what is referred to is there; limits; names, space and logs
abbrev pub reference_rules : List Rule
reference_rules = rule.ReferencesAreThere ∷ rule.PreferredPlexIsThere ∷ []

abbrev pub limit_rules : List Rule
limit_rules =
    rule.RelationsAreAlone ∷ rule.OneGroup ∷ rule.SlotsDiffer ∷ rule.VolumesAreFew ∷ rule.NamesAreShort ∷ rule.RegionSizesAreGood ∷ rule.RegionsAreGood
    ∷ rule.PlexesAreGood ∷ rule.RelatedVolumesHaveOneShape ∷ rule.NumbersFit ∷ []

abbrev pub space_rules : List Rule
space_rules =
    rule.NamesDiffer ∷ rule.SubdisksDoNotOverlap ∷ rule.SubdisksLieInside ∷ rule.PlexesAreWhole ∷ rule.LogsAreGood ∷ rule.RelatedVolumesHaveLogs ∷ rule.MapsAreGood ∷ []

-- the refusal of the first of these rules that is broken
abbrev pub broken : List Rule → List Object → List Object → Option Refusal
broken rules known all = refusal_from (first_broken_by rules known all)

-- the first volume that has the name of a started one
abbrev pub started_name : (Word → Bool) → List Object → Option Refusal
started_name is_started [] = None
started_name is_started (VolRecord v ∷ os) = if is_started v.name then Some (refusal.Exists v.name) else started_name is_started os
started_name is_started (o ∷ os) = started_name is_started os

-- The tests of records that are to be added, in their order: what they refer to is there; it is not the group's; limits
-- are kept; their names are free; they have space, logs and maps. The records with these are all, and those of them that are
-- known by their names.
abbrev pub refusal_among : (Word → Bool) → List Object → List Object → List Object → List Object → Option Refusal
refusal_among is_started group added known all =
    first_some (broken reference_rules known all)
    (first_some (refusal_from (first_of (had_fault group) added))
    (first_some (broken limit_rules known all)
    (first_some (started_name is_started added)
    (broken space_rules known all))))

-- a name that two records have is that of the first
abbrev pub adding_refusal : (Word → Bool) → List Object → List Object → Option Refusal
adding_refusal is_started group added = refusal_among is_started group added (firsts (group ++ added)) (group ++ added)

-- a volume of the name is started
abbrev pub is_started : World → Word → Bool
is_started w vol = is_some (w.volumes vol)
