-- What a valid configuration keeps: a list of rules. The first that is broken is answered, with the first record that
-- breaks it.
use Rattle.std.specs.Prelude.{Bool, Option, None, List, [], ◌∷◌, is_none}
use Rattle.vx_config_parts.specs.declared.object.Object.{Object}
use Rattle.vx_rules.specs.declared.rule.Rule.{Rule}
use Rattle.vx_rules.specs.declared.rule.Rule.TheVariants as rule
use Rattle.vx_config_parts.specs.declared.fault.Limit.TheVariants as limit
use Rattle.vx_config_parts.specs.declared.fault.ObjectFault.{ObjectFault}
use Rattle.vx_config_parts.specs.declared.fault.ObjectFault.TheVariants.{Limit}
use Rattle.vx_rules.specs.Faults.{first_some, unless, first_of}
use Rattle.vx_rules.specs.References.{repeated_after, reference_fault}
use Rattle.vx_rules.specs.Limits.{has_one_group, numbers_fit, slot_is_own, volumes_are_few, name_is_short, region_is_good, regions_are_good, plexes_are_good}
use Rattle.vx_rules.specs.Overlap.{overlap_fault}
use Rattle.vx_rules.specs.Space.{outside_fault}
use Rattle.vx_rules.specs.Whole.{whole_fault}
use Rattle.vx_rules.specs.Maps.{map_fault, log_fault, prefer_fault}
use Rattle.vx_rules.specs.Relations.{relation_fault, relation_log_fault, shape_fault}

-- the fault of a record under a rule on each record
unfoldable pub fault_in : Rule → List Object → Object → Option ObjectFault
fault_in rule.OneGroup all o = None
fault_in rule.NamesDiffer all o = None
fault_in rule.ReferencesAreThere all o = reference_fault all o
fault_in rule.NumbersFit all o = unless (numbers_fit o) (Limit limit.Number)
fault_in rule.SlotsDiffer all o = unless (slot_is_own all o) (Limit limit.Disks)
fault_in rule.VolumesAreFew all o = None
fault_in rule.NamesAreShort all o = unless (name_is_short o) (Limit limit.Name)
fault_in rule.RegionSizesAreGood all o = unless (region_is_good o) (Limit limit.Region)
fault_in rule.RegionsAreGood all o = unless (regions_are_good o) (Limit limit.Regions)
fault_in rule.PlexesAreGood all o = unless (plexes_are_good all o) (Limit limit.Plexes)
fault_in rule.SubdisksLieInside all o = outside_fault all o
fault_in rule.SubdisksDoNotOverlap all o = None
fault_in rule.PlexesAreWhole all o = whole_fault all o
fault_in rule.MapsAreGood all o = map_fault all o
fault_in rule.LogsAreGood all o = log_fault all o
fault_in rule.PreferredPlexIsThere all o = prefer_fault all o
fault_in rule.RelationsAreAlone all o = relation_fault all o
fault_in rule.RelatedVolumesHaveLogs all o = relation_log_fault all o
fault_in rule.RelatedVolumesHaveOneShape all o = shape_fault all o

-- the fault under a rule on the records together
unfoldable pub fault_over : Rule → List Object → Option ObjectFault
fault_over rule.OneGroup all = unless (has_one_group all) (Limit limit.Group)
fault_over rule.NamesDiffer all = repeated_after [] all
fault_over rule.VolumesAreFew all = unless (volumes_are_few all) (Limit limit.Volumes)
fault_over rule.SubdisksDoNotOverlap all = overlap_fault all
fault_over _ all = None

-- the fault under a rule: that of the first record that breaks it
unfoldable pub fault_of : Rule → List Object → Option ObjectFault
fault_of r all = first_some (fault_over r all) (first_of (fault_in r all) all)

-- the rules in their order
abbrev pub rules : List Rule
rules =
    rule.OneGroup ∷ rule.NamesDiffer ∷ rule.ReferencesAreThere ∷ rule.SlotsDiffer ∷ rule.VolumesAreFew ∷ rule.NamesAreShort ∷ rule.RegionSizesAreGood
    ∷ rule.RegionsAreGood ∷ rule.PlexesAreGood ∷ rule.SubdisksLieInside ∷ rule.SubdisksDoNotOverlap ∷ rule.PlexesAreWhole ∷ rule.MapsAreGood ∷ rule.LogsAreGood
    ∷ rule.PreferredPlexIsThere ∷ rule.RelationsAreAlone ∷ rule.RelatedVolumesHaveLogs ∷ rule.RelatedVolumesHaveOneShape ∷ rule.NumbersFit ∷ []

-- the fault under the first of the rules that is broken
abbrev pub first_broken_of : List Rule → List Object → Option ObjectFault
first_broken_of [] all = None
first_broken_of (r ∷ rs) all = first_some (fault_of r all) (first_broken_of rs all)

-- the refusal of a configuration with these records
unfoldable pub first_broken : List Object → Option ObjectFault
first_broken all = first_broken_of rules all

-- no rule is broken
unfoldable pub is_valid : List Object → Bool
is_valid all = is_none (first_broken all)
