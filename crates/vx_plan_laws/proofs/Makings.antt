-- Records that the tests let through are added: no rule is broken.
use Rattle.std.proofs.Common.{◌≡◌, Bool, true, false, not, ◌||◌, is_some, is_none, Option, Some, None, List, [], ◌∷◌, ◌++◌, refl, ◌∙◌, ap, subst, if◌then◌else◌}
use Rattle.vx_base.specs.Named.{Word}
use Rattle.vx_copies.specs.Lists.{AllOf}
use Rattle.vx_rules.specs.Overlap.{first_overlap, overlap_of}
use Rattle.vx_config_parts.specs.declared.fault.Limit.TheVariants as limit
use Rattle.vx_config_parts.specs.declared.fault.ObjectFault.{ObjectFault}
use Rattle.vx_config_parts.specs.declared.fault.ObjectFault.TheVariants as fault
use Rattle.vx_config_parts.specs.declared.vol.PolicyKind.{PolicyKind}
use Rattle.vx_config_parts.specs.declared.vol.PolicyKind.TheVariants as kind
use Rattle.vx_config_parts.specs.declared.object.Object.{Object}
use Rattle.vx_config_parts.specs.declared.object.Object.TheVariants.{GroupRecord, DiskRecord, SubdiskRecord, PlexRecord, VolRecord, DcoRecord, SnapRecord}
use Rattle.vx_config_parts.specs.Objects.{name_of}
use Rattle.vx_rules.specs.declared.rule.Rule.{Rule}
use Rattle.vx_rules.specs.declared.rule.Rule.TheVariants as rule
use Rattle.vx_rules.specs.Adding.{firsts_after, firsts, fault_by, first_broken_by, had_fault}
use Rattle.vx_rules.specs.Faults.{first_some, unless, first_of}
use Rattle.vx_rules.specs.Limits.{has_one_group, numbers_fit, slot_is_own, volumes_are_few, name_is_short, region_is_good, regions_are_good, plexes_are_good}
use Rattle.vx_rules.specs.Maps.{map_fault, log_fault, prefer_fault, prefer_fault_of, maps_are_good, logs_are_good, has_data_plex}
use Rattle.vx_rules.specs.References.{has_name, has_disk, has_plex, has_vol, has_dco_of, has_vol_with, missing, reference_fault, repeated_after}
use Rattle.vx_rules.specs.Relations.{relation_fault, relation_log_fault, shape_fault, relation_is_alone, is_prepared, shapes_are_equal}
use Rattle.vx_rules.specs.Rules.{fault_in, fault_over, fault_of, first_broken}
use Rattle.vx_rules.specs.Space.{outside_fault, lies_inside}
use Rattle.vx_rules.specs.Whole.{whole_fault, is_whole}
use Rattle.vx_objects.specs.declared.edit.Edit.TheVariants.{Make}
use Rattle.vx_objects.specs.Edits.{change, added, target_fault, refusal_of}
use Rattle.vx_objects.specs.Parts.{in_kinds}
use Rattle.vx_objects.proofs.OneGroup.{first_none, second_none}
use Rattle.vx_stages.specs.Making.{reference_rules, limit_rules, space_rules, broken, started_name, adding_refusal}
use Rattle.vx_stages.specs.Refusals.{refusal_from}
use Rattle.vx_plan_laws.proofs.Differ.{new_name, once}
use Rattle.vx_plan_laws.proofs.FirstRefusals.{over_all, in_all}
use Rattle.vx_plan_laws.proofs.Joins.{all_stay}
use Rattle.vx_plan_laws.proofs.KindOrder.{sorted}

-- ---- each rule that is broken is answered

-- want of memory
abbrev is_memory : Option ObjectFault → Bool
is_memory (Some fault.OutOfMemory) = true
is_memory _ = false

heard : (f : Option ObjectFault) → refusal_from f ≡ None → is_memory f ≡ false → f ≡ None
heard None e m = refl
heard (Some fault.OutOfMemory) e m = cc
heard (Some f) e m = cc

first_told : (a b : Option ObjectFault) → is_memory a ≡ false → is_memory b ≡ false → is_memory (first_some a b) ≡ false
first_told None b e f = f
first_told (Some x) b e f = e

unless_told : (holds : Bool) (f : ObjectFault) → is_memory (Some f) ≡ false → is_memory (unless holds f) ≡ false
unless_told true f e = refl
unless_told false f e = e

missing_told : (a : Option Word) (is_there : Word → Bool) → is_memory (missing a is_there) ≡ false
missing_told None is_there = refl
missing_told (Some name) is_there = unless_told (is_there name) (fault.NoObject name) refl

reference_told : (all : List Object) (o : Object) → is_memory (reference_fault all o) ≡ false
reference_told all (GroupRecord g) = refl
reference_told all (DiskRecord d) = refl
reference_told all (SubdiskRecord s) = first_told (unless (has_disk s.disk all) (fault.NoObject s.disk)) (missing s.plex (λ p. has_plex p all)) (unless_told (has_disk s.disk all) (fault.NoObject s.disk) refl) (missing_told s.plex (λ p. has_plex p all))
reference_told all (PlexRecord p) = missing_told p.vol (λ v. has_vol v all)
reference_told all (VolRecord v) = first_told (missing v.prefer (λ p. has_plex p all)) (missing v.dco (λ d. has_dco_of d v.name all)) (missing_told v.prefer (λ p. has_plex p all)) (missing_told v.dco (λ d. has_dco_of d v.name all))
reference_told all (DcoRecord d) = unless_told (has_vol_with d.vol d.name all) (fault.NoObject d.vol) refl
reference_told all (SnapRecord s) = first_told (unless (has_vol s.vol all) (fault.NoObject s.vol)) (unless (has_vol s.of all) (fault.NoObject s.of)) (unless_told (has_vol s.vol all) (fault.NoObject s.vol) refl) (unless_told (has_vol s.of all) (fault.NoObject s.of) refl)

outside_told : (all : List Object) (o : Object) → is_memory (outside_fault all o) ≡ false
outside_told all (SubdiskRecord s) = unless_told (lies_inside all s) (fault.Outside s.name) refl
outside_told all o = refl

whole_told : (all : List Object) (o : Object) → is_memory (whole_fault all o) ≡ false
whole_told all (PlexRecord p) = unless_told (is_whole all p) (fault.NotWhole p.name) refl
whole_told all o = refl

map_told : (all : List Object) (o : Object) → is_memory (map_fault all o) ≡ false
map_told all (VolRecord v) = unless_told (maps_are_good all v) (fault.NoMap v.name) refl
map_told all (PlexRecord p) = unless_told (is_some p.vol || is_none p.map) (fault.NoMap p.name) refl
map_told all o = refl

log_told : (all : List Object) (o : Object) → is_memory (log_fault all o) ≡ false
log_told all (VolRecord v) = unless_told (logs_are_good all v.name v.dco) (fault.NoLog v.name) refl
log_told all o = refl

policy_told : (all : List Object) (vol : Word) (rdpol : PolicyKind) (prefer : Option Word) → is_memory (prefer_fault_of all vol rdpol prefer) ≡ false
policy_told all vol kind.Prefer (Some plex) = unless_told (has_data_plex plex vol all) (fault.NoObject plex) refl
policy_told all vol kind.Prefer None = refl
policy_told all vol kind.Round (Some plex) = refl
policy_told all vol kind.Round None = refl
policy_told all vol kind.Select (Some plex) = refl
policy_told all vol kind.Select None = refl

prefer_told : (all : List Object) (o : Object) → is_memory (prefer_fault all o) ≡ false
prefer_told all (VolRecord v) = policy_told all v.name v.rdpol v.prefer
prefer_told all o = refl

relation_told : (all : List Object) (o : Object) → is_memory (relation_fault all o) ≡ false
relation_told all (SnapRecord s) = unless_told (relation_is_alone all s) (fault.InUse s.vol) refl
relation_told all o = refl

relation_log_told : (all : List Object) (o : Object) → is_memory (relation_log_fault all o) ≡ false
relation_log_told all (SnapRecord s) = first_told (unless (is_prepared all s.vol) (fault.NoLog s.vol)) (unless (is_prepared all s.of) (fault.NoLog s.of)) (unless_told (is_prepared all s.vol) (fault.NoLog s.vol) refl) (unless_told (is_prepared all s.of) (fault.NoLog s.of) refl)
relation_log_told all o = refl

shape_told : (all : List Object) (o : Object) → is_memory (shape_fault all o) ≡ false
shape_told all (SnapRecord s) = unless_told (shapes_are_equal all s) (fault.Limit limit.Region) refl
shape_told all o = refl

told_in : (r : Rule) (all : List Object) (o : Object) → is_memory (fault_in r all o) ≡ false
unfolding fault_in
told_in rule.ReferencesAreThere all o = reference_told all o
told_in rule.NumbersFit all o = unless_told (numbers_fit o) (fault.Limit limit.Number) refl
told_in rule.SlotsDiffer all o = unless_told (slot_is_own all o) (fault.Limit limit.Disks) refl
told_in rule.NamesAreShort all o = unless_told (name_is_short o) (fault.Limit limit.Name) refl
told_in rule.RegionSizesAreGood all o = unless_told (region_is_good o) (fault.Limit limit.Region) refl
told_in rule.RegionsAreGood all o = unless_told (regions_are_good o) (fault.Limit limit.Regions) refl
told_in rule.PlexesAreGood all o = unless_told (plexes_are_good all o) (fault.Limit limit.Plexes) refl
told_in rule.SubdisksLieInside all o = outside_told all o
told_in rule.PlexesAreWhole all o = whole_told all o
told_in rule.MapsAreGood all o = map_told all o
told_in rule.LogsAreGood all o = log_told all o
told_in rule.PreferredPlexIsThere all o = prefer_told all o
told_in rule.RelationsAreAlone all o = relation_told all o
told_in rule.RelatedVolumesHaveLogs all o = relation_log_told all o
told_in rule.RelatedVolumesHaveOneShape all o = shape_told all o
told_in r all o = refl

repeated_told : (before os : List Object) → is_memory (repeated_after before os) ≡ false
repeated_told before [] = refl
repeated_told before (o ∷ os) =
    first_told (unless (not (has_name (name_of o) before)) (fault.Exists (name_of o))) (repeated_after (before ++ o ∷ []) os) (unless_told (not (has_name (name_of o) before)) (fault.Exists (name_of o)) refl) (repeated_told (before ++ o ∷ []) os)

overlap_told : (f : Option Word) → is_memory (overlap_of f) ≡ false
overlap_told None = refl
overlap_told (Some name) = refl

told_over : (r : Rule) (all : List Object) → is_memory (fault_over r all) ≡ false
unfolding fault_over
told_over rule.OneGroup all = unless_told (has_one_group all) (fault.Limit limit.Group) refl
told_over rule.NamesDiffer all = repeated_told [] all
told_over rule.VolumesAreFew all = unless_told (volumes_are_few all) (fault.Limit limit.Volumes) refl
told_over rule.SubdisksDoNotOverlap all = overlap_told (first_overlap all)
told_over r all = refl

told_of : (check : Object → Option ObjectFault) → ((o : Object) → is_memory (check o) ≡ false) → (os : List Object) → is_memory (first_of check os) ≡ false
told_of check each [] = refl
told_of check each (o ∷ os) = first_told (check o) (first_of check os) (each o) (told_of check each os)

told : (rs : List Rule) (known all : List Object) → is_memory (first_broken_by rs known all) ≡ false
told [] known all = refl
told (r ∷ rs) known all =
    first_told (fault_by r known all) (first_broken_by rs known all)
    (first_told (fault_over r all) (first_of (fault_in r known) all) (told_over r all) (told_of (fault_in r known) (told_in r known) all))
    (told rs known all)

-- ---- each rule holds

hold_by : (known all : List Object) (rs : List Rule) → first_broken_by rs known all ≡ None → AllOf (λ r. fault_by r known all ≡ None) rs
hold_by known all [] e = tt
hold_by known all (r ∷ rs) e = (first_none (fault_by r known all) (first_broken_by rs known all) e, hold_by known all rs (second_none (fault_by r known all) (first_broken_by rs known all) e))

-- every rule is among those of references, of limits and of space
every : (P : Rule → Type 0) → AllOf P reference_rules → AllOf P limit_rules → AllOf P space_rules → (r : Rule) → P r
every P a b c rule.ReferencesAreThere = a.0
every P a b c rule.PreferredPlexIsThere = a.1.0
every P a b c rule.RelationsAreAlone = b.0
every P a b c rule.OneGroup = b.1.0
every P a b c rule.SlotsDiffer = b.1.1.0
every P a b c rule.VolumesAreFew = b.1.1.1.0
every P a b c rule.NamesAreShort = b.1.1.1.1.0
every P a b c rule.RegionSizesAreGood = b.1.1.1.1.1.0
every P a b c rule.RegionsAreGood = b.1.1.1.1.1.1.0
every P a b c rule.PlexesAreGood = b.1.1.1.1.1.1.1.0
every P a b c rule.RelatedVolumesHaveOneShape = b.1.1.1.1.1.1.1.1.0
every P a b c rule.NumbersFit = b.1.1.1.1.1.1.1.1.1.0
every P a b c rule.NamesDiffer = c.0
every P a b c rule.SubdisksDoNotOverlap = c.1.0
every P a b c rule.SubdisksLieInside = c.1.1.0
every P a b c rule.PlexesAreWhole = c.1.1.1.0
every P a b c rule.LogsAreGood = c.1.1.1.1.0
every P a b c rule.RelatedVolumesHaveLogs = c.1.1.1.1.1.0
every P a b c rule.MapsAreGood = c.1.1.1.1.1.1.0

-- where names differ each record is the first of its name
all_first : (before os : List Object) → repeated_after before os ≡ None → firsts_after before os ≡ os
all_first before [] e = refl
all_first before (o ∷ os) e =
    ap (λ (b : Bool). if b then firsts_after before os else o ∷ firsts_after (before ++ o ∷ []) os) (new_name before os o e)
    ∙ ap (λ (rest : List Object). o ∷ rest) (all_first (before ++ o ∷ []) os (second_none (unless (not (has_name (name_of o) before)) (fault.Exists (name_of o))) (repeated_after (before ++ o ∷ []) os) e))

module _ (all : List Object) (references : refusal_from (first_broken_by reference_rules (firsts all) all) ≡ None) (limits : refusal_from (first_broken_by limit_rules (firsts all) all) ≡ None) (space : refusal_from (first_broken_by space_rules (firsts all) all) ≡ None) where
  by_rule : (r : Rule) → fault_by r (firsts all) all ≡ None
  by_rule =
      every (λ r. fault_by r (firsts all) all ≡ None)
      (hold_by (firsts all) all reference_rules (heard (first_broken_by reference_rules (firsts all) all) references (told reference_rules (firsts all) all)))
      (hold_by (firsts all) all limit_rules (heard (first_broken_by limit_rules (firsts all) all) limits (told limit_rules (firsts all) all)))
      (hold_by (firsts all) all space_rules (heard (first_broken_by space_rules (firsts all) all) space (told space_rules (firsts all) all)))

  differ : repeated_after [] all ≡ None
  unfolding fault_over
  differ = first_none (fault_over rule.NamesDiffer all) (first_of (fault_in rule.NamesDiffer (firsts all)) all) (by_rule rule.NamesDiffer)

  firsts_are : firsts all ≡ all
  unfolding firsts
  firsts_are = all_first [] all differ

  hold : (r : Rule) → fault_of r all ≡ None
  unfolding fault_of
  hold r = subst (λ (known : List Object). fault_by r known all ≡ None) firsts_are (by_rule r)

  added_kept : first_broken (in_kinds all) ≡ None
  added_kept = sorted all (over_all all hold) (in_all all hold) (once all differ)

none_first : {A : Type 0} (a b : Option A) → first_some a b ≡ None → (a ≡ None) × (b ≡ None)
none_first None b e = (refl, e)
none_first (Some x) b e = absurd (cc)

-- no rule refuses records that the tests of `vxmake` let through
pub making_kept : (is_started : Word → Bool) (group made : List Object) → adding_refusal is_started group made ≡ None → refusal_of (Make made ∷ []) group ≡ None
unfolding change added target_fault
making_kept is_started group made e =
    let all : List Object = group ++ made in
    let known : List Object = firsts all in
    let a = none_first (broken reference_rules known all) (first_some (refusal_from (first_of (had_fault group) made)) (first_some (broken limit_rules known all) (first_some (started_name is_started made) (broken space_rules known all)))) e in
    let b = none_first (refusal_from (first_of (had_fault group) made)) (first_some (broken limit_rules known all) (first_some (started_name is_started made) (broken space_rules known all))) a.1 in
    let c = none_first (broken limit_rules known all) (first_some (started_name is_started made) (broken space_rules known all)) b.1 in
    let d = none_first (started_name is_started made) (broken space_rules known all) c.1 in
    ap (λ (os : List Object). first_broken (in_kinds (os ++ made))) (all_stay group)
    ∙ added_kept all a.0 c.0 d.1
