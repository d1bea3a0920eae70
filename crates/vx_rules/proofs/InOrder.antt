-- The rules that are judged before the records have an index.
use Rattle.std.proofs.Common.{◌≡◌, Bool, Option, Some, None, List, [], ◌∷◌, refl, sym, ◌∙◌}
use Rattle.vx_config_parts.specs.declared.object.Object.{Object}
use Rattle.vx_config_parts.specs.declared.fault.Limit.TheVariants as limit
use Rattle.vx_config_parts.specs.declared.fault.ObjectFault.{ObjectFault}
use Rattle.vx_config_parts.specs.declared.fault.ObjectFault.TheVariants.{Limit}
use Rattle.vx_rules.specs.declared.rule.Rule.TheVariants as rule
use Rattle.vx_rules.specs.Faults.{first_some, unless, first_of}
use Rattle.vx_rules.specs.Limits.{has_one_group}
use Rattle.vx_rules.specs.References.{repeated_after}
use Rattle.vx_rules.specs.Rules.{fault_in, fault_over, fault_of, first_broken}
use Rattle.vx_rules.proofs.Lookups.{first_none, second_none}

none_first : {A : Type 0} (f : Option A) → first_some f None ≡ f
none_first None = refl
none_first (Some x) = refl

none_of : (test : Object → Option ObjectFault) → ((o : Object) → test o ≡ None) → (all : List Object) → first_of test all ≡ None
none_of test none [] = refl
none_of test none (o ∷ os) = rw (none o) (none_of test none os)

group_in : (all : List Object) (o : Object) → fault_in rule.OneGroup all o ≡ None
unfolding fault_in
group_in all o = refl

names_in : (all : List Object) (o : Object) → fault_in rule.NamesDiffer all o ≡ None
unfolding fault_in
names_in all o = refl

group_over : (all : List Object) → fault_over rule.OneGroup all ≡ unless (has_one_group all) (Limit limit.Group)
unfolding fault_over
group_over all = refl

names_over : (all : List Object) → fault_over rule.NamesDiffer all ≡ repeated_after [] all
unfolding fault_over
names_over all = refl

group_of : (all : List Object) → fault_of rule.OneGroup all ≡ unless (has_one_group all) (Limit limit.Group)
unfolding fault_of
group_of all = rw (none_of (fault_in rule.OneGroup all) (group_in all) all, group_over all) (none_first _)

names_of : (all : List Object) → fault_of rule.NamesDiffer all ≡ repeated_after [] all
unfolding fault_of
names_of all = rw (none_of (fault_in rule.NamesDiffer all) (names_in all) all, names_over all) (none_first _)

-- where a name stands twice, that is answered, but for a group that is not there
broken_by_names : (all : List Object) (repeated : ObjectFault) → repeated_after [] all ≡ Some repeated → first_broken all ≡ first_some (unless (has_one_group all) (Limit limit.Group)) (Some repeated)
unfolding first_broken
broken_by_names all repeated e = rw (group_of all, names_of all, e) refl

by_group : (all : List Object) (holds : Bool) (found : Option ObjectFault) (repeated : ObjectFault) → holds ≡ has_one_group all → found ≡ unless holds (Limit limit.Group) → repeated_after [] all ≡ Some repeated → first_broken all ≡ first_some found (Some repeated)
by_group all holds found repeated group is e = broken_by_names all repeated e ∙ rw (is, group) refl

pub broken_group : (all : List Object) (holds : Bool) (found : Option ObjectFault) (repeated fault : ObjectFault) → holds ≡ has_one_group all → found ≡ unless holds (Limit limit.Group) → repeated_after [] all ≡ Some repeated → found ≡ Some fault → Some fault ≡ first_broken all
broken_group all holds found repeated fault group is e some = sym (by_group all holds found repeated group is e ∙ rw some refl)

pub broken_name : (all : List Object) (holds : Bool) (found : Option ObjectFault) (repeated : ObjectFault) → holds ≡ has_one_group all → found ≡ unless holds (Limit limit.Group) → repeated_after [] all ≡ Some repeated → found ≡ None → Some repeated ≡ first_broken all
broken_name all holds found repeated group is e none = sym (by_group all holds found repeated group is e ∙ rw none refl)

-- where no rule is broken names differ
pub names_differ : (all : List Object) → first_broken all ≡ None → repeated_after [] all ≡ None
unfolding first_broken
names_differ all e = sym (names_of all) ∙ first_none (fault_of rule.NamesDiffer all) _ (second_none (fault_of rule.OneGroup all) _ e)
