-- What the rules say of the records of a valid configuration.
use Rattle.std.proofs.Common.{◌≡◌, true, None, List, [], ◌∷◌, ◌++◌, take, drop}
use Rattle.vx_config_parts.specs.declared.object.Object.{Object}
use Rattle.vx_config_parts.specs.declared.object.Object.TheVariants.{SubdiskRecord, PlexRecord}
use Rattle.vx_config_parts.specs.declared.subdisk.Subdisk.{Subdisk}
use Rattle.vx_config_parts.specs.declared.plex.Plex.{Plex}
use Rattle.vx_config_parts.specs.declared.fault.Limit.TheVariants as limit
use Rattle.vx_config_parts.specs.declared.fault.ObjectFault.TheVariants.{Limit, Outside, NotWhole}
use Rattle.vx_rules.specs.declared.rule.Rule.{Rule}
use Rattle.vx_rules.specs.declared.rule.Rule.TheVariants as rule
use Rattle.vx_rules.specs.Faults.{first_of}
use Rattle.vx_rules.specs.Limits.{numbers_fit, slot_is_own}
use Rattle.vx_rules.specs.Space.{lies_inside}
use Rattle.vx_rules.specs.Whole.{is_whole}
use Rattle.vx_rules.specs.Rules.{fault_in, fault_over, fault_of, rules, first_broken_of, first_broken}
use Rattle.vx_objects.proofs.OneGroup.{first_none, second_none, unless_none}
use Rattle.vx_image.proofs.PlexMembers.{IsIn, first_of_in}

-- no rule of the list is broken
pub one_rule : (rs : List Rule) (r : Rule) (more : List Rule) (all : List Object) → first_broken_of (rs ++ r ∷ more) all ≡ None → fault_of r all ≡ None
one_rule [] r more all e = first_none (fault_of r all) (first_broken_of more all) e
one_rule (s ∷ rs) r more all e = one_rule rs r more all (second_none (fault_of s all) (first_broken_of (rs ++ r ∷ more) all) e)

-- no record breaks a rule that is kept
pub in_rule : (r : Rule) (all : List Object) (o : Object) → fault_of r all ≡ None → IsIn all o → fault_in r all o ≡ None
unfolding fault_of
in_rule r all o e h = first_of_in (fault_in r all) all o (second_none (fault_over r all) (first_of (fault_in r all) all) e) h

-- nor do the records together
pub over_rule : (r : Rule) (all : List Object) → fault_of r all ≡ None → fault_over r all ≡ None
unfolding fault_of
over_rule r all e = first_none (fault_over r all) (first_of (fault_in r all) all) e

slots_rule : (all : List Object) → first_broken all ≡ None → fault_of rule.SlotsDiffer all ≡ None
unfolding first_broken
slots_rule all e = one_rule (take 3 rules) rule.SlotsDiffer (drop 4 rules) all e

inside_rule : (all : List Object) → first_broken all ≡ None → fault_of rule.SubdisksLieInside all ≡ None
unfolding first_broken
inside_rule all e = one_rule (take 9 rules) rule.SubdisksLieInside (drop 10 rules) all e

whole_rule : (all : List Object) → first_broken all ≡ None → fault_of rule.PlexesAreWhole all ≡ None
unfolding first_broken
whole_rule all e = one_rule (take 11 rules) rule.PlexesAreWhole (drop 12 rules) all e

numbers_rule : (all : List Object) → first_broken all ≡ None → fault_of rule.NumbersFit all ≡ None
unfolding first_broken
numbers_rule all e = one_rule (take 18 rules) rule.NumbersFit (drop 19 rules) all e

slot_in : (all : List Object) (o : Object) → fault_in rule.SlotsDiffer all o ≡ None → slot_is_own all o ≡ true
unfolding fault_in
slot_in all o e = unless_none (slot_is_own all o) (Limit limit.Disks) e

pub slot_own : (all : List Object) (o : Object) → first_broken all ≡ None → IsIn all o → slot_is_own all o ≡ true
slot_own all o e h = slot_in all o (in_rule rule.SlotsDiffer all o (slots_rule all e) h)

numbers_in : (all : List Object) (o : Object) → fault_in rule.NumbersFit all o ≡ None → numbers_fit o ≡ true
unfolding fault_in
numbers_in all o e = unless_none (numbers_fit o) (Limit limit.Number) e

pub numbers_are : (all : List Object) (o : Object) → first_broken all ≡ None → IsIn all o → numbers_fit o ≡ true
numbers_are all o e h = numbers_in all o (in_rule rule.NumbersFit all o (numbers_rule all e) h)

inside_in : (all : List Object) (s : Subdisk) → fault_in rule.SubdisksLieInside all (SubdiskRecord s) ≡ None → lies_inside all s ≡ true
unfolding fault_in
inside_in all s e = unless_none (lies_inside all s) (Outside s.name) e

pub is_inside : (all : List Object) (s : Subdisk) → first_broken all ≡ None → IsIn all (SubdiskRecord s) → lies_inside all s ≡ true
is_inside all s e h = inside_in all s (in_rule rule.SubdisksLieInside all (SubdiskRecord s) (inside_rule all e) h)

whole_in : (all : List Object) (p : Plex) → fault_in rule.PlexesAreWhole all (PlexRecord p) ≡ None → is_whole all p ≡ true
unfolding fault_in
whole_in all p e = unless_none (is_whole all p) (NotWhole p.name) e

pub plex_whole : (all : List Object) (p : Plex) → first_broken all ≡ None → IsIn all (PlexRecord p) → is_whole all p ≡ true
plex_whole all p e h = whole_in all p (in_rule rule.PlexesAreWhole all (PlexRecord p) (whole_rule all e) h)
