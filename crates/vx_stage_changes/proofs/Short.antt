-- The name of a group is short, as its configuration keeps the rules.
use Rattle.std.proofs.Common.{◌≡◌, true, None, List, [], ◌∷◌, ◌++◌, take, drop}
use Rattle.std.specs.Prelude.{IsTrue, nat_le, length}
use Rattle.std.proofs.lemmas.Bool.{and_from}
use Rattle.vx_names.specs.Form.{is_name}
use Rattle.vx_header.specs.Sectors.{is_short_name}
use Rattle.vx_config_parts.specs.declared.object.Object.{Object}
use Rattle.vx_config_parts.specs.declared.object.Object.TheVariants.{GroupRecord}
use Rattle.vx_config_parts.specs.declared.fault.Limit.TheVariants as limit
use Rattle.vx_config_parts.specs.declared.fault.ObjectFault.TheVariants.{Limit}
use Rattle.vx_rules.specs.declared.rule.Rule.{Rule}
use Rattle.vx_rules.specs.declared.rule.Rule.TheVariants as rule
use Rattle.vx_rules.specs.Faults.{first_of}
use Rattle.vx_rules.specs.Limits.{name_is_short}
use Rattle.vx_rules.specs.Rules.{fault_in, fault_over, fault_of, rules, first_broken_of, first_broken}
use Rattle.vx_objects.specs.declared.config.Config.{Config}
use Rattle.vx_objects.specs.Config.{objects_of}
use Rattle.vx_objects.specs.Parts.{records_below}
use Rattle.vx_objects.proofs.OneGroup.{first_none, second_none, unless_none}
use Rattle.vx_objects.proofs.Numbers.{valid_none}

-- no rule of the list is broken
one_rule : (rs : List Rule) (r : Rule) (more : List Rule) (all : List Object) → first_broken_of (rs ++ r ∷ more) all ≡ None → fault_of r all ≡ None
one_rule [] r more all e = first_none (fault_of r all) (first_broken_of more all) e
one_rule (s ∷ rs) r more all e = one_rule rs r more all (second_none (fault_of s all) (first_broken_of (rs ++ r ∷ more) all) e)

name_rule : (all : List Object) → first_broken all ≡ None → fault_of rule.NamesAreShort all ≡ None
unfolding first_broken
name_rule all e = one_rule (take 5 rules) rule.NamesAreShort (drop 6 rules) all e

name_faults : (all : List Object) → fault_of rule.NamesAreShort all ≡ None → first_of (fault_in rule.NamesAreShort all) all ≡ None
unfolding fault_of
name_faults all e = second_none (fault_over rule.NamesAreShort all) (first_of (fault_in rule.NamesAreShort all) all) e

name_fault : (all : List Object) (o : Object) → fault_in rule.NamesAreShort all o ≡ None → name_is_short o ≡ true
unfolding fault_in
name_fault all o e = unless_none (name_is_short o) (Limit limit.Name) e

group_first : (c : Config) (all : List Object) → first_of (fault_in rule.NamesAreShort all) (objects_of c) ≡ None → fault_in rule.NamesAreShort all (GroupRecord (record { name = c.group; version = c.version })) ≡ None
group_first c all e = first_none (fault_in rule.NamesAreShort all (GroupRecord (record { name = c.group; version = c.version }))) (first_of (fault_in rule.NamesAreShort all) (records_below c.disks c.subdisks c.plexes c.volumes c.dcos c.snaps)) e

pub group_short : (c : Config) → IsTrue (is_name c.group) → IsTrue (is_short_name c.group)
group_short c form =
    let none = valid_none (objects_of c) c.valid in
    let short : nat_le (length c.group) 24 ≡ true = name_fault (objects_of c) (GroupRecord (record { name = c.group; version = c.version })) (group_first c (objects_of c) (name_faults (objects_of c) (name_rule (objects_of c) none))) in
    and_from (is_name c.group) (nat_le (length c.group) 24) form short
