use Rattle.std.proofs.Common.{◌≡◌, None, IsTrue, List, refl}
use Rattle.vx_config_parts.specs.declared.object.Object.{Object}
use Rattle.vx_rules.specs.Rules.{first_broken, is_valid}
use Rattle.vx_objects.proofs.OneGroup.{one_group}
use Rattle.vx_objects.proofs.config.config_of.Goals as goal

valid_of : (all : List Object) → first_broken all ≡ None → IsTrue (is_valid all)
unfolding is_valid
valid_of all e = rw e refl

pub sole-group-requires : goal.sole-group-requires
sole-group-requires c = one_group _ _ _ _ _ _ _ c.requires

pub invariant_of-result : goal.invariant_of-result
invariant_of-result c = record { valid = valid_of _ (rw c.sole-group.ensures at c.requires) }
