-- The tests of records that are to be added, as the definitions have them.
use Rattle.std.proofs.Common.{◌≡◌, Bool, true, None, Option, Some, is_none, List, [], ◌++◌, refl, sym, subst}
use Rattle.vx_base.specs.Named.{Word}
use Rattle.vx_config_parts.specs.declared.object.Object.{Object}
use Rattle.vx_rules.specs.Adding.{firsts}
use Rattle.vx_rules.specs.References.{repeated_after}
use Rattle.vx_rules.specs.Rules.{first_broken, is_valid}
use Rattle.vx_rules.proofs.InOrder.{names_differ}
use Rattle.vx_stages.specs.Making.{adding_refusal, refusal_among}

nothing : {A : Type 0} (o : Option A) → is_none o ≡ true → o ≡ None
nothing None e = refl
nothing (Some x) e = cc

none_broken : (all : List Object) → is_valid all ≡ true → first_broken all ≡ None
unfolding is_valid
none_broken all valid = nothing (first_broken all) valid

-- names differ in a valid configuration
pub own_names : (all same : List Object) → same ≡ all → is_valid all ≡ true → repeated_after [] same ≡ None
own_names all same is valid = subst (λ l. repeated_after [] l ≡ None) (sym is) (names_differ all (none_broken all valid))

pub same_refusal : (is_started : Word → Bool) (group added known all same : List Object) → same ≡ group → known ≡ firsts all → all ≡ same ++ added → refusal_among is_started same added known all ≡ adding_refusal is_started group added
same_refusal is_started group added known all same is firsts_are all_is = rw (firsts_are, all_is, is) refl
