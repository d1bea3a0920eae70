-- Where no rule is broken, each holds of each record; and so back.
use Rattle.std.proofs.Common.{◌≡◌, Bool, true, false, Option, Some, None, List, [], ◌∷◌, refl}
use Rattle.vx_copies.specs.Lists.{AllOf}
use Rattle.vx_config_parts.specs.declared.object.Object.{Object}
use Rattle.vx_config_parts.specs.declared.fault.ObjectFault.{ObjectFault}
use Rattle.vx_rules.specs.declared.rule.Rule.{Rule}
use Rattle.vx_rules.specs.declared.rule.Rule.TheVariants as rule
use Rattle.vx_rules.specs.Faults.{first_some, unless, first_of}
use Rattle.vx_rules.specs.Rules.{fault_in, fault_over, fault_of, rules, first_broken_of, first_broken}
use Rattle.vx_objects.proofs.OneGroup.{first_none, second_none}

pub both_none : {A : Type 0} (a b : Option A) → a ≡ None → b ≡ None → first_some a b ≡ None
both_none None b e f = f
both_none (Some x) b e f = cc

pub both_kept : {A : Type 0} (a b c d : Option A) → (a ≡ None → c ≡ None) → (b ≡ None → d ≡ None) → first_some a b ≡ None → first_some c d ≡ None
both_kept None b c d f g e = both_none c d (f refl) (g e)
both_kept (Some x) b c d f g e = cc

pub unless_true : {A : Type 0} (holds : Bool) (x : A) → holds ≡ true → unless holds x ≡ None
unless_true true x e = refl
unless_true false x e = cc

pub unless_kept : {A : Type 0} (was holds : Bool) (x : A) → (was ≡ true → holds ≡ true) → unless was x ≡ None → unless holds x ≡ None
unless_kept true holds x on e = unless_true holds x (on refl)
unless_kept false holds x on e = cc

-- every rule holds of the record
abbrev pub IsFine : List Object → Object → Type 0
IsFine all o = (r : Rule) → fault_in r all o ≡ None

-- every rule holds of the records together
abbrev pub AreFine : List Object → Type 0
AreFine all = (r : Rule) → fault_over r all ≡ None

each_none : (check : Object → Option ObjectFault) (os : List Object) → first_of check os ≡ None → AllOf (λ o. check o ≡ None) os
each_none check [] e = tt
each_none check (o ∷ os) e = (first_none (check o) (first_of check os) e, each_none check os (second_none (check o) (first_of check os) e))

none_of : (check : Object → Option ObjectFault) (os : List Object) → AllOf (λ o. check o ≡ None) os → first_of check os ≡ None
none_of check [] all = refl
none_of check (o ∷ os) all = both_none (check o) (first_of check os) all.0 (none_of check os all.1)

pub gathered : (P : Rule → Object → Type 0) (os : List Object) → ((r : Rule) → AllOf (λ o. P r o) os) → AllOf (λ o. (r : Rule) → P r o) os
gathered P [] each = tt
gathered P (o ∷ os) each = ((λ r. (each r).0), gathered P os (λ r. (each r).1))

one_of : (P : Object → Rule → Type 0) (r : Rule) (os : List Object) → AllOf (λ o. (r : Rule) → P o r) os → AllOf (λ o. P o r) os
one_of P r [] all = tt
one_of P r (o ∷ os) all = (all.0 r, one_of P r os all.1)

each_rule : (rs : List Rule) (all : List Object) → first_broken_of rs all ≡ None → AllOf (λ r. fault_of r all ≡ None) rs
each_rule [] all e = tt
each_rule (r ∷ rs) all e = (first_none (fault_of r all) (first_broken_of rs all) e, each_rule rs all (second_none (fault_of r all) (first_broken_of rs all) e))

-- what holds of each rule in the list of them holds of every rule
every : (P : Rule → Type 0) → AllOf P rules → (r : Rule) → P r
every P h rule.OneGroup = h.0
every P h rule.NamesDiffer = h.1.0
every P h rule.ReferencesAreThere = h.1.1.0
every P h rule.SlotsDiffer = h.1.1.1.0
every P h rule.VolumesAreFew = h.1.1.1.1.0
every P h rule.NamesAreShort = h.1.1.1.1.1.0
every P h rule.RegionSizesAreGood = h.1.1.1.1.1.1.0
every P h rule.RegionsAreGood = h.1.1.1.1.1.1.1.0
every P h rule.PlexesAreGood = h.1.1.1.1.1.1.1.1.0
every P h rule.SubdisksLieInside = h.1.1.1.1.1.1.1.1.1.0
every P h rule.SubdisksDoNotOverlap = h.1.1.1.1.1.1.1.1.1.1.0
every P h rule.PlexesAreWhole = h.1.1.1.1.1.1.1.1.1.1.1.0
every P h rule.MapsAreGood = h.1.1.1.1.1.1.1.1.1.1.1.1.0
every P h rule.LogsAreGood = h.1.1.1.1.1.1.1.1.1.1.1.1.1.0
every P h rule.PreferredPlexIsThere = h.1.1.1.1.1.1.1.1.1.1.1.1.1.1.0
every P h rule.RelationsAreAlone = h.1.1.1.1.1.1.1.1.1.1.1.1.1.1.1.0
every P h rule.RelatedVolumesHaveLogs = h.1.1.1.1.1.1.1.1.1.1.1.1.1.1.1.1.0
every P h rule.RelatedVolumesHaveOneShape = h.1.1.1.1.1.1.1.1.1.1.1.1.1.1.1.1.1.0
every P h rule.NumbersFit = h.1.1.1.1.1.1.1.1.1.1.1.1.1.1.1.1.1.1.0

rule_over : (r : Rule) (all : List Object) → fault_of r all ≡ None → fault_over r all ≡ None
unfolding fault_of
rule_over r all e = first_none (fault_over r all) (first_of (fault_in r all) all) e

rule_in : (r : Rule) (all : List Object) → fault_of r all ≡ None → AllOf (λ o. fault_in r all o ≡ None) all
unfolding fault_of
rule_in r all e = each_none (fault_in r all) all (second_none (fault_over r all) (first_of (fault_in r all) all) e)

module _ (all : List Object) (hold : (r : Rule) → fault_of r all ≡ None) where
  pub over_all : AreFine all
  over_all r = rule_over r all (hold r)

  pub in_all : AllOf (IsFine all) all
  in_all = gathered (λ r o. fault_in r all o ≡ None) all (λ r. rule_in r all (hold r))

-- no rule is broken
pub each_holds : (all : List Object) → first_broken all ≡ None → (r : Rule) → fault_of r all ≡ None
unfolding first_broken
each_holds all e r = every (λ r. fault_of r all ≡ None) (each_rule rules all e) r

module _ (all : List Object) (over : AreFine all) (each : AllOf (IsFine all) all) where
  pub holds : (r : Rule) → fault_of r all ≡ None
  unfolding fault_of
  holds r = both_none (fault_over r all) (first_of (fault_in r all) all) (over r) (none_of (fault_in r all) all (one_of (λ o r. fault_in r all o ≡ None) r all each))

  none_broken_of : (rs : List Rule) → first_broken_of rs all ≡ None
  none_broken_of [] = refl
  none_broken_of (r ∷ rs) = both_none (fault_of r all) (first_broken_of rs all) (holds r) (none_broken_of rs)

  pub none_broken : first_broken all ≡ None
  unfolding first_broken
  none_broken = none_broken_of rules
