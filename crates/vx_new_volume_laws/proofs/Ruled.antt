-- Rules hold of a group's records with others behind them, where they hold of each record there.
use Rattle.std.proofs.Common.{◌≡◌, ℕ, ◌+◌, ◌||◌, cond, Bool, true, false, Option, Some, None, List, ◌++◌, take, drop, refl, ap, ◌∙◌, inl, inr, add-zero}
use Rattle.std.specs.List.{count_by, list_any}
use Rattle.std.proofs.lemmas.Bool.{or_left, or_from}
use Rattle.std.proofs.lemmas.List.Folds.{list_any-append}
use Rattle.std.proofs.lemmas.List.Sums.{sum_by-append}
use Rattle.vx_config_parts.specs.declared.object.Object.{Object}
use Rattle.vx_rules.specs.declared.rule.Rule.{Rule}
use Rattle.vx_rules.specs.declared.rule.Rule.TheVariants as rule
use Rattle.vx_rules.specs.Adding.{fault_by}
use Rattle.vx_rules.specs.Faults.{first_of, first_some, unless}
use Rattle.vx_rules.specs.Rules.{fault_in, fault_of, fault_over, first_broken, rules}
use Rattle.vx_rules.proofs.ListTests.{count_none}
use Rattle.vx_image.proofs.PlexMembers.{IsIn, in_either}
use Rattle.vx_image.proofs.Valid.{in_rule, one_rule, over_rule}
use Rattle.vx_new_volume_laws.proofs.Repeats.{both_none, none_found, unless_true}

-- where no rule is broken, each holds
pub each_holds : (all : List Object) → first_broken all ≡ None → (r : Rule) → fault_of r all ≡ None
unfolding first_broken
each_holds all e rule.OneGroup = one_rule (take 0 rules) rule.OneGroup (drop 1 rules) all e
each_holds all e rule.NamesDiffer = one_rule (take 1 rules) rule.NamesDiffer (drop 2 rules) all e
each_holds all e rule.ReferencesAreThere = one_rule (take 2 rules) rule.ReferencesAreThere (drop 3 rules) all e
each_holds all e rule.SlotsDiffer = one_rule (take 3 rules) rule.SlotsDiffer (drop 4 rules) all e
each_holds all e rule.VolumesAreFew = one_rule (take 4 rules) rule.VolumesAreFew (drop 5 rules) all e
each_holds all e rule.NamesAreShort = one_rule (take 5 rules) rule.NamesAreShort (drop 6 rules) all e
each_holds all e rule.RegionSizesAreGood = one_rule (take 6 rules) rule.RegionSizesAreGood (drop 7 rules) all e
each_holds all e rule.RegionsAreGood = one_rule (take 7 rules) rule.RegionsAreGood (drop 8 rules) all e
each_holds all e rule.PlexesAreGood = one_rule (take 8 rules) rule.PlexesAreGood (drop 9 rules) all e
each_holds all e rule.SubdisksLieInside = one_rule (take 9 rules) rule.SubdisksLieInside (drop 10 rules) all e
each_holds all e rule.SubdisksDoNotOverlap = one_rule (take 10 rules) rule.SubdisksDoNotOverlap (drop 11 rules) all e
each_holds all e rule.PlexesAreWhole = one_rule (take 11 rules) rule.PlexesAreWhole (drop 12 rules) all e
each_holds all e rule.MapsAreGood = one_rule (take 12 rules) rule.MapsAreGood (drop 13 rules) all e
each_holds all e rule.LogsAreGood = one_rule (take 13 rules) rule.LogsAreGood (drop 14 rules) all e
each_holds all e rule.PreferredPlexIsThere = one_rule (take 14 rules) rule.PreferredPlexIsThere (drop 15 rules) all e
each_holds all e rule.RelationsAreAlone = one_rule (take 15 rules) rule.RelationsAreAlone (drop 16 rules) all e
each_holds all e rule.RelatedVolumesHaveLogs = one_rule (take 16 rules) rule.RelatedVolumesHaveLogs (drop 17 rules) all e
each_holds all e rule.RelatedVolumesHaveOneShape = one_rule (take 17 rules) rule.RelatedVolumesHaveOneShape (drop 18 rules) all e
each_holds all e rule.NumbersFit = one_rule (take 18 rules) rule.NumbersFit (drop 19 rules) all e

pub holds_in : (all : List Object) → first_broken all ≡ None → (r : Rule) (o : Object) → IsIn all o → fault_in r all o ≡ None
holds_in all e r o there = in_rule r all o (each_holds all e r) there

pub holds_over : (all : List Object) → first_broken all ≡ None → (r : Rule) → fault_over r all ≡ None
holds_over all e r = over_rule r all (each_holds all e r)

-- a rule holds of all, where it holds of them together, and of each of the group's and of those behind
pub rule_holds : (r : Rule) (group added : List Object) → fault_over r (group ++ added) ≡ None → ((o : Object) → IsIn group o → fault_in r (group ++ added) o ≡ None)
    → ((o : Object) → IsIn added o → fault_in r (group ++ added) o ≡ None) → fault_by r (group ++ added) (group ++ added) ≡ None
rule_holds r group added over own new =
    both_none (fault_over r (group ++ added)) (first_of (fault_in r (group ++ added)) (group ++ added)) over
    (none_found (fault_in r (group ++ added)) (group ++ added) (λ o there. elim (in_either group added o there) [ inl a ↦ own o a | inr b ↦ new o b ]))

-- ---- what is found with more records behind

pub any_more : (test : Object → Bool) (xs ys : List Object) → list_any test xs ≡ true → list_any test (xs ++ ys) ≡ true
any_more test xs ys e = list_any-append test xs ys ∙ or_left (list_any test xs) (list_any test ys) e

pub none_more : (test : Object → Bool) (xs ys : List Object) → list_any test xs ≡ false → list_any test ys ≡ false → list_any test (xs ++ ys) ≡ false
none_more test xs ys e f = list_any-append test xs ys ∙ or_from (list_any test xs) (list_any test ys) e f

pub count_both : (test : Object → Bool) (xs ys : List Object) → count_by test (xs ++ ys) ≡ count_by test xs + count_by test ys
count_both test xs ys = sum_by-append (λ o. cond (test o) 1 0) xs ys

pub count_same : (test : Object → Bool) (xs ys : List Object) → list_any test ys ≡ false → count_by test (xs ++ ys) ≡ count_by test xs
count_same test xs ys none = count_both test xs ys ∙ ap (λ (k : ℕ). count_by test xs + k) (count_none test ys none) ∙ add-zero (count_by test xs)

pub any_same : (test : Object → Bool) (xs ys : List Object) → list_any test ys ≡ false → list_any test (xs ++ ys) ≡ list_any test xs
any_same test xs ys none = list_any-append test xs ys ∙ or_none (list_any test xs) (list_any test ys) none
  where
    or_none : (a b : Bool) → b ≡ false → (a || b) ≡ a
    or_none true b e = refl
    or_none false b e = e

pub both_kept : {A : Type 0} (a b c d : Option A) → (a ≡ None → c ≡ None) → (b ≡ None → d ≡ None) → first_some a b ≡ None → first_some c d ≡ None
both_kept None b c d f g e = both_none c d (f refl) (g e)
both_kept (Some x) b c d f g e = cc

pub unless_kept : {A : Type 0} (was holds : Bool) (x : A) → (was ≡ true → holds ≡ true) → unless was x ≡ None → unless holds x ≡ None
unless_kept true holds x on e = unless_true holds x (on refl)
unless_kept false holds x on e = cc
