-- Where no rule is broken, there is one group record.
use Rattle.std.proofs.Common.{◌≡◌, ℕ, ◌+◌, Bool, true, false, cond, Option, Some, None, List, [], ◌∷◌, ◌++◌, map, length, drop, refl, arith, ◌∙◌, ap, zero-add, add-zero}
use Rattle.std.specs.List.{count_by}
use Rattle.std.proofs.lemmas.List.Sums.{sum_by-append}
use Rattle.vx_config_parts.specs.declared.group.Group.{Group}
use Rattle.vx_config_parts.specs.declared.disk.Disk.{Disk}
use Rattle.vx_config_parts.specs.declared.subdisk.Subdisk.{Subdisk}
use Rattle.vx_config_parts.specs.declared.plex.Plex.{Plex}
use Rattle.vx_config_parts.specs.declared.vol.Vol.{Vol}
use Rattle.vx_config_parts.specs.declared.dco.Dco.{Dco}
use Rattle.vx_config_parts.specs.declared.snap.Snap.{Snap}
use Rattle.vx_config_parts.specs.declared.object.Object.{Object}
use Rattle.vx_config_parts.specs.declared.object.Object.TheVariants.{GroupRecord, DiskRecord, SubdiskRecord, PlexRecord, VolRecord, DcoRecord, SnapRecord}
use Rattle.std.proofs.lemmas.Bool.Decides.{nat_tests}
use Rattle.vx_rules.specs.declared.rule.Rule.{Rule}
use Rattle.vx_rules.specs.declared.rule.Rule.TheVariants as rule
use Rattle.vx_config_parts.specs.declared.fault.Limit.TheVariants as limit
use Rattle.vx_config_parts.specs.declared.fault.ObjectFault.TheVariants.{Limit}
use Rattle.vx_config_parts.specs.Objects.{is_group}
use Rattle.vx_rules.specs.Faults.{first_some, unless, first_of}
use Rattle.vx_rules.specs.Limits.{has_one_group}
use Rattle.vx_rules.specs.Rules.{fault_in, fault_over, fault_of, rules, first_broken_of, first_broken}
use Rattle.vx_objects.specs.Parts.{records_below}

abbrev any_group : Object → Bool
any_group o = is_group (λ g. true) o

count_cons : (x : Object) (xs : List Object) → count_by any_group (x ∷ xs) ≡ cond (any_group x) 1 0 + count_by any_group xs
count_cons x xs = sum_by-append (λ o. cond (any_group o) 1 0) (x ∷ []) xs ∙ ap (λ n. n + count_by any_group xs) (zero-add (cond (any_group x) 1 0))

count_both : (xs ys : List Object) → count_by any_group (xs ++ ys) ≡ count_by any_group xs + count_by any_group ys
count_both xs ys = sum_by-append (λ o. cond (any_group o) 1 0) xs ys

no_groups : {A : Type 0} (f : A → Object) → ((a : A) → any_group (f a) ≡ false) → (xs : List A) → count_by any_group (map f xs) ≡ 0
no_groups f not [] = refl
no_groups f not (x ∷ xs) = count_cons (f x) (map f xs) ∙ rw (not x, no_groups f not xs) refl

all_groups : (gs : List Group) → count_by any_group (map GroupRecord gs) ≡ length gs
all_groups [] = refl
all_groups (g ∷ gs) = let e = all_groups gs in let f = count_cons (GroupRecord g) (map GroupRecord gs) in omega arith

none_below : (disks : List Disk) (subdisks : List Subdisk) (plexes : List Plex) (volumes : List Vol) (dcos : List Dco) (snaps : List Snap) → count_by any_group (records_below disks subdisks plexes volumes dcos snaps) ≡ 0
none_below disks subdisks plexes volumes dcos snaps =
    let d = no_groups DiskRecord (λ a. refl) disks in
    let s = no_groups SubdiskRecord (λ a. refl) subdisks in
    let p = no_groups PlexRecord (λ a. refl) plexes in
    let v = no_groups VolRecord (λ a. refl) volumes in
    let c = no_groups DcoRecord (λ a. refl) dcos in
    let r = no_groups SnapRecord (λ a. refl) snaps in
    rw (count_both, d, count_both, s, count_both, p, count_both, v, count_both, c, r) refl

pub group_count : (gs : List Group) (disks : List Disk) (subdisks : List Subdisk) (plexes : List Plex) (volumes : List Vol) (dcos : List Dco) (snaps : List Snap) → count_by any_group (map GroupRecord gs ++ records_below disks subdisks plexes volumes dcos snaps) ≡ length gs
group_count gs disks subdisks plexes volumes dcos snaps =
    count_both (map GroupRecord gs) (records_below disks subdisks plexes volumes dcos snaps) ∙ rw (all_groups gs, none_below disks subdisks plexes volumes dcos snaps) (add-zero (length gs))

pub first_none : {A : Type 0} (a b : Option A) → first_some a b ≡ None → a ≡ None
first_none None b e = refl
first_none (Some x) b e = cc

pub unless_none : {A : Type 0} (holds : Bool) (x : A) → unless holds x ≡ None → holds ≡ true
unless_none true x e = refl
unless_none false x e = cc

pub second_none : {A : Type 0} (a b : Option A) → first_some a b ≡ None → b ≡ None
second_none None b e = e
second_none (Some x) b e = cc

head_none : (r : Rule) (rs : List Rule) (all : List Object) → first_broken_of (r ∷ rs) all ≡ None → fault_of r all ≡ None
head_none r rs all e = first_none (fault_of r all) (first_broken_of rs all) e

pub group_rule : (all : List Object) → fault_of rule.OneGroup all ≡ None → fault_over rule.OneGroup all ≡ None
unfolding fault_of
group_rule all e = first_none (fault_over rule.OneGroup all) (first_of (fault_in rule.OneGroup all) all) e

pub group_holds : (all : List Object) → fault_over rule.OneGroup all ≡ None → has_one_group all ≡ true
unfolding fault_over
group_holds all e = unless_none (has_one_group all) (Limit limit.Group) e

pub valid_head : (all : List Object) → first_broken all ≡ None → fault_of rule.OneGroup all ≡ None
unfolding first_broken
valid_head all e = head_none rule.OneGroup (drop 1 rules) all e

one : (all : List Object) (n : ℕ) → count_by any_group all ≡ n → has_one_group all ≡ true → n ≡ 1
one all n e h = grind (arith, nat_tests)

pub one_group : (gs : List Group) (disks : List Disk) (subdisks : List Subdisk) (plexes : List Plex) (volumes : List Vol) (dcos : List Dco) (snaps : List Snap) → first_broken (map GroupRecord gs ++ records_below disks subdisks plexes volumes dcos snaps) ≡ None → length gs ≡ 1
one_group gs disks subdisks plexes volumes dcos snaps e =
    let all : List Object = map GroupRecord gs ++ records_below disks subdisks plexes volumes dcos snaps in
    one all (length gs) (group_count gs disks subdisks plexes volumes dcos snaps) (group_holds all (group_rule all (valid_head all e)))
