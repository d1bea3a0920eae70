-- Records of a group and its disks keep the rules in whichever order they stand.
use Rattle.std.proofs.Common.{◌≡◌, ℕ, Bool, true, false, not, cond, ◌&&◌, ◌||◌, ◌==◌, nat_lt, nat_le, List, [], ◌∷◌, ◌++◌, map, Option, Some, None, is_none, refl, sym, ◌∙◌, ap, subst}
use Rattle.std.specs.List.{list_any, list_all, fold, AllByRecursion, IsDistinct}
use Rattle.std.specs.List.Sorted.{IsPermutation}
use Rattle.std.specs.Str.{bytes_eq}
use Rattle.std.proofs.lemmas.Bool.{and_parts, and_from}
use Rattle.std.proofs.lemmas.List.Folds.{list_any-append}
use Rattle.std.proofs.lemmas.List.Sorted.{list_any-IsPermutation, sum_by-IsPermutation, IsPermutation-map}
use Rattle.std.proofs.lemmas.Map.Keys.{IsDistinct-IsPermutation}
use Rattle.vx_base.specs.Named.{Word}
use Rattle.vx_base.proofs.NamedLemmas.{bytes_eq_self, bytes_eq_same}
use Rattle.vx_config_parts.specs.declared.group.Group.{Group}
use Rattle.vx_config_parts.specs.declared.disk.Disk.{Disk}
use Rattle.vx_config_parts.specs.declared.object.Object.{Object}
use Rattle.vx_config_parts.specs.declared.object.Object.TheVariants.{GroupRecord, DiskRecord}
use Rattle.vx_config_parts.specs.declared.fault.Limit.TheVariants as limit
use Rattle.vx_config_parts.specs.declared.fault.ObjectFault.{ObjectFault}
use Rattle.vx_config_parts.specs.declared.fault.ObjectFault.TheVariants.{Limit, Exists}
use Rattle.vx_config_parts.specs.Objects.{name_of, is_group, is_disk, is_vol}
use Rattle.vx_rules.specs.Overlap.{first_overlap_with, overlap_of}
use Rattle.vx_rules.specs.declared.rule.Rule.{Rule}
use Rattle.vx_rules.specs.declared.rule.Rule.TheVariants as rule
use Rattle.vx_rules.specs.Faults.{first_some, unless, first_of}
use Rattle.vx_rules.specs.References.{has_name, repeated_after}
use Rattle.vx_rules.specs.Rules.{fault_in, fault_over, fault_of, rules, first_broken_of, first_broken}
use Rattle.vx_objects.proofs.OneGroup.{first_none, second_none, unless_none}
use Rattle.vx_laws.proofs.ListFacts.{alike}

-- the record of a group or of a disk
abbrev pub is_plain : Object → Bool
is_plain (GroupRecord g) = true
is_plain (DiskRecord d) = true
is_plain o = false

-- ---- tests of all

all_not_any : {X : Type 0} (p : X → Bool) (xs : List X) → list_all p xs ≡ not (list_any (λ x. not (p x)) xs)
all_not_any p [] = refl
all_not_any p (x ∷ xs) = by (p x) (list_all p xs) (list_any (λ x. not (p x)) xs) (all_not_any p xs)
  where
    by : (a b c : Bool) → b ≡ not c → (a && b) ≡ not (not a || c)
    by true b c e = e
    by false b c e = refl

pub all_permuted : {X : Type 0} (p : X → Bool) (xs ys : List X) → IsPermutation xs ys → list_all p xs ≡ true → list_all p ys ≡ true
all_permuted p xs ys same h = all_not_any p ys ∙ ap not (sym (list_any-IsPermutation (λ x. not (p x)) xs ys same)) ∙ sym (all_not_any p xs) ∙ h

some_none : {A : Type 0} (a b : Option A) → a ≡ None → b ≡ None → first_some a b ≡ None
some_none None b e f = f
some_none (Some x) b e f = cc

as_all : (check : Object → Option ObjectFault) (os : List Object) → first_of check os ≡ None → list_all (λ o. is_none (check o)) os ≡ true
as_all check [] e = refl
as_all check (o ∷ os) e =
    and_from (is_none (check o)) (list_all (λ o. is_none (check o)) os) (ap is_none (first_none (check o) (first_of check os) e)) (as_all check os (second_none (check o) (first_of check os) e))

is_nothing : {A : Type 0} (o : Option A) → is_none o ≡ true → o ≡ None
is_nothing None h = refl
is_nothing (Some x) h = cc

-- ---- rules on each record

module _ (objs all : List Object) (same : IsPermutation objs all) where
  in_group : (r : Rule) (g : Group) → fault_in r all (GroupRecord g) ≡ fault_in r objs (GroupRecord g)
  unfolding fault_in
  in_group rule.OneGroup g = refl
  in_group r g = refl

  in_disk : (r : Rule) (d : Disk) → fault_in r all (DiskRecord d) ≡ fault_in r objs (DiskRecord d)
  unfolding fault_in
  in_disk rule.SlotsDiffer d = ap (λ (n : ℕ). unless (nat_lt d.slot 32 && nat_le n 1) (Limit limit.Disks)) (sum_by-IsPermutation (λ o. cond (is_disk (λ e. e.slot == d.slot) o) 1 0) objs all same)
  in_disk r d = refl

  in_plain : (r : Rule) (o : Object) → is_plain o ≡ true → fault_in r all o ≡ fault_in r objs o
  in_plain r (GroupRecord g) h = in_group r g
  in_plain r (DiskRecord d) h = in_disk r d
  in_plain r o h = cc

  each_none : (r : Rule) (os : List Object) → list_all is_plain os ≡ true → list_all (λ o. is_none (fault_in r objs o)) os ≡ true → first_of (fault_in r all) os ≡ None
  each_none r [] plain h = refl
  each_none r (o ∷ os) plain h =
      let p = and_parts (is_plain o) (list_all is_plain os) plain in
      let k = and_parts (is_none (fault_in r objs o)) (list_all (λ o. is_none (fault_in r objs o)) os) h in
      some_none (fault_in r all o) (first_of (fault_in r all) os) (in_plain r o p.0 ∙ is_nothing (fault_in r objs o) k.0) (each_none r os p.1 k.1)

-- ---- names

flips : (a b : Word) → bytes_eq a b ≡ bytes_eq b a
flips a b = alike (bytes_eq a b) (bytes_eq b a) (λ h. subst (λ (x : Word). bytes_eq b x ≡ true) (sym (bytes_eq_same a b h)) (bytes_eq_self b)) (λ h. subst (λ (x : Word). bytes_eq a x ≡ true) (sym (bytes_eq_same b a h)) (bytes_eq_self a))

not_true : (b : Bool) → not b ≡ true → b ≡ false
not_true true h = sym h
not_true false h = refl

neither : (a b : Bool) → (a || (b || false)) ≡ false → (a ≡ false) × (b ≡ false)
neither true b e = cc
neither false true e = cc
neither false false e = (refl, refl)

nor : (a b : Bool) → a ≡ false → b ≡ false → (a || (b || false)) ≡ false
nor true b e f = e
nor false true e f = f
nor false false e f = refl

all_each : (P Q R : Word → Type 0) (ns : List Word) → ((n : Word) → P n → Q n → R n) → AllByRecursion P ns → AllByRecursion Q ns → AllByRecursion R ns
all_each P Q R [] on h k = tt
all_each P Q R (n ∷ ns) on h k = (on n h.0 k.0, all_each P Q R ns on h.1 k.1)

all_one : (P Q : Word → Type 0) (ns : List Word) → ((n : Word) → P n → Q n) → AllByRecursion P ns → AllByRecursion Q ns
all_one P Q [] on h = tt
all_one P Q (n ∷ ns) on h = (on n h.0, all_one P Q ns on h.1)

all_always : (P : Word → Type 0) (ns : List Word) → ((n : Word) → P n) → AllByRecursion P ns
all_always P [] on = tt
all_always P (n ∷ ns) on = (on n, all_always P ns on)

abbrev IsNewTo : List Object → Word → Type 0
IsNewTo before n = has_name n before ≡ false

more_names : (before : List Object) (o : Object) (n : Word) → has_name n (before ++ o ∷ []) ≡ (has_name n before || (bytes_eq (name_of o) n || false))
more_names before o n = list_any-append (λ x. bytes_eq (name_of x) n) before (o ∷ [])

differ_from : (before os : List Object) → repeated_after before os ≡ None → IsDistinct bytes_eq (map name_of os) × AllByRecursion (IsNewTo before) (map name_of os)
unfolding IsDistinct
differ_from before [] e = (tt, tt)
differ_from before (o ∷ os) e =
    let first = first_none (unless (not (has_name (name_of o) before)) (Exists (name_of o))) (repeated_after (before ++ o ∷ []) os) e in
    let here : has_name (name_of o) before ≡ false = not_true (has_name (name_of o) before) (unless_none (not (has_name (name_of o) before)) (Exists (name_of o)) first) in
    let more = differ_from (before ++ o ∷ []) os (second_none (unless (not (has_name (name_of o) before)) (Exists (name_of o))) (repeated_after (before ++ o ∷ []) os) e) in (
      (all_one (IsNewTo (before ++ o ∷ [])) (λ n. bytes_eq (name_of o) n ≡ false) (map name_of os) (λ n new. (neither (has_name n before) (bytes_eq (name_of o) n) (sym (more_names before o n) ∙ new)).1) more.1, more.0),
      (here, all_one (IsNewTo (before ++ o ∷ [])) (IsNewTo before) (map name_of os) (λ n new. (neither (has_name n before) (bytes_eq (name_of o) n) (sym (more_names before o n) ∙ new)).0) more.1),
    )

none_again : (before os : List Object) → IsDistinct bytes_eq (map name_of os) → AllByRecursion (IsNewTo before) (map name_of os) → repeated_after before os ≡ None
unfolding IsDistinct
none_again before [] d new = refl
none_again before (o ∷ os) d new =
    ap (λ (b : Bool). first_some (unless (not b) (Exists (name_of o))) (repeated_after (before ++ o ∷ []) os)) new.0
    ∙ none_again (before ++ o ∷ []) os d.1
    (all_each (IsNewTo before) (λ n. bytes_eq (name_of o) n ≡ false) (IsNewTo (before ++ o ∷ [])) (map name_of os) (λ n h k. more_names before o n ∙ nor (has_name n before) (bytes_eq (name_of o) n) h k) new.1 d.0)

names_kept : (objs all : List Object) → IsPermutation objs all → repeated_after [] objs ≡ None → repeated_after [] all ≡ None
names_kept objs all same e =
    none_again [] all (IsDistinct-IsPermutation bytes_eq flips (map name_of objs) (map name_of all) (IsPermutation-map name_of objs all same) (differ_from [] objs e).0) (all_always (IsNewTo []) (map name_of all) (λ n. refl))

-- ---- rules on the records together

no_overlap : (all os : List Object) → list_all is_plain os ≡ true → fold (first_overlap_with all) None os ≡ None
no_overlap all [] h = refl
no_overlap all (GroupRecord g ∷ os) h = no_overlap all os h
no_overlap all (DiskRecord d ∷ os) h = no_overlap all os h
no_overlap all (o ∷ os) h = cc

module _ (objs all : List Object) (same : IsPermutation objs all) (plain : list_all is_plain all ≡ true) where
  over_none : (r : Rule) → fault_over r objs ≡ None → fault_over r all ≡ None
  unfolding fault_over
  over_none rule.OneGroup e =
      let count = sum_by-IsPermutation (λ o. cond (is_group (λ g. true) o) 1 0) objs all same in
      let any = sym (list_any-IsPermutation (λ o. is_group (λ g. g.version == 1) o) objs all same) in
      (λ i. unless ((count i == 1) && any i) (Limit limit.Group)) ∙ e
  over_none rule.NamesDiffer e = names_kept objs all same e
  over_none rule.VolumesAreFew e = ap (λ (n : ℕ). unless (nat_le n 64) (Limit limit.Volumes)) (sum_by-IsPermutation (λ o. cond (is_vol (λ v. true) o) 1 0) objs all same) ∙ e
  over_none rule.SubdisksDoNotOverlap e = ap overlap_of (no_overlap all all plain)
  over_none r e = refl

  rule_kept : (r : Rule) → fault_of r objs ≡ None → fault_of r all ≡ None
  unfolding fault_of
  rule_kept r e =
      some_none (fault_over r all) (first_of (fault_in r all) all) (over_none r (first_none (fault_over r objs) (first_of (fault_in r objs) objs) e))
      (each_none objs all same r all plain (all_permuted (λ o. is_none (fault_in r objs o)) objs all same (as_all (fault_in r objs) objs (second_none (fault_over r objs) (first_of (fault_in r objs) objs) e))))

  rules_kept : (rs : List Rule) → first_broken_of rs objs ≡ None → first_broken_of rs all ≡ None
  rules_kept [] e = refl
  rules_kept (r ∷ rs) e =
      some_none (fault_of r all) (first_broken_of rs all) (rule_kept r (first_none (fault_of r objs) (first_broken_of rs objs) e)) (rules_kept rs (second_none (fault_of r objs) (first_broken_of rs objs) e))

  pub still_valid : first_broken objs ≡ None → first_broken all ≡ None
  unfolding first_broken
  still_valid e = rules_kept rules e
