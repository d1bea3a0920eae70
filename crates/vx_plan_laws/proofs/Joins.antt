-- A disk joins: no rule is broken but that names differ.
use Rattle.std.proofs.Common.{◌≡◌, ℕ, ◌+◌, ◌≤◌, Bool, true, false, cond, ◌==◌, nat_lt, nat_le, Option, Some, None, List, [], ◌∷◌, ◌++◌, refl, sym, ◌∙◌, ap, subst, add-zero, le_of_eq, arith, if◌then◌else◌}
use Rattle.std.specs.List.{list_any, count_by, filter_map}
use Rattle.std.specs.Str.{bytes_eq}
use Rattle.std.proofs.lemmas.Bool.{or_left, and_from}
use Rattle.std.proofs.lemmas.Bool.Decides.{nat_tests}
use Rattle.std.proofs.lemmas.List.Folds.{list_any-append}
use Rattle.vx_base.specs.Named.{Word}
use Rattle.vx_base.proofs.NamedLemmas.{bytes_eq_self, bytes_eq_same}
use Rattle.vx_copies.specs.Lists.{AllOf}
use Rattle.vx_config_parts.specs.declared.disk.Disk.{Disk}
use Rattle.vx_config_parts.specs.declared.object.Object.{Object}
use Rattle.vx_config_parts.specs.declared.object.Object.TheVariants.{DiskRecord}
use Rattle.vx_config_parts.specs.declared.fault.Limit.TheVariants as limit
use Rattle.vx_config_parts.specs.declared.fault.ObjectFault.{ObjectFault}
use Rattle.vx_config_parts.specs.declared.fault.ObjectFault.TheVariants.{Exists, Limit}
use Rattle.vx_config_parts.specs.Objects.{name_of, is_group, is_disk, is_subdisk, is_plex, is_vol, is_dco, is_snap}
use Rattle.vx_rules.specs.declared.rule.Rule.TheVariants as rule
use Rattle.vx_rules.specs.Faults.{unless}
use Rattle.vx_rules.specs.Limits.{has_one_group, numbers_fit, slot_is_own, name_is_short}
use Rattle.vx_rules.specs.References.{has_name, repeated_after}
use Rattle.vx_rules.specs.Rules.{fault_over, first_broken}
use Rattle.vx_rules.proofs.InOrder.{names_differ, broken_name}
use Rattle.vx_objects.specs.declared.edit.Edit.TheVariants.{AddDisk}
use Rattle.vx_objects.specs.Edits.{change, added, target_fault, refusal_of}
use Rattle.vx_objects.specs.Parts.{in_kinds}
use Rattle.vx_plan_laws.proofs.Counts.{count_cons, count_append, none_counted, turned, all_map, all_append, all_both, IsAmong, each_among}
use Rattle.vx_plan_laws.proofs.Differ.{AreOnce, had_by, has_had, once, once_more, twice}
use Rattle.vx_plan_laws.proofs.FirstRefusals.{IsFine, AreFine, each_holds, over_all, in_all}
use Rattle.vx_plan_laws.proofs.OneRule.{EachName}
use Rattle.vx_plan_laws.proofs.Keeps.{Keeps, IsSame, disk_fine, record_kept, group_over, over_kept}
use Rattle.vx_plan_laws.proofs.KindOrder.{all_same, slot_kept, count_in_kinds, is_on, sorted}

-- records that all stay as they are
pub all_stay : (os : List Object) → filter_map (λ o. Some o) os ≡ os
all_stay [] = refl
all_stay (o ∷ os) = ap (λ (rest : List Object). o ∷ rest) (all_stay os)

same_turned : (a b : ℕ) → (a == b) ≡ false → (b == a) ≡ false
same_turned a b e = grind (arith, nat_tests)

one_has : (n : ℕ) → n ≡ 0 → nat_le (n + 1) 1 ≡ true
one_has n e = grind (arith, nat_tests)

itself : (a : ℕ) → (a == a) ≡ true
itself a = grind (arith, nat_tests)

one_twice : (a : ℕ) → a ≤ 1 → 2 ≤ a + 0 → ⊥
one_twice a low more = omega arith

is_twice : (a : ℕ) → 1 ≤ a → a + 1 ≤ 1 → ⊥
is_twice a some few = omega arith

module _ (d : Disk) (old : List Object) where
  abbrev now : List Object
  now = old ++ DiskRecord d ∷ []

  joined : (test : Object → Bool) → count_by test now ≡ count_by test old + cond (test (DiskRecord d)) 1 0
  joined test = count_append test old (DiskRecord d ∷ []) ∙ ap (λ (n : ℕ). count_by test old + n) (count_cons test (DiskRecord d) [] ∙ add-zero (cond (test (DiskRecord d)) 1 0))

  -- a test that the disk does not pass
  same : (test : Object → Bool) → test (DiskRecord d) ≡ false → IsSame old now test
  same test fails = joined test ∙ ap (λ (b : Bool). count_by test old + cond b 1 0) fails ∙ add-zero (count_by test old)

  keeps : Keeps old now EachName EachName
  keeps = record {
    groups = λ test. same (λ o. is_group test o) refl;
    disks = λ test e. list_any-append (λ o. is_disk test o) old (DiskRecord d ∷ []) ∙ or_left (list_any (λ o. is_disk test o) old) (list_any (λ o. is_disk test o) (DiskRecord d ∷ [])) e;
    subdisks = λ plex test on asks. same (λ o. is_subdisk test o) refl;
    plexes = λ plex test on asks. same (λ o. is_plex test o) refl;
    plexes_of = λ vol test on asks. same (λ o. is_plex test o) refl;
    volumes = λ vol test on asks. same (λ o. is_vol test o) refl;
    dcos = λ vol test on asks. same (λ o. is_dco test o) refl;
    snaps = λ test. same (λ o. is_snap test o) refl;
    few_subdisks = λ test. le_of_eq (same (λ o. is_subdisk test o) refl);
    few_volumes = le_of_eq (same (λ o. is_vol (λ v. true) o) refl);
  }

  module _ (over : AreFine old) (each : AllOf (IsFine old) old) (single : AreOnce old) (unused : list_any (λ o. is_disk (λ e. e.slot == d.slot) o) old ≡ false)
      (fits : numbers_fit (DiskRecord d) ≡ true) (low : nat_lt d.slot 32 ≡ true) (short : name_is_short (DiskRecord d) ≡ true) where
    -- the slot of a disk that was there is another
    own : (e : Disk) → IsFine old (DiskRecord e) × IsAmong old (DiskRecord e) → slot_is_own now (DiskRecord e) ≡ true
    own e is =
        let other : (e.slot == d.slot) ≡ false = turned (e.slot == d.slot) (list_any (λ o. is_disk (λ e. e.slot == d.slot) o) old) (is.1 (λ o. is_disk (λ e. e.slot == d.slot) o)) unused in
        slot_kept old now e (same (λ o. is_disk (λ f. f.slot == e.slot) o) (same_turned e.slot d.slot other)) is.0

    new_own : slot_is_own now (DiskRecord d) ≡ true
    new_own =
        let count : count_by (λ o. is_disk (λ e. e.slot == d.slot) o) now ≡ count_by (λ o. is_disk (λ e. e.slot == d.slot) o) old + 1 = joined (λ o. is_disk (λ e. e.slot == d.slot) o) ∙ ap (λ (b : Bool). count_by (λ o. is_disk (λ e. e.slot == d.slot) o) old + cond b 1 0) (itself d.slot) in
        and_from (nat_lt d.slot 32) (nat_le (count_by (λ o. is_disk (λ e. e.slot == d.slot) o) now) 1) low
        (ap (λ (n : ℕ). nat_le n 1) count ∙ one_has (count_by (λ o. is_disk (λ e. e.slot == d.slot) o) old) (none_counted (λ o. is_disk (λ e. e.slot == d.slot) o) old unused))

    fine_now : AllOf (IsFine now) now
    fine_now =
        all_append (IsFine now) old (DiskRecord d ∷ [])
        (all_map (λ o. IsFine old o × IsAmong old o) (IsFine now) old
        (λ o is. record_kept old now EachName EachName keeps o (is_on now (λ o. IsFine old o × IsAmong old o) own o is) is.0) (all_both (IsFine old) (IsAmong old) old each (each_among old)))
        (disk_fine old now EachName EachName keeps d fits new_own short, tt)

    free_kept : has_name d.name old ≡ false → first_broken (in_kinds now) ≡ None
    free_kept new =
        let once_now : AreOnce now = once_more old (DiskRecord d) single new in
        sorted now (over_kept old now EachName EachName keeps once_now over) fine_now once_now

    -- where the name is taken, it alone is had twice
    its_name : (name : Word) → 2 ≤ had_by name (in_kinds now) → name ≡ d.name
    its_name name more = by (bytes_eq d.name name) refl
      where
        count : had_by name (in_kinds now) ≡ had_by name old + cond (bytes_eq d.name name) 1 0
        count = count_in_kinds (λ o. bytes_eq (name_of o) name) now ∙ joined (λ o. bytes_eq (name_of o) name)

        by : (b : Bool) → bytes_eq d.name name ≡ b → name ≡ d.name
        by true e = sym (bytes_eq_same d.name name e)
        by false e = absurd (one_twice (had_by name old) (single name) (subst (λ (n : ℕ). 2 ≤ n) (count ∙ ap (λ (b : Bool). had_by name old + cond b 1 0) e) more))

    taken_name : has_name d.name old ≡ true → repeated_after [] (in_kinds now) ≡ Some (Exists d.name)
    taken_name has = by (repeated_after [] (in_kinds now)) refl
      where
        count : had_by d.name (in_kinds now) ≡ had_by d.name old + 1
        count = count_in_kinds (λ o. bytes_eq (name_of o) d.name) now ∙ joined (λ o. bytes_eq (name_of o) d.name) ∙ ap (λ (b : Bool). had_by d.name old + cond b 1 0) (bytes_eq_self d.name)

        by : (f : Option ObjectFault) → repeated_after [] (in_kinds now) ≡ f → f ≡ Some (Exists d.name)
        by None e = absurd (is_twice (had_by d.name old) (has_had d.name old has) (subst (λ (n : ℕ). n ≤ 1) count (once (in_kinds now) e d.name)))
        by (Some fault) e =
            let found = twice (in_kinds now) fault e in
            ap (λ (f : ObjectFault). Some f) (found.1 ∙ ap (λ (n : Word). Exists n) (its_name found.0 found.2))

    group_fine : unless (has_one_group (in_kinds now)) (Limit limit.Group) ≡ None
    unfolding fault_over
    group_fine =
        group_over now (in_kinds now) EachName EachName (all_same now (in_kinds now) (λ test. count_in_kinds test now))
        (group_over old now EachName EachName keeps (over rule.OneGroup))

    taken_kept : has_name d.name old ≡ true → first_broken (in_kinds now) ≡ Some (Exists d.name)
    taken_kept has = sym (broken_name (in_kinds now) (has_one_group (in_kinds now)) (unless (has_one_group (in_kinds now)) (Limit limit.Group)) (Exists d.name) refl refl (taken_name has) group_fine)

    pub by_name : first_broken (in_kinds now) ≡ (if has_name d.name old then Some (Exists d.name) else None)
    by_name = by (has_name d.name old) refl
      where
        by : (b : Bool) → has_name d.name old ≡ b → first_broken (in_kinds now) ≡ (if b then Some (Exists d.name) else None)
        by true e = taken_kept e
        by false e = free_kept e

-- no rule refuses a disk whose slot is free and whose numbers and name keep the limits, unless its name is taken
pub joining_kept : (d : Disk) (old : List Object) → first_broken old ≡ None → list_any (λ o. is_disk (λ e. e.slot == d.slot) o) old ≡ false → numbers_fit (DiskRecord d) ≡ true → nat_lt d.slot 32 ≡ true → name_is_short (DiskRecord d) ≡ true
    → refusal_of (AddDisk d ∷ []) old ≡ (if has_name d.name old then Some (Exists d.name) else None)
unfolding change added target_fault
joining_kept d old valid unused fits low short =
    let hold = each_holds old valid in
    ap (λ (os : List Object). first_broken (in_kinds (os ++ DiskRecord d ∷ []))) (all_stay old)
    ∙ by_name d old (over_all old hold) (in_all old hold) (once old (names_differ old valid)) unused fits low short
