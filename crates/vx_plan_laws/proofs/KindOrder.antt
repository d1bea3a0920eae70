-- Records that keep the rules keep them once they are sorted into their kinds.
use Rattle.std.proofs.Common.{◌≡◌, ℕ, ◌+◌, ◌≤◌, Bool, true, false, ◌&&◌, ◌==◌, nat_lt, nat_le, Option, Some, None, List, [], ◌∷◌, ◌++◌, map, refl, sym, ◌∙◌, ap, subst, is_some, arith, le_of_eq}
use Rattle.std.specs.Str.{bytes_eq}
use Rattle.std.specs.List.{list_any, count_by, filter_map}
use Rattle.std.proofs.lemmas.Bool.{or_parts, or_from}
use Rattle.vx_copies.specs.Lists.{AllOf}
use Rattle.vx_config_parts.specs.declared.disk.Disk.{Disk}
use Rattle.vx_config_parts.specs.declared.object.Object.{Object}
use Rattle.vx_config_parts.specs.declared.object.Object.TheVariants.{GroupRecord, DiskRecord, SubdiskRecord, PlexRecord, VolRecord, DcoRecord, SnapRecord}
use Rattle.vx_config_parts.specs.Objects.{name_of, is_group, is_disk, is_subdisk, is_plex, is_vol, is_dco, is_snap}
use Rattle.vx_rules.specs.Limits.{slot_is_own}
use Rattle.vx_rules.specs.Rules.{fault_in, first_broken}
use Rattle.vx_rules.specs.declared.rule.Rule.TheVariants as rule
use Rattle.vx_config_parts.specs.declared.fault.Limit.TheVariants as limit
use Rattle.vx_config_parts.specs.declared.fault.ObjectFault.{ObjectFault}
use Rattle.vx_config_parts.specs.declared.fault.ObjectFault.TheVariants as fault
use Rattle.vx_objects.proofs.OneGroup.{unless_none}
use Rattle.vx_objects.specs.Parts.{as_group, as_disk, as_subdisk, as_plex, as_vol, as_dco, as_snap, in_kinds}
use Rattle.vx_plan_laws.proofs.Counts.{count_cons, count_append, all_map}
use Rattle.vx_plan_laws.proofs.Differ.{AreOnce}
use Rattle.vx_plan_laws.proofs.FirstRefusals.{IsFine, AreFine, gathered, none_broken}
use Rattle.vx_plan_laws.proofs.OneRule.{EachName, of_each}
use Rattle.vx_plan_laws.proofs.Keeps.{Keeps, IsSame, IsOn, any_same, record_kept, over_kept}

-- ---- counts

-- how many of the records of one kind pass
abbrev part : {A : Type 0} → (Object → Bool) → (A → Object) → (Object → Option A) → List Object → ℕ
part test make pick os = count_by test (map make (filter_map pick os))

abbrev parts : (Object → Bool) → List Object → ℕ
parts test os =
    part test GroupRecord as_group os
    + (part test DiskRecord as_disk os
    + (part test SubdiskRecord as_subdisk os + (part test PlexRecord as_plex os + (part test VolRecord as_vol os + (part test DcoRecord as_dco os + part test SnapRecord as_snap os)))))

split : (test : Object → Bool) (os : List Object) → count_by test (in_kinds os) ≡ parts test os
split test os =
    let groups : List Object = map GroupRecord (filter_map as_group os) in
    let disks : List Object = map DiskRecord (filter_map as_disk os) in
    let subdisks : List Object = map SubdiskRecord (filter_map as_subdisk os) in
    let plexes : List Object = map PlexRecord (filter_map as_plex os) in
    let volumes : List Object = map VolRecord (filter_map as_vol os) in
    let dcos : List Object = map DcoRecord (filter_map as_dco os) in
    let snaps : List Object = map SnapRecord (filter_map as_snap os) in
    let a = count_append test groups (disks ++ (subdisks ++ (plexes ++ (volumes ++ (dcos ++ snaps))))) in
    let b = count_append test disks (subdisks ++ (plexes ++ (volumes ++ (dcos ++ snaps)))) in
    let c = count_append test subdisks (plexes ++ (volumes ++ (dcos ++ snaps))) in
    let d = count_append test plexes (volumes ++ (dcos ++ snaps)) in
    let e = count_append test volumes (dcos ++ snaps) in
    let f = count_append test dcos snaps in
    omega arith

-- each record is of one kind
all_parts : (test : Object → Bool) (os : List Object) → parts test os ≡ count_by test os
all_parts test [] = refl
all_parts test (GroupRecord x ∷ os) = let more = all_parts test os in let here = count_cons test (GroupRecord x) (map GroupRecord (filter_map as_group os)) in let all = count_cons test (GroupRecord x) os in omega arith
all_parts test (DiskRecord x ∷ os) = let more = all_parts test os in let here = count_cons test (DiskRecord x) (map DiskRecord (filter_map as_disk os)) in let all = count_cons test (DiskRecord x) os in omega arith
all_parts test (SubdiskRecord x ∷ os) = let more = all_parts test os in let here = count_cons test (SubdiskRecord x) (map SubdiskRecord (filter_map as_subdisk os)) in let all = count_cons test (SubdiskRecord x) os in omega arith
all_parts test (PlexRecord x ∷ os) = let more = all_parts test os in let here = count_cons test (PlexRecord x) (map PlexRecord (filter_map as_plex os)) in let all = count_cons test (PlexRecord x) os in omega arith
all_parts test (VolRecord x ∷ os) = let more = all_parts test os in let here = count_cons test (VolRecord x) (map VolRecord (filter_map as_vol os)) in let all = count_cons test (VolRecord x) os in omega arith
all_parts test (DcoRecord x ∷ os) = let more = all_parts test os in let here = count_cons test (DcoRecord x) (map DcoRecord (filter_map as_dco os)) in let all = count_cons test (DcoRecord x) os in omega arith
all_parts test (SnapRecord x ∷ os) = let more = all_parts test os in let here = count_cons test (SnapRecord x) (map SnapRecord (filter_map as_snap os)) in let all = count_cons test (SnapRecord x) os in omega arith

pub count_in_kinds : (test : Object → Bool) (os : List Object) → count_by test (in_kinds os) ≡ count_by test os
count_in_kinds test os = split test os ∙ all_parts test os

-- ---- rules

is_nothing : {A : Type 0} (o : Option A) → is_some o ≡ false → o ≡ None
is_nothing None e = refl
is_nothing (Some x) e = cc

none_some : (check : Object → Option ObjectFault) (os : List Object) → AllOf (λ o. check o ≡ None) os → list_any (λ o. is_some (check o)) os ≡ false
none_some check [] all = refl
none_some check (o ∷ os) all = or_from (is_some (check o)) (list_any (λ o. is_some (check o)) os) (ap is_some all.0) (none_some check os all.1)

none_again : (check : Object → Option ObjectFault) (os : List Object) → list_any (λ o. is_some (check o)) os ≡ false → AllOf (λ o. check o ≡ None) os
none_again check [] e = tt
none_again check (o ∷ os) e =
    let parts = or_parts (is_some (check o)) (list_any (λ o. is_some (check o)) os) e in
    (is_nothing (check o) parts.0, none_again check os parts.1)

-- with each count as before, all is as before
pub all_same : (old new : List Object) → ((test : Object → Bool) → IsSame old new test) → Keeps old new EachName EachName
all_same old new same = record {
  groups = λ test. same (λ o. is_group test o);
  disks = λ test e. any_same old new (λ o. is_disk test o) (same (λ o. is_disk test o)) ∙ e;
  subdisks = λ plex test on asks. same (λ o. is_subdisk test o);
  plexes = λ plex test on asks. same (λ o. is_plex test o);
  plexes_of = λ vol test on asks. same (λ o. is_plex test o);
  volumes = λ vol test on asks. same (λ o. is_vol test o);
  dcos = λ vol test on asks. same (λ o. is_dco test o);
  snaps = λ test. same (λ o. is_snap test o);
  few_subdisks = λ test. le_of_eq (same (λ o. is_subdisk test o));
  few_volumes = le_of_eq (same (λ o. is_vol (λ v. true) o));
}

-- with the disks of each slot as before, a slot is a disk's own still
pub slot_kept : (old new : List Object) (d : Disk) → IsSame old new (λ o. is_disk (λ e. e.slot == d.slot) o) → IsFine old (DiskRecord d) → slot_is_own new (DiskRecord d) ≡ true
unfolding fault_in
slot_kept old new d same fine = (λ i. nat_lt d.slot 32 && nat_le (same i) 1) ∙ unless_none (slot_is_own old (DiskRecord d)) (fault.Limit limit.Disks) (fine rule.SlotsDiffer)

-- where all volumes and plexes are as before, a record is, but for the slot of a disk
pub is_on : (new : List Object) (P : Object → Type 0) → ((d : Disk) → P (DiskRecord d) → slot_is_own new (DiskRecord d) ≡ true) → (o : Object) → P o → IsOn EachName EachName new o
is_on new P own (GroupRecord g) is = tt
is_on new P own (DiskRecord d) is = own d is
is_on new P own (SubdiskRecord s) is = of_each s.plex
is_on new P own (PlexRecord p) is = (of_each p.vol, tt)
is_on new P own (VolRecord v) is = tt
is_on new P own (DcoRecord d) is = tt
is_on new P own (SnapRecord s) is = (tt, tt)

module _ (os : List Object) (over : AreFine os) (each : AllOf (IsFine os) os) where
  same : (test : Object → Bool) → IsSame os (in_kinds os) test
  same test = count_in_kinds test os

  kept : Keeps os (in_kinds os) EachName EachName
  kept = all_same os (in_kinds os) same

  once_sorted : AreOnce os → AreOnce (in_kinds os)
  once_sorted one name = subst (λ (n : ℕ). n ≤ 1) (sym (same (λ o. bytes_eq (name_of o) name))) (one name)

  own : (d : Disk) → IsFine os (DiskRecord d) → slot_is_own (in_kinds os) (DiskRecord d) ≡ true
  own d fine = slot_kept os (in_kinds os) d (same (λ o. is_disk (λ e. e.slot == d.slot) o)) fine

  -- a rule that holds of each record holds of each where they are sorted
  each_sorted : (check : Object → Option ObjectFault) → AllOf (λ o. check o ≡ None) os → AllOf (λ o. check o ≡ None) (in_kinds os)
  each_sorted check all = none_again check (in_kinds os) (any_same os (in_kinds os) (λ o. is_some (check o)) (same (λ o. is_some (check o))) ∙ none_some check os all)

  pub sorted : AreOnce os → first_broken (in_kinds os) ≡ None
  sorted one =
      none_broken (in_kinds os) (over_kept os (in_kinds os) EachName EachName kept (once_sorted one) over)
      (gathered (λ r o. fault_in r (in_kinds os) o ≡ None) (in_kinds os)
      (λ r. each_sorted (fault_in r (in_kinds os))
      (all_map (IsFine os) (λ o. fault_in r (in_kinds os) o ≡ None) os (λ o fine. record_kept os (in_kinds os) EachName EachName kept o (is_on (in_kinds os) (IsFine os) own o fine) fine r) each)))
