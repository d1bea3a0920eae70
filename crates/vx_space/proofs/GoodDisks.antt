-- The good disks by name, and their runs together.
use Rattle.std.proofs.Common.{◌≡◌, ℕ, suc, add-one, ◌+◌, ◌<◌, ◌≤◌, Bool, true, false, cond, not, List, [], ◌∷◌, ◌++◌, length, get_or, map, refl, sym, ap, ◌∙◌, subst, inl, inr, arith, ◌&&◌, ◌||◌, None}
use Rattle.std.specs.List.{list_all, list_any, filter, count_by}
use Rattle.std.specs.List.Sorted.{IsPermutation}
use Rattle.std.specs.Str.{bytes_eq}
use Rattle.std.proofs.lemmas.Bool.{false≢true, and_parts, and_from, or_from, cases_Bool, false_from_ne_true}
use Rattle.std.proofs.lemmas.List.Sorted.{list_any-IsPermutation, sum_by-IsPermutation}
use Rattle.vx_base.specs.Named.{Word}
use Rattle.vx_base.proofs.NamedLemmas.{bytes_eq_self, bytes_eq_same}
use Rattle.vx_config_parts.specs.declared.disk.Disk.{Disk}
use Rattle.vx_config_parts.specs.declared.object.Object.{Object}
use Rattle.vx_config_parts.specs.declared.object.Object.TheVariants.{GroupRecord, DiskRecord, SubdiskRecord, PlexRecord, VolRecord, DcoRecord, SnapRecord}
use Rattle.vx_config_parts.specs.declared.fault.ObjectFault.TheVariants.{Exists}
use Rattle.vx_config_parts.specs.Objects.{comes_before, name_of}
use Rattle.vx_rules.proofs.ListTests.{count_more, count_none, all_is_none}
use Rattle.vx_rules.proofs.NameOrder.{before_later, same_place}
use Rattle.vx_rules.specs.Faults.{unless}
use Rattle.vx_rules.specs.References.{has_name, repeated_after}
use Rattle.vx_rules.proofs.InOrder.{names_differ}
use Rattle.vx_objects.specs.declared.config.Config.{Config}
use Rattle.vx_objects.specs.Config.{objects_of}
use Rattle.vx_objects.proofs.OneGroup.{second_none}
use Rattle.vx_image.proofs.PlexMembers.{in_right, any_in, later_differs}
use Rattle.vx_image.proofs.Plexes.{IsValid}
use Rattle.vx_space.specs.Disks.{is_good, names_rise, AreGoodDisks}

abbrev named : Word → Disk → Bool
named n d = bytes_eq d.name n

-- ---- each name once

count_named : (n : Word) (before os : List Object) → repeated_after before os ≡ None → count_by (λ o. bytes_eq (name_of o) n) os ≤ 1
count_named n before [] e = omega arith
count_named n before (o ∷ os) e =
    let rest = second_none (unless (not (has_name (name_of o) before)) (Exists (name_of o))) (repeated_after (before ++ o ∷ []) os) e in
    by rest (count_named n (before ++ o ∷ []) os rest) (bytes_eq (name_of o) n) refl (count_more (λ p. bytes_eq (name_of p) n) o os) where
      none : repeated_after (before ++ o ∷ []) os ≡ None → bytes_eq (name_of o) n ≡ true → list_any (λ p. bytes_eq (name_of p) n) os ≡ false
      none rest h = false_from_ne_true _ (λ k.
          let r = any_in (λ p. bytes_eq (name_of p) n) os k in
          later_differs (before ++ o ∷ []) os o r.0 rest (in_right before (o ∷ []) o (inl refl)) r.1 (bytes_eq_same (name_of o) n h ∙ sym (bytes_eq_same (name_of r.0) n r.2)))

      by : repeated_after (before ++ o ∷ []) os ≡ None → count_by (λ p. bytes_eq (name_of p) n) os ≤ 1 → (b : Bool) → bytes_eq (name_of o) n ≡ b → count_by (λ p. bytes_eq (name_of p) n) (o ∷ os) ≡ cond b 1 0 + count_by (λ p. bytes_eq (name_of p) n) os → count_by (λ p. bytes_eq (name_of p) n) (o ∷ os) ≤ 1
      by rest few true h more = let no' = count_none (λ p. bytes_eq (name_of p) n) os (none rest h) in omega (arith, more, no')
      by rest few false h more = omega (arith, more, few)

disks_count : (n : Word) (ds : List Disk) (os : List Object) → count_by (named n) ds ≤ count_by (λ o. bytes_eq (name_of o) n) (map DiskRecord ds ++ os)
disks_count n [] os = omega arith
disks_count n (d ∷ ds) os =
    let a = count_more (named n) d ds in
    let b = count_more (λ o. bytes_eq (name_of o) n) (DiskRecord d) (map DiskRecord ds ++ os) in
    let le = disks_count n ds os in
    omega (arith, a, b, le)

once : (c : Config) → IsValid c → (n : Word) → count_by (named n) c.disks ≤ 1
once c v n =
    let all = count_named n [] (objects_of c) (names_differ (objects_of c) v) in
    let others : List Object = map SubdiskRecord c.subdisks ++ (map PlexRecord c.plexes ++ (map VolRecord c.volumes ++ (map DcoRecord c.dcos ++ map SnapRecord c.snaps))) in
    let first = count_more (λ o. bytes_eq (name_of o) n) (GroupRecord (record { name = c.group; version = c.version })) (map DiskRecord c.disks ++ others) in
    let some = disks_count n c.disks others in
    omega (arith, all, first, some)

filter_count : (p q : Disk → Bool) (ds : List Disk) → count_by p (filter q ds) ≤ count_by p ds
filter_count p q [] = omega arith
filter_count p q (d ∷ ds) = by (count_more p d ds) (filter_count p q ds) (q d) where
  by : count_by p (d ∷ ds) ≡ cond (p d) 1 0 + count_by p ds → count_by p (filter q ds) ≤ count_by p ds → (b : Bool) → count_by p (cond b (d ∷ filter q ds) (filter q ds)) ≤ count_by p (d ∷ ds)
  by more le true = let kept = count_more p d (filter q ds) in omega (arith, more, kept, le)
  by more le false = omega (arith, more, le)

-- ---- in order

counted : (b : Bool) (n k : ℕ) → k ≡ cond b 1 0 + n → b ≡ true → k ≡ 1 + n
counted true n k e h = e
counted false n k e h = absurd (false≢true h)

rise : (ds : List Disk) → ((k : ℕ) (e : Disk) → suc k < length ds → comes_before (get_or ds (suc k) e).name (get_or ds k e).name ≡ false) → ((n : Word) → count_by (named n) ds ≤ 1) → names_rise ds ≡ true
rise [] up one = refl
rise (d ∷ []) up one = refl
rise (d ∷ e ∷ ds) up one =
    and_from _ _ (elim (cases_Bool (comes_before d.name e.name)) [
      | inl h ↦ h
      | inr h ↦
          let same = same_place d.name e.name h (up 0 d (omega arith)) in
          let le = one d.name in
          let a = counted (named d.name d) (count_by (named d.name) (e ∷ ds)) (count_by (named d.name) (d ∷ e ∷ ds)) (count_more (named d.name) d (e ∷ ds)) (bytes_eq_self d.name) in
          let b = counted (named d.name e) (count_by (named d.name) ds) (count_by (named d.name) (e ∷ ds)) (count_more (named d.name) e ds) (subst (λ n. bytes_eq n d.name ≡ true) same (bytes_eq_self d.name)) in
          absurd (omega (arith, le, a, b))
    ])
    (rise (e ∷ ds) (λ k f lt. up (suc k) f (omega (arith, lt))) (λ n. let le = one n in let a = count_more (named n) d (e ∷ ds) in omega (arith, le, a)))

any_filter : (q p : Disk → Bool) (ds : List Disk) → list_any p (filter q ds) ≡ list_any (λ d. q d && p d) ds
any_filter q p [] = refl
any_filter q p (d ∷ ds) = by (q d) (any_filter q p ds) where
  by : (b : Bool) → list_any p (filter q ds) ≡ list_any (λ e. q e && p e) ds → list_any p (cond b (d ∷ filter q ds) (filter q ds)) ≡ ((b && p d) || list_any (λ e. q e && p e) ds)
  by true h = ap (λ b. p d || b) h
  by false h = h

pub good_disks : (c : Config) → IsValid c → (good : ℕ) (sorted : List Disk) → IsPermutation (filter (is_good good) c.disks) sorted →
    ((k : ℕ) (e : Disk) → k + 1 < length sorted → comes_before (get_or sorted (k + 1) e).name (get_or sorted k e).name ≡ false) → AreGoodDisks c good sorted
good_disks c v good sorted same up = record {
  there = λ test. sym (list_any-IsPermutation test (filter (is_good good) c.disks) sorted same) ∙ any_filter (is_good good) test c.disks;
  order = rise sorted (λ k e lt. subst (λ m. comes_before (get_or sorted m e).name (get_or sorted k e).name ≡ false) (add-one k) (up k e (omega (arith, lt)))) (λ n.
      let moved : count_by (named n) sorted ≡ count_by (named n) (filter (is_good good) c.disks) = sum_by-IsPermutation (λ d. cond (named n d) 1 0) (filter (is_good good) c.disks) sorted same in
      let few = filter_count (named n) (is_good good) c.disks in
      let one = once c v n in
      omega (arith, moved, few, one));
}

-- what each disk of the configuration passes, each good one does
pub all_good : (c : Config) (good : ℕ) (ds : List Disk) (p : Disk → Bool) → AreGoodDisks c good ds → list_all p c.disks ≡ true → list_all p ds ≡ true
all_good c good ds p are all =
    all_is_none p ds ∙ ap not (are.there (λ d. not (p d)) ∙ none c.disks all) where
      none : (es : List Disk) → list_all p es ≡ true → list_any (λ d. is_good good d && not (p d)) es ≡ false
      none [] h = refl
      none (e ∷ es) h =
          let parts = and_parts (p e) (list_all p es) h in
          or_from _ _ (false_from_ne_true _ (λ k. false≢true (sym (ap not parts.0) ∙ (and_parts (is_good good e) (not (p e)) k).1))) (none es parts.1)

-- each later disk has a later name
pub later : (d : Disk) (ds : List Disk) → names_rise (d ∷ ds) ≡ true → list_all (λ e. comes_before d.name e.name) ds ≡ true
later d [] h = refl
later d (e ∷ es) h =
    let parts = and_parts (comes_before d.name e.name) (names_rise (e ∷ es)) h in
    and_from _ _ parts.0 (weaker es (later e es parts.1)) where
      weaker : (fs : List Disk) → list_all (λ f. comes_before e.name f.name) fs ≡ true → list_all (λ f. comes_before d.name f.name) fs ≡ true
      weaker [] k = refl
      weaker (f ∷ fs) k =
          let ps = and_parts (comes_before e.name f.name) (list_all (λ g. comes_before e.name g.name) fs) k in
          and_from _ _ (before_later d.name e.name f.name (and_parts (comes_before d.name e.name) (names_rise (e ∷ es)) h).0 ps.0) (weaker fs ps.1)
