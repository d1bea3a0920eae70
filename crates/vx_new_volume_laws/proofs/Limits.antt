-- The limits of a configuration hold of a group's records with those of a new volume.
use Rattle.std.proofs.Common.{◌≡◌, ◌≤◌, ◌^◌, ◌==◌, ◌&&◌, not, nat_le, nat_lt, Bool, true, Option, None, List, ◌++◌, length, refl, ap, ◌∙◌, arith}
use Rattle.std.specs.List.{count_by, list_any}
use Rattle.std.specs.Str.{bytes_eq}
use Rattle.std.proofs.lemmas.Bool.{and_from, and_parts, false≢true, le-leb, leb-true, ltb-true}
use Rattle.vx_base.specs.Named.{Word}
use Rattle.vx_base.proofs.NamedLemmas.{bytes_eq_self}
use Rattle.vx_config_parts.specs.declared.fault.Limit.TheVariants as limit
use Rattle.vx_config_parts.specs.declared.fault.ObjectFault.TheVariants.{InUse, Limit}
use Rattle.vx_config_parts.specs.declared.object.Object.{Object}
use Rattle.vx_config_parts.specs.declared.object.Object.TheVariants.{DiskRecord, SubdiskRecord, PlexRecord, VolRecord, DcoRecord, SnapRecord}
use Rattle.vx_config_parts.specs.declared.plex.Plex.{Plex}
use Rattle.vx_config_parts.specs.declared.snap.Snap.{Snap}
use Rattle.vx_config_parts.specs.declared.subdisk.Subdisk.{Subdisk}
use Rattle.vx_config_parts.specs.declared.vol.Vol.{Vol}
use Rattle.vx_config_parts.specs.Objects.{is_data_plex_of, is_disk, is_group, is_plex, is_snap, is_vol, refers}
use Rattle.vx_rules.proofs.ListTests.{any_weaker}
use Rattle.vx_rules.specs.declared.rule.Rule.{Rule}
use Rattle.vx_rules.specs.declared.rule.Rule.TheVariants as rule
use Rattle.vx_rules.specs.Adding.{fault_by}
use Rattle.vx_rules.specs.Faults.{unless}
use Rattle.vx_rules.specs.Limits.{has_one_group, plexes_are_good, slot_is_own, volumes_are_few}
use Rattle.vx_rules.specs.Relations.{has_shape, relation_fault, relation_is_alone, shape_fault, shapes_are_equal}
use Rattle.vx_rules.specs.Rules.{fault_in, fault_over}
use Rattle.vx_objects.proofs.OneGroup.{group_holds, unless_none}
use Rattle.vx_objects.specs.Config.{objects_of}
use Rattle.vx_image.proofs.PlexMembers.{IsIn, in_any, in_right}
use Rattle.vx_image.proofs.Plexes.{config_valid}
use Rattle.vx_image.proofs.Valid.{slot_own}
use Rattle.vx_new_volumes.specs.Records.{data_plex, log_plex, vol_of}
use Rattle.vx_new_volumes.specs.declared.volume.NewVolume.{NewVolume}
use Rattle.vx_moments.specs.World.{Group}
use Rattle.vx_new_volume_laws.proofs.Parts.{of_each}
use Rattle.vx_new_volume_laws.proofs.Repeats.{unless_true}
use Rattle.vx_new_volume_laws.proofs.Names.{logs_found, plexes_found}
use Rattle.vx_new_volume_laws.proofs.Lying.{IsCase}
use Rattle.vx_new_volume_laws.proofs.Lists.{first_there}
use Rattle.vx_new_volume_laws.proofs.Ruled.{any_more, any_same, count_both, count_same, holds_in, holds_over, rule_holds, unless_kept}
use Rattle.vx_new_volume_laws.proofs.Beside.{no_disk, no_group, no_plex_of, no_snap, plex_there, sub_place}
use Rattle.vx_new_volume_laws.proofs.Counting.{count_all, count_each, had_here, one_vol}

vol_weaker : (p q : Vol → Bool) → ((v : Vol) → p v ≡ true → q v ≡ true) → (o : Object) → is_vol p o ≡ true → is_vol q o ≡ true
vol_weaker p q w (VolRecord v) h = w v h
vol_weaker p q w o h = absurd (false≢true h)

shapes_more : (xs ys : List Object) (s : Snap) → shapes_are_equal xs s ≡ true → shapes_are_equal (xs ++ ys) s ≡ true
shapes_more xs ys s h =
    any_more (λ o. is_vol (λ v. bytes_eq v.name s.vol && has_shape (xs ++ ys) s.of v.len v.region) o) xs ys
    (any_weaker (λ o. is_vol (λ v. bytes_eq v.name s.vol && has_shape xs s.of v.len v.region) o) (λ o. is_vol (λ v. bytes_eq v.name s.vol && has_shape (xs ++ ys) s.of v.len v.region) o) xs
    (vol_weaker (λ v. bytes_eq v.name s.vol && has_shape xs s.of v.len v.region) (λ v. bytes_eq v.name s.vol && has_shape (xs ++ ys) s.of v.len v.region) (λ v k.
    let parts = and_parts (bytes_eq v.name s.vol) (has_shape xs s.of v.len v.region) k in
    and_from (bytes_eq v.name s.vol) (has_shape (xs ++ ys) s.of v.len v.region) parts.0 (any_more (λ o. is_vol (λ w. bytes_eq w.name s.of && w.len == v.len && w.region == v.region) o) xs ys parts.1))) h)

shape_more : (xs ys : List Object) (o : Object) → shape_fault xs o ≡ None → shape_fault (xs ++ ys) o ≡ None
shape_more xs ys (SnapRecord s) e = unless_kept (shapes_are_equal xs s) (shapes_are_equal (xs ++ ys) s) (Limit limit.Region) (shapes_more xs ys s) e
shape_more xs ys o e = refl

module _ (started : Bool) (g : Group) (n : NewVolume) (added : List Object) (c : IsCase started g n added) where
  abbrev group : List Object
  group = objects_of g.config

  abbrev all : List Object
  all = objects_of g.config ++ added

  -- the rule holds of all records
  abbrev pub Holds : Rule → Type 0
  Holds r = fault_by r (objects_of g.config ++ added) (objects_of g.config ++ added) ≡ None

  -- ---- relations, the group and its disks

  alone_same : (s : Snap) → relation_is_alone all s ≡ relation_is_alone group s
  alone_same s =
      let count = count_same (λ o. is_snap (λ t. bytes_eq t.vol s.vol) o) group added (no_snap started g n added c (λ t. bytes_eq t.vol s.vol)) in
      let any = any_same (λ o. is_snap (λ t. bytes_eq t.vol s.of) o) group added (no_snap started g n added c (λ t. bytes_eq t.vol s.of)) in
      λ i. count i == 1 && not (any i)

  relation_own : (o : Object) → relation_fault group o ≡ None → relation_fault all o ≡ None
  relation_own (SnapRecord s) e = unless_kept (relation_is_alone group s) (relation_is_alone all s) (InUse s.vol) (λ h. alone_same s ∙ h) e
  relation_own o e = refl

  -- of each record of a kind that a fault passes over
  pub each_plain : {A : Type 0} (check : Object → Option A) → check (VolRecord (vol_of n c.made.dco)) ≡ None → check (DcoRecord (record { name = c.made.dco; vol = n.vol; maps = 32 })) ≡ None
      → ((p : Plex) → check (PlexRecord p) ≡ None) → ((s : Subdisk) → check (SubdiskRecord s) ≡ None) → (o : Object) → IsIn added o → check o ≡ None
  each_plain check vol dco plex sub =
      of_each (λ o. check o ≡ None) n group c.plan added c.made vol (λ logs. dco) (λ k name lt there. plex (data_plex n k name)) (λ name there. plex _)
      (λ o there. let r = sub_place started g n added c o there in ap check r.3 ∙ sub _)

  pub relations_hold : Holds rule.RelationsAreAlone
  unfolding fault_in fault_over
  relations_hold =
      rule_holds rule.RelationsAreAlone group added refl (λ o there. relation_own o (holds_in group (config_valid g.config) rule.RelationsAreAlone o there))
      (each_plain (relation_fault all) refl refl (λ p. refl) (λ s. refl))

  one_same : has_one_group all ≡ has_one_group group
  one_same =
      let count = count_same (λ o. is_group (λ x. true) o) group added (no_group started g n added c (λ x. true)) in
      let any = any_same (λ o. is_group (λ x. x.version == 1) o) group added (no_group started g n added c (λ x. x.version == 1)) in
      λ i. count i == 1 && any i

  pub group_holds_still : Holds rule.OneGroup
  unfolding fault_in fault_over
  group_holds_still =
      rule_holds rule.OneGroup group added (unless_true (has_one_group all) (Limit limit.Group) (one_same ∙ group_holds group (holds_over group (config_valid g.config) rule.OneGroup))) (λ o there. refl) (λ o there. refl)

  slot_same : (o : Object) → IsIn group o → slot_is_own all o ≡ true
  slot_same (DiskRecord d) there =
      let count = count_same (λ o. is_disk (λ e. e.slot == d.slot) o) group added (no_disk started g n added c (λ e. e.slot == d.slot)) in
      (λ i. nat_lt d.slot 32 && nat_le (count i) 1) ∙ slot_own group (DiskRecord d) (config_valid g.config) there
  slot_same o there = refl

  pub slots_hold : Holds rule.SlotsDiffer
  unfolding fault_in fault_over
  slots_hold =
      rule_holds rule.SlotsDiffer group added refl (λ o there. unless_true (slot_is_own all o) (Limit limit.Disks) (slot_same o there))
      (each_plain (λ o. unless (slot_is_own all o) (Limit limit.Disks)) refl refl (λ p. refl) (λ s. refl))

  -- ---- volumes

  few : volumes_are_few all ≡ true
  few =
      let sum = count_both (λ o. is_vol (λ v. true) o) group added in
      let one = one_vol started g n added c in
      let room = ltb-true (count_by (λ o. is_vol (λ v. true) o) group) 64 c.passed.room in
      le-leb (count_by (λ o. is_vol (λ v. true) o) all) 64 (omega (arith, sum, one, room))

  pub volumes_hold : Holds rule.VolumesAreFew
  unfolding fault_in fault_over
  volumes_hold = rule_holds rule.VolumesAreFew group added (unless_true (volumes_are_few all) (Limit limit.Volumes) few) (λ o there. refl) (λ o there. refl)

  pub short_hold : Holds rule.NamesAreShort
  unfolding fault_in fault_over
  short_hold =
      rule_holds rule.NamesAreShort group added refl (holds_in group (config_valid g.config) rule.NamesAreShort)
      (each_plain (fault_in rule.NamesAreShort all) (unless_true _ (Limit limit.Name) c.passed.short) refl (λ p. refl) (λ s. refl))

  pub regions_hold : Holds rule.RegionSizesAreGood
  unfolding fault_in fault_over
  regions_hold =
      rule_holds rule.RegionSizesAreGood group added refl (holds_in group (config_valid g.config) rule.RegionSizesAreGood)
      (each_plain (fault_in rule.RegionSizesAreGood all) (unless_true _ (Limit limit.Region) c.passed.region) refl (λ p. refl) (λ s. refl))

  pub geometry_hold : Holds rule.RegionsAreGood
  unfolding fault_in fault_over
  geometry_hold =
      rule_holds rule.RegionsAreGood group added refl (holds_in group (config_valid g.config) rule.RegionsAreGood)
      (each_plain (fault_in rule.RegionsAreGood all) (unless_true _ (Limit limit.Regions) c.passed.geometry) refl (λ p. refl) (λ s. refl))

  pub shapes_hold : Holds rule.RelatedVolumesHaveOneShape
  unfolding fault_in fault_over
  shapes_hold =
      rule_holds rule.RelatedVolumesHaveOneShape group added refl (λ o there. shape_more group added o (holds_in group (config_valid g.config) rule.RelatedVolumesHaveOneShape o there))
      (each_plain (shape_fault all) refl refl (λ p. refl) (λ s. refl))

  -- ---- plexes

  -- the group's volumes have their plexes, and no more
  plexes_own : (o : Object) → IsIn group o → plexes_are_good group o ≡ true → plexes_are_good all o ≡ true
  plexes_own (VolRecord v) there h =
      let had = had_here g (VolRecord v) there in
      let parts = and_parts (list_any (λ o. is_plex (λ p. is_data_plex_of v.name p) o) group) (nat_le (count_by (λ o. is_plex (λ p. refers p.vol v.name) o) group) 32) h in
      let same = count_same (λ o. is_plex (λ p. refers p.vol v.name) o) group added (no_plex_of started g n added c v.name had (λ p. refers p.vol v.name) (λ p k. k)) in
      and_from (list_any (λ o. is_plex (λ p. is_data_plex_of v.name p) o) all) (nat_le (count_by (λ o. is_plex (λ p. refers p.vol v.name) o) all) 32)
      (any_more (λ o. is_plex (λ p. is_data_plex_of v.name p) o) group added parts.0) ((λ i. nat_le (same i) 32) ∙ parts.1)
  plexes_own o there h = refl

  refers_self : (name : Word) → is_plex (λ p. refers p.vol n.vol) (log_plex n name) ≡ true
  refers_self name = bytes_eq_self n.vol

  -- as many plexes as were asked for, and as many logs
  pub mirrors_are : length c.made.plexes ≡ n.request.mirrors
  mirrors_are = (plexes_found group n c.plan added c.made).count ∙ c.plans.plex_count

  pub logs_are : length c.made.logs ≡ n.request.logs
  logs_are = (logs_found group n c.plan added c.made).count ∙ c.plans.log_count

  pub small_counts : (1 ≤ n.request.ncol) × (n.request.ncol ≤ 16) × (1 ≤ n.request.unit) × (n.request.unit ≤ 2 ^ 40) × (n.request.mirrors ≤ 8) × (n.request.logs ≤ 2)
  small_counts =
      let a = and_parts (nat_le 1 n.request.ncol) (nat_le n.request.ncol 16 && (nat_le 1 n.request.unit && (nat_le n.request.unit (2 ^ 40) && (nat_le n.request.mirrors 8 && nat_le n.request.logs 2)))) c.passed.numbers in
      let b = and_parts (nat_le n.request.ncol 16) (nat_le 1 n.request.unit && (nat_le n.request.unit (2 ^ 40) && (nat_le n.request.mirrors 8 && nat_le n.request.logs 2))) a.1 in
      let d = and_parts (nat_le 1 n.request.unit) (nat_le n.request.unit (2 ^ 40) && (nat_le n.request.mirrors 8 && nat_le n.request.logs 2)) b.1 in
      let e = and_parts (nat_le n.request.unit (2 ^ 40)) (nat_le n.request.mirrors 8 && nat_le n.request.logs 2) d.1 in
      let f = and_parts (nat_le n.request.mirrors 8) (nat_le n.request.logs 2) e.1 in
      (leb-true 1 n.request.ncol a.0, leb-true n.request.ncol 16 b.0, leb-true 1 n.request.unit d.0, leb-true n.request.unit (2 ^ 40) e.0, leb-true n.request.mirrors 8 f.0, leb-true n.request.logs 2 f.1)

  module _ (some : 1 ≤ n.request.mirrors) where
    has_data : list_any (λ o. is_plex (λ p. is_data_plex_of n.vol p) o) all ≡ true
    has_data =
        let mirrors = mirrors_are in
        let w = first_there c.made.plexes (omega (arith, mirrors, some)) in
        let r = plex_there started g n added c w.0 w.1 in
        in_any (λ o. is_plex (λ p. is_data_plex_of n.vol p) o) all (PlexRecord (data_plex n r.0 w.0)) (in_right group added (PlexRecord (data_plex n r.0 w.0)) r.1)
        (and_from (bytes_eq n.vol n.vol) true (bytes_eq_self n.vol) refl)

    few_plexes : count_by (λ o. is_plex (λ p. refers p.vol n.vol) o) all ≤ 32
    few_plexes =
        let same = count_all started g n added c (λ p. refers p.vol n.vol) (λ p h. h) in
        let sum = count_each started g n added c (λ p. refers p.vol n.vol) true true (λ k name. bytes_eq_self n.vol) refers_self in
        let mirrors = mirrors_are in
        let logs = logs_are in
        let small = small_counts in
        let m = small.4 in
        let l = small.5 in
        omega (arith, same, sum, mirrors, logs, m, l)

    plexes_new : plexes_are_good all (VolRecord (vol_of n c.made.dco)) ≡ true
    plexes_new = and_from (list_any (λ o. is_plex (λ p. is_data_plex_of n.vol p) o) all) (nat_le (count_by (λ o. is_plex (λ p. refers p.vol n.vol) o) all) 32) has_data (le-leb (count_by (λ o. is_plex (λ p. refers p.vol n.vol) o) all) 32 few_plexes)

    good_in : (o : Object) → fault_in rule.PlexesAreGood group o ≡ None → plexes_are_good group o ≡ true
    unfolding fault_in
    good_in o e = unless_none (plexes_are_good group o) (Limit limit.Plexes) e

    pub plexes_hold : Holds rule.PlexesAreGood
    unfolding fault_in fault_over
    plexes_hold =
        rule_holds rule.PlexesAreGood group added refl
        (λ o there. unless_true (plexes_are_good all o) (Limit limit.Plexes) (plexes_own o there (good_in o (holds_in group (config_valid g.config) rule.PlexesAreGood o there))))
        (each_plain (λ o. unless (plexes_are_good all o) (Limit limit.Plexes)) (unless_true (plexes_are_good all (VolRecord (vol_of n c.made.dco))) (Limit limit.Plexes) plexes_new) refl (λ p. refl) (λ s. refl))
