-- Free extents lie on good disks, and a subdisk on a disk with the name of a good one is in a good slot.
use Rattle.std.proofs.Common.{◌≡◌, ℕ, ◌+◌, ◌<◌, Bool, true, List, [], ◌∷◌, sym, ap, ◌∙◌, subst, inl, inr, arith}
use Rattle.std.specs.Prelude.{◌&&◌, nat_lt, nat_le, not}
use Rattle.std.specs.List.{list_any}
use Rattle.std.specs.Str.{bytes_eq}
use Rattle.std.proofs.lemmas.Bool.{and_from, and_parts, le-leb, lt-ltb, ltb-true}
use Rattle.vx_base.specs.Named.{Word}
use Rattle.vx_base.proofs.NamedLemmas.{bytes_eq_same, bytes_eq_self}
use Rattle.vx_mask.specs.Mask.{has}
use Rattle.vx_config_parts.specs.declared.disk.Disk.{Disk}
use Rattle.vx_config_parts.specs.declared.object.Object.TheVariants.{DiskRecord}
use Rattle.vx_config_parts.specs.declared.subdisk.Subdisk.{Subdisk}
use Rattle.vx_rules.proofs.InOrder.{names_differ}
use Rattle.vx_objects.specs.declared.config.Config.{Config}
use Rattle.vx_objects.specs.Config.{objects_of}
use Rattle.vx_image.specs.Lies.{slot_of}
use Rattle.vx_image.proofs.PlexMembers.{IsIn, any_in, disk_in, in_any, one_named, same_disk}
use Rattle.vx_image.proofs.Plexes.{config_valid, on_disk}
use Rattle.vx_space.specs.declared.extent.Extent.{Extent}
use Rattle.vx_space.specs.Disks.{is_good}
use Rattle.vx_space.specs.Extents.{are_in_order, has_sector, is_listed, next_is_behind}
use Rattle.vx_space.specs.Free.{AreFree, covers, has_public}
use Rattle.vx_group_edits.proofs.Lists.{all_each}
use Rattle.vx_group_edits.proofs.Plans.{extents_lie}

-- one of the disks is good and has the name
abbrev pub good_name : List Disk → ℕ → Word → Bool
good_name disks good name = list_any (λ d. is_good good d && bytes_eq d.name name) disks

-- ---- free extents

filled : (es : List Extent) (e : Extent) → are_in_order es ≡ true → IsIn es e → 0 < e.count
filled [] e order there = absurd there
filled (f ∷ es) e order (inl same) = subst (λ (x : Extent). 0 < x.count) (sym same) (ltb-true 0 f.count (and_parts (nat_lt 0 f.count) (next_is_behind f es && are_in_order es) order).0)
filled (f ∷ es) e order (inr there) = filled es e (and_parts (next_is_behind f es) (are_in_order es) (and_parts (nat_lt 0 f.count) (next_is_behind f es && are_in_order es) order).1).1 there

-- an extent that is not empty has its first sector
has_first : (e : Extent) → 0 < e.count → has_sector e.disk e.start e ≡ true
has_first e some =
    and_from (bytes_eq e.disk e.disk) _ (bytes_eq_self e.disk)
    (and_from (nat_le e.start e.start) _ (le-leb e.start e.start (omega arith)) (lt-ltb e.start (e.start + e.count) (omega (arith, some))))

module _ (c : Config) (good : ℕ) (free : List Extent) (are : AreFree c good free) where
  free_on : (e : Extent) → IsIn free e → good_name c.disks good e.disk ≡ true
  free_on e there =
      let listed : is_listed free e.disk e.start ≡ true = in_any (has_sector e.disk e.start) free e there (has_first e (filled free e are.order there)) in
      let on = and_parts (list_any (λ d. is_good good d && has_public e.disk e.start d) c.disks) (not (list_any (covers e.disk e.start) c.subdisks)) (sym (are.sectors e.disk e.start) ∙ listed) in
      let d = any_in (λ d. is_good good d && has_public e.disk e.start d) c.disks on.0 in
      let parts = and_parts (is_good good d.0) (has_public e.disk e.start d.0) d.2 in
      let named = and_parts (bytes_eq d.0.name e.disk) (nat_lt e.start d.0.publen) parts.1 in
      in_any (λ d. is_good good d && bytes_eq d.name e.disk) c.disks d.0 d.1 (and_from (is_good good d.0) (bytes_eq d.0.name e.disk) parts.0 named.0)

  pub free_lies : extents_lie (good_name c.disks good) free ≡ true
  free_lies = all_each (λ e. good_name c.disks good e.disk) free free_on

-- ---- a subdisk

pub good_slot : (c : Config) (good : ℕ) (s : Subdisk) → IsIn c.subdisks s → good_name c.disks good s.disk ≡ true → has good (slot_of c.disks s.disk) ≡ true
good_slot c good s there named =
    let d = any_in (λ d. is_good good d && bytes_eq d.name s.disk) c.disks named in
    let parts = and_parts (is_good good d.0) (bytes_eq d.0.name s.disk) d.2 in
    let own = on_disk c (config_valid c) s there in
    let record_is = one_named [] (objects_of c) (DiskRecord d.0) (DiskRecord own.disk) (names_differ (objects_of c) (config_valid c)) (disk_in c d.0 d.1) (disk_in c own.disk own.there) (bytes_eq_same d.0.name s.disk parts.1 ∙ sym own.named) in
    subst (λ n. has good n ≡ true) (ap (λ (x : Disk). x.slot) (same_disk d.0 own.disk record_is) ∙ sym own.slot) parts.0
