-- The subdisks of a valid configuration, in any order.
use Rattle.std.proofs.Common.{◌≡◌, ℕ, suc, ◌+◌, ◌<◌, ◌≤◌, ◌^◌, nat_le, nat_lt, Bool, true, false, cond, not, List, [], ◌∷◌, length, get_or, refl, sym, ap, ◌∙◌, arith, ◌&&◌}
use Rattle.std.specs.List.{list_all}
use Rattle.std.specs.List.Sorted.{IsPermutation, IsNonDecreasingBy}
use Rattle.std.specs.Str.{bytes_eq}
use Rattle.std.proofs.lemmas.Bool.{and_from, le-leb, lt-ltb}
use Rattle.std.proofs.lemmas.List.Sorted.{list_any-IsPermutation}
use Rattle.vx_base.proofs.NamedLemmas.{bytes_eq_same}
use Rattle.vx_config_parts.specs.declared.disk.Disk.{Disk}
use Rattle.vx_config_parts.specs.declared.subdisk.Subdisk.{Subdisk}
use Rattle.vx_config_parts.specs.declared.object.Object.TheVariants.{DiskRecord}
use Rattle.vx_rules.proofs.ListTests.{all_is_none}
use Rattle.vx_rules.proofs.InOrder.{names_differ}
use Rattle.vx_objects.specs.declared.config.Config.{Config}
use Rattle.vx_objects.specs.Config.{objects_of}
use Rattle.vx_image.proofs.PlexMembers.{IsIn, one_named, disk_in, same_disk}
use Rattle.vx_image.proofs.Apart.{all_from}
use Rattle.vx_image.proofs.Plexes.{IsValid, filled, on_disk, disk_short}
use Rattle.vx_space.specs.Gaps.{ends_in}
use Rattle.vx_space.proofs.Runs.{fits, ascend}

pub all_moved : {A : Type 0} (p : A → Bool) (xs ys : List A) → IsPermutation xs ys → list_all p xs ≡ true → list_all p ys ≡ true
all_moved p xs ys same h = all_is_none p ys ∙ ap not (sym (list_any-IsPermutation (λ x. not (p x)) xs ys same)) ∙ sym (all_is_none p xs) ∙ h

pub ends : (c : Config) → IsValid c → list_all ends_in c.subdisks ≡ true
ends c v = all_from ends_in c.subdisks (λ s h.
    let d = on_disk c v s h in
    let room = d.room in
    let short = disk_short c v d.disk d.there in
    lt-ltb (s.off + s.len) (2 ^ 64) (omega (arith, room, short)))

fits_one : (c : Config) → IsValid c → (d : Disk) → IsIn c.disks d → (s : Subdisk) → IsIn c.subdisks s → fits d s ≡ true
fits_one c v d h s k = by (bytes_eq s.disk d.name) refl where
  by : (b : Bool) → bytes_eq s.disk d.name ≡ b → cond b (nat_lt 0 s.len && nat_le (s.off + s.len) d.publen) true ≡ true
  by false e = refl
  by true e =
      let r = on_disk c v s k in
      let same = same_disk r.disk d (one_named [] (objects_of c) (DiskRecord r.disk) (DiskRecord d) (names_differ (objects_of c) v) (disk_in c r.disk r.there) (disk_in c d h) (r.named ∙ bytes_eq_same s.disk d.name e)) in
      let room = r.room in
      let long = ap (λ (x : Disk). x.publen) same in
      and_from _ _ (lt-ltb 0 s.len (filled c v s k)) (le-leb (s.off + s.len) d.publen (omega (arith, room, long)))

-- on each disk
pub fit : (c : Config) → IsValid c → (sorted : List Subdisk) → IsPermutation c.subdisks sorted → list_all (λ d. list_all (fits d) sorted) c.disks ≡ true
fit c v sorted same = all_from (λ d. list_all (fits d) sorted) c.disks (λ d h. all_moved (fits d) c.subdisks sorted same (all_from (fits d) c.subdisks (λ s k. fits_one c v d h s k)))

pub short : (c : Config) → IsValid c → list_all (λ d. nat_lt d.publen (2 ^ 40)) c.disks ≡ true
short c v = all_from (λ d. nat_lt d.publen (2 ^ 40)) c.disks (λ d h. lt-ltb d.publen (2 ^ 40) (disk_short c v d h))

first_least : (n : ℕ) (ss : List Subdisk) → ((k : ℕ) (d : Subdisk) → k < length ss → n ≤ (get_or ss k d).off) → list_all (λ t. nat_le n t.off) ss ≡ true
first_least n [] h = refl
first_least n (s ∷ ss) h = and_from _ _ (le-leb n s.off (h 0 s (omega arith))) (first_least n ss (λ k d lt. h (suc k) d (omega (arith, lt))))

pub ascends : (ss : List Subdisk) → IsNonDecreasingBy (λ (s : Subdisk). s.off) ss → ascend ss ≡ true
ascends [] h = refl
ascends (s ∷ ss) h =
    and_from _ _ (first_least s.off ss (λ k d lt. h 0 (suc k) d (omega arith) (omega (arith, lt)))) (ascends ss (λ i j d le lt. h (suc i) (suc j) d (omega (arith, le)) (omega (arith, lt))))
