-- Disks of a configuration that are those of a group.
use Rattle.std.proofs.Common.{◌≡◌, ◌≢◌, inl, inr, ℕ, zero, suc, ◌-◌, ◌<◌, ◌==◌, ◌&&◌, true, false, List, [], ◌∷◌, map, get_or, length, refl, sym, arith}
use Rattle.std.specs.Prelude.{nat_le, nat_lt, slice_index}
use Rattle.std.specs.List.{All, list_any, list_all}
use Rattle.std.proofs.lemmas.Bool.{and_parts, or_cases, false≢true}
use Rattle.std.proofs.lemmas.Bool.Decides.{nat_tests}
use Rattle.std.proofs.lemmas.List.Elements.{All-nil, All-cons, All-filter}
use Rattle.vx_carve.specs.Carved.{HaveNumbers}
use Rattle.vx_config_parts.specs.declared.disk.Disk.{Disk}
use Rattle.vx_config_parts.specs.declared.vol.Vol.{Vol}
use Rattle.vx_config_parts.specs.declared.object.Object.TheVariants.{DiskRecord, SubdiskRecord, PlexRecord, VolRecord}
use Rattle.vx_copies.specs.declared.disk.Disk as copies
use Rattle.vx_copies.specs.Disks.{DiskSeen, disk_seen}
use Rattle.vx_copies.specs.Lists.{AnyOf}
use Rattle.vx_mask.specs.Mask.{has}
use Rattle.vx_objects.specs.declared.config.Config.{Config}
use Rattle.vx_objects.specs.Config.{objects_of}
use Rattle.vx_piece.specs.MemPiece.{mem_seen}
use Rattle.vx_piece.specs.declared.mem_piece.MemPiece.{MemPiece}
use Rattle.vx_image.proofs.PlexMembers.{in_at, in_left, in_map, in_one, in_right}
use Rattle.vx_image.specs.UsedPlexes.{IsVolOf}
use Rattle.vx_group_start.specs.GroupDisks.{AreGroupDisks, IsDiskOn}
use Rattle.vx_volume_rows.specs.Matching.{is_disk_on}

-- each volume of a configuration is one of its records
pub vol_is_of : (c : Config) (i : ℕ) (v d : Vol) → i < length c.volumes → v ≡ get_or c.volumes i d → IsVolOf c v
vol_is_of c i v d lt e =
    in_one (objects_of c) (VolRecord v)
    (inr (in_right (map DiskRecord c.disks) _ (VolRecord v) (in_right (map SubdiskRecord c.subdisks) _ (VolRecord v) (in_right (map PlexRecord c.plexes) _ (VolRecord v) (in_left (map VolRecord c.volumes) _ (VolRecord v) (in_map VolRecord c.volumes v (in_at c.volumes i v d lt e)))))))

pub some_if : (n : ℕ) → false ≡ (n == 0) → 0 < n
some_if zero is = absurd (cc)
some_if (suc n) is = omega arith

-- two numbers that differ
pub two_differ : (ns : List ℕ) → length ns ≡ 2 → slice_index ns 0 ≢ slice_index ns 1 → HaveNumbers ns
two_differ ns two differ zero zero a b e = refl
two_differ ns two differ zero (suc zero) a b e = absurd (differ e)
two_differ ns two differ zero (suc (suc j)) a b e = absurd (omega (arith, two, b))
two_differ ns two differ (suc zero) zero a b e = absurd (differ (sym e))
two_differ ns two differ (suc zero) (suc zero) a b e = refl
two_differ ns two differ (suc zero) (suc (suc j)) a b e = absurd (omega (arith, two, b))
two_differ ns two differ (suc (suc i)) j a b e = absurd (omega (arith, two, a))

is_on : (numbers : List ℕ) (d : Disk) (h : DiskSeen) → is_disk_on numbers d h ≡ true → IsDiskOn numbers d h
is_on numbers d h is =
    let last = and_parts (nat_lt d.slot (length numbers) && slice_index numbers d.slot == h.seen.device && nat_le 2048 h.sectors) (nat_le d.publen (h.sectors - 2048)) is in
    let more = and_parts (nat_lt d.slot (length numbers) && slice_index numbers d.slot == h.seen.device) (nat_le 2048 h.sectors) last.0 in
    let first = and_parts (nat_lt d.slot (length numbers)) (slice_index numbers d.slot == h.seen.device) more.0 in
    let slot = first.0 in
    let number = first.1 in
    let long = more.1 in
    let fits = last.1 in
    record {
      slot = grind (arith, nat_tests, slot);
      number = grind (arith, nat_tests, number);
      room = grind (arith, nat_tests, long, fits);
    }

any_on : (numbers : List ℕ) (d : Disk) (hs : List (copies.Disk MemPiece)) → list_any (λ h. is_disk_on numbers d (disk_seen mem_seen h)) hs ≡ true → AnyOf (IsDiskOn numbers d) (map (disk_seen mem_seen) hs)
any_on numbers d [] is = absurd (false≢true is)
any_on numbers d (h ∷ hs) is =
    elim (or_cases (is_disk_on numbers d (disk_seen mem_seen h)) (list_any (λ h. is_disk_on numbers d (disk_seen mem_seen h)) hs) is) [
      | inl here ↦ inl (is_on numbers d (disk_seen mem_seen h) here)
      | inr there ↦ inr (any_on numbers d hs there)
    ]

all_on : (numbers : List ℕ) (ds : List Disk) (hs : List (copies.Disk MemPiece)) → list_all (λ d. list_any (λ h. is_disk_on numbers d (disk_seen mem_seen h)) hs) ds ≡ true → All (λ (d : Disk). AnyOf (IsDiskOn numbers d) (map (disk_seen mem_seen) hs)) ds
all_on numbers [] hs all = All-nil (λ (d : Disk). AnyOf (IsDiskOn numbers d) (map (disk_seen mem_seen) hs))
all_on numbers (d ∷ ds) hs all =
    let parts = and_parts (list_any (λ h. is_disk_on numbers d (disk_seen mem_seen h)) hs) (list_all (λ d. list_any (λ h. is_disk_on numbers d (disk_seen mem_seen h)) hs) ds) all in
    All-cons (λ (d : Disk). AnyOf (IsDiskOn numbers d) (map (disk_seen mem_seen) hs)) d ds (any_on numbers d hs parts.0) (all_on numbers ds hs parts.1)

pub are_disks : (numbers : List ℕ) (ds : List Disk) (hs : List (copies.Disk MemPiece)) → list_all (λ d. list_any (λ h. is_disk_on numbers d (disk_seen mem_seen h)) hs) ds ≡ true → (good : ℕ) → AreGroupDisks numbers (map (disk_seen mem_seen) hs) good ds
are_disks numbers ds hs all good = All-filter (λ (d : Disk). has good d.slot) (λ (d : Disk). AnyOf (IsDiskOn numbers d) (map (disk_seen mem_seen) hs)) ds (all_on numbers ds hs all)
