-- A test of all in a list, and of what they become.
use Rattle.std.proofs.Common.{◌≡◌, ◌∙◌, ◌&&◌, ◌+◌, ◌≤◌, ℕ, suc, Bool, true, false, Some, None, take, not, List, [], ◌∷◌, ◌++◌, length, map, refl, ap, sym, arith}
use Rattle.std.specs.Prelude.{if◌then◌else◌, nat_lt}
use Rattle.std.specs.List.{list_all}
use Rattle.std.proofs.lemmas.Bool.{ltb-false}
use Rattle.vx_header.specs.Sectors.{is_short_name}
use Rattle.vx_script_words.specs.declared.value.DiskAt.{DiskAt}
use Rattle.vx_config_parts.specs.declared.object.Object.TheVariants.{DiskRecord, GroupRecord}
use Rattle.vx_config_parts.specs.declared.object.Object.{Object}
use Rattle.vx_config_parts.specs.declared.disk.Disk.{Disk}
use Rattle.vx_config_parts.specs.declared.fault.Limit.TheVariants as limit
use Rattle.vx_base.specs.Named.{Word}
use Rattle.vx_answers.specs.declared.refusal.Refusal.TheVariants as refusal
use Rattle.vx_stages.specs.Tests.{fails, unless}
use Rattle.vx_stages.specs.declared.test.Test.TheVariants.{GroupLimits}
use Rattle.vx_moments.specs.World.{World}
use Rattle.vx_stages.specs.Records.{names_of, devices_of, is_disk_size, sectors_at, are_disk_sized, disk_record, disk_records, new_records}

all_mapped : {X Y : Type 0} (test : Y → Bool) (f : X → Y) (xs : List X) → list_all (λ x. test (f x)) xs ≡ list_all test (map f xs)
all_mapped test f [] = refl
all_mapped test f (x ∷ xs) = ap (λ b. test (f x) && b) (all_mapped test f xs)

pub short_names : (ds : List DiskAt) → list_all is_short_name (names_of ds) ≡ list_all (λ p. is_short_name p.disk) ds
short_names ds = sym (all_mapped is_short_name (λ (p : DiskAt). p.disk) ds)

pub sized_devices : (w : World) (ds : List DiskAt) → are_disk_sized w (devices_of ds) ≡ list_all (λ p. is_disk_size (sectors_at w p.device)) ds
sized_devices w ds = sym (all_mapped (λ name. is_disk_size (sectors_at w name)) (λ (p : DiskAt). p.device) ds)

-- the records of disks, with one more
pub records_more : (w : World) (slot : ℕ) (xs : List DiskAt) (p : DiskAt) → disk_records slot w (xs ++ p ∷ []) ≡ disk_records slot w xs ++ DiskRecord (disk_record p (slot + length xs) (sectors_at w p.device)) ∷ []
records_more w slot [] p = ap (λ n. DiskRecord (disk_record p n (sectors_at w p.device)) ∷ []) (let e : slot ≡ slot + 0 = omega arith in e)
records_more w slot (x ∷ xs) p =
    ap (λ os. DiskRecord (disk_record x slot (sectors_at w x.device)) ∷ os) (records_more w (slot + 1) xs p
    ∙ ap (λ n. disk_records (slot + 1) w xs ++ DiskRecord (disk_record p n (sectors_at w p.device)) ∷ []) (let e : slot + 1 + length xs ≡ slot + suc (length xs) = omega arith in e))

-- one more record
pub records_next : (dg : Word) (w : World) (disks : List DiskAt) (i : ℕ) (p : DiskAt) (os : List Object) (r : Disk) → take (i + 1) disks ≡ take i disks ++ p ∷ [] → length (take i disks) ≡ i → os ≡ new_records dg w (take i disks) → r ≡ disk_record p i (sectors_at w p.device) → os ++ DiskRecord r ∷ [] ≡ new_records dg w (take (i + 1) disks)
records_next dg w disks i p os r more long so_far is =
    ap (λ xs. xs ++ DiskRecord r ∷ []) so_far
    ∙ ap (λ x. new_records dg w (take i disks) ++ DiskRecord x ∷ []) (is ∙ ap (λ n. disk_record p n (sectors_at w p.device)) (let e : i ≡ 0 + length (take i disks) = omega (arith, long) in e))
    ∙ ap (λ xs. GroupRecord (record { name = dg; version = 1 }) ∷ xs) (sym (records_more w 0 (take i disks) p))
    ∙ ap (λ ds. new_records dg w ds) (sym more)

-- a group within its limits has few disks
pub few_disks : (dg : Word) (disks : List DiskAt) (w : World) → fails (GroupLimits dg) disks w ≡ None → length disks ≤ 32
unfolding fails
few_disks dg disks w is = by (are_disk_sized w (devices_of disks)) (nat_lt 32 (length disks)) refl (list_all is_short_name (dg ∷ names_of disks)) is
  where
    by : (sized many : Bool) → nat_lt 32 (length disks) ≡ many → (short : Bool) → (if not sized then Some refusal.DeviceLimit else (if many then Some (refusal.Limit limit.Disks) else unless short (refusal.Limit limit.Name))) ≡ None → length disks ≤ 32
    by false many e short is = cc
    by true true e short is = cc
    by true false e short is = ltb-false 32 (length disks) e
