-- The disks that a joined volume counts as opened on.
use Rattle.std.proofs.Common.{◌≡◌, ◌⊎◌, inl, inr, ℕ, ◌<◌, true, List, [], ◌∷◌, length, refl, sym, subst}
use Rattle.std.specs.Prelude.{nat_le, nat_lt, ◌==◌}
use Rattle.std.specs.List.{All, count_by}
use Rattle.std.proofs.lemmas.Bool.{and_parts, ltb-true}
use Rattle.std.proofs.lemmas.List.Elements.{All-cons, All-nil}
use Rattle.vx_mask.specs.Mask.{has, only}
use Rattle.vx_mask.proofs.MaskLemmas.{has-zero, same_as_only}
use Rattle.vx_mask.proofs.Sets.{union_cases}
use Rattle.vx_mask.proofs.Tests.{not_both}
use Rattle.vx_config_parts.specs.declared.disk.Disk.{Disk}
use Rattle.vx_config_parts.specs.declared.object.Object.TheVariants.{DiskRecord}
use Rattle.vx_config_parts.specs.declared.vol.Vol.{Vol}
use Rattle.vx_config_parts.specs.Objects.{is_disk}
use Rattle.vx_objects.specs.declared.config.Config.{Config}
use Rattle.vx_objects.specs.Config.{objects_of}
use Rattle.vx_image.proofs.PlexMembers.{IsIn, disk_in}
use Rattle.vx_image.proofs.Plexes.{config_valid}
use Rattle.vx_image.proofs.Valid.{slot_own}
use Rattle.vx_image.proofs.Members.{contains, is_in}
use Rattle.vx_lending.specs.FormLaws.{AreNumbered, good_disks}
use Rattle.vx_lending.proofs.Distinct.{filtered}
use Rattle.vx_group_volumes.specs.Places.{IsSlotOf, disks_at}
use Rattle.vx_group_volumes.specs.Runs.{Opening}
use Rattle.vx_joined_volumes.specs.Joined.{good_joined, mask_of_slots, opening_joined}

-- a slot of the mask is that of a disk
slot_from : (ds : List Disk) (slot : ℕ) → has (mask_of_slots ds) slot ≡ true → IsSlotOf ds slot
slot_from ds slot there = let r = by ds slot there in (r.0, contains ds r.0 r.1, r.2)
  where
    by : (ds : List Disk) (slot : ℕ) → has (mask_of_slots ds) slot ≡ true → (d : Disk) × IsIn ds d × (d.slot ≡ slot)
    by [] slot there = not_both there (has-zero slot)
    by (e ∷ ds) slot there = elim (union_cases (only e.slot) (mask_of_slots ds) slot there) [
      | inl here ↦ (e, inl refl, sym (same_as_only e.slot slot here))
      | inr later ↦ let r = by ds slot later in (r.0, inr r.1, r.2)
    ]

-- a slot that the joined volume counts as opened on is one that it was opened on, or a good one
pub opened_on : (o : Opening) (c : Config) (good : ℕ) (v : Vol) (slot : ℕ) → IsSlotOf (disks_at (opening_joined o c good v)) slot → IsSlotOf (disks_at o) slot ⊎ (has good slot ≡ true)
opened_on o c good v slot (d, there, same) =
    let passes = (filtered (λ (x : Disk). has (good_joined o good) x.slot) c.disks d (is_in (good_disks (good_joined o good) c.disks) d there)).1 in
    elim (union_cases (mask_of_slots (disks_at o)) good slot (subst (λ n. has (good_joined o good) n ≡ true) same passes)) [
      | inl then ↦ inl (slot_from (disks_at o) slot then)
      | inr now ↦ inr now
    ]

-- ---- slots have numbers

slot_low : (c : Config) (d : Disk) → IsIn c.disks d → d.slot < 32
slot_low c d there =
    ltb-true d.slot 32 (and_parts (nat_lt d.slot 32) (nat_le (count_by (λ o. is_disk (λ e. e.slot == d.slot) o) (objects_of c)) 1) (slot_own (objects_of c) (DiskRecord d) (config_valid c) (disk_in c d there))).0

all_of : {X : Type 0} (Q : X → Type 0) (xs : List X) → ((x : X) → IsIn xs x → Q x) → All Q xs
all_of Q [] each = All-nil Q
all_of Q (x ∷ xs) each = All-cons Q x xs (each x (inl refl)) (all_of Q xs (λ y there. each y (inr there)))

-- 32 numbers are enough for whatever good disks
pub all_numbered : (numbers : List ℕ) → length numbers ≡ 32 → (c : Config) (good : ℕ) → AreNumbered numbers good c.disks
all_numbered numbers long c good = all_of (λ (d : Disk). d.slot < length numbers) (good_disks good c.disks) (λ d there. subst (λ n. d.slot < n) (sym long) (slot_low c d (filtered (λ (x : Disk). has good x.slot) c.disks d there).0))
