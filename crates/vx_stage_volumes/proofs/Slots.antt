-- The slots of good disks have the numbers of their disks' devices.
use Rattle.std.proofs.Common.{◌≡◌, ◌⊎◌, ◌∙◌, inl, inr, ℕ, ◌<◌, ◌==◌, ◌&&◌, ◌||◌, Bool, true, false, cond, List, [], ◌∷◌, map, Some, None, refl, sym, ap, subst}
use Rattle.std.specs.Prelude.{slice_index}
use Rattle.std.proofs.lemmas.Bool.{eqb-true}
use Rattle.vx_base.specs.Named.{Word}
use Rattle.vx_mask.specs.Mask.{has}
use Rattle.vx_piece.specs.Seen.{Seen}
use Rattle.vx_image.proofs.Members.{in_filtered, is_in}
use Rattle.vx_config_parts.specs.declared.disk.Disk.{Disk as Record}
use Rattle.vx_copies.specs.Disks.{DiskSeen, HasSlot, IsReady, disk_seen, good_mask, is_good_slot}
use Rattle.vx_copies.specs.Lists.{AllOf, AnyOf}
use Rattle.vx_copies.specs.declared.disk.Disk.{Disk}
use Rattle.vx_stage_changes.proofs.Owns.{AreDisksOf}
use Rattle.vx_stage_changes.proofs.CommitSlots.{mask_names}
use Rattle.vx_moments.specs.World.{Member}
use Rattle.vx_moments.specs.Owners.{device_at}
use Rattle.vx_group_volumes.specs.Places.{IsSlotOf}
use Rattle.vx_lending.specs.FormLaws.{good_disks}
use Rattle.vx_house.specs.Runs.{IsNumbered, IsOnDisk}
use Rattle.vx_house.specs.View.{member_of}
use Rattle.vx_stage_volumes.specs.Numbers.{AreNumbersOf, IsSpare, number_at}

-- the slot of a record that is kept as good is a good one
pub slot_is_good : (good : ℕ) (rs : List Record) (slot : ℕ) → IsSlotOf (good_disks good rs) slot → has good slot ≡ true
slot_is_good good rs slot (r, there, same) = subst (λ n. has good n ≡ true) same (in_filtered (λ (d : Record). has good d.slot) rs r (is_in (good_disks good rs) r there)).1

-- The disk of a slot is one of these, the member of the slot has its device, and this has the number that is given of the slot.
pub record IsAtSlot (numbers : List ℕ) (hs : List DiskSeen) (members : List Member) (slot : ℕ) : Type 0 where
  pub disk : DiskSeen
  pub there : AnyOf (λ h. h ≡ disk) hs
  pub slot_is : disk.slot ≡ slot
  pub device : device_at members slot ≡ Some disk.device
  pub number : slice_index numbers slot ≡ disk.seen.device

pub on_disk : (numbers : List ℕ) (hs : List DiskSeen) (members : List Member) (slot : ℕ) → IsAtSlot numbers hs members slot → IsOnDisk numbers hs slot
on_disk numbers hs members slot s = record { disk = s.disk; there = s.there; slot_is = s.slot_is; number_is = s.number }

pub is_numbered : (numbers : List ℕ) (hs : List DiskSeen) (members : List Member) (slot : ℕ) → IsAtSlot numbers hs members slot → IsNumbered numbers hs members slot
is_numbered numbers hs members slot s = record { disk = s.disk; there = s.there; device = s.device; number = s.number }

-- so it is with disks that went on, of the same members
pub at_slot_on : (numbers : List ℕ) (hs bs : List DiskSeen) (members members' : List Member) → AreDisksOf hs bs → members' ≡ members → (slot : ℕ) → IsAtSlot numbers hs members slot → IsAtSlot numbers bs members' slot
at_slot_on numbers hs bs members members' on same slot s =
    let k = on s.disk s.there in
    record { disk = k.0; there = k.1; slot_is = k.4 ∙ s.slot_is; device = ap (λ ms. device_at ms slot) same ∙ s.device ∙ ap (λ (n : Word). Some n) (sym k.2); number = s.number ∙ sym k.3 }

pub low_slots : (hs : List DiskSeen) → AllOf IsReady hs → AllOf HasSlot hs
low_slots [] ready = tt
low_slots (h ∷ hs) ready = (ready.0.slot, low_slots hs ready.1)

module _ {P : Type 0} (see : P → Seen) where
  -- a good slot has a disk
  pub some_disk : (ds : List (Disk P)) (slot : ℕ) → is_good_slot slot (map (disk_seen see) ds) ≡ true → number_at see ds slot ≡ None → ⊥
  some_disk [] slot is none = let no : false ≡ true = is in cc
  some_disk (d ∷ ds) slot is none = by (d.slot == slot) is none (some_disk ds slot)
    where
      right : (g b : Bool) → ((g && false) || b) ≡ true → b ≡ true
      right true b e = e
      right false b e = e

      by : (b : Bool) → ((d.good && b) || is_good_slot slot (map (disk_seen see) ds)) ≡ true → cond b (Some (see d.piece).device) (number_at see ds slot) ≡ None → (is_good_slot slot (map (disk_seen see) ds) ≡ true → number_at see ds slot ≡ None → ⊥) → ⊥
      by true is none rest = cc
      by false is none rest = rest (right d.good (is_good_slot slot (map (disk_seen see) ds)) is) none

  -- the disk that has the number of its slot
  pub numbered_at : (numbers : List ℕ) (ds : List (Disk P)) (slot : ℕ) → number_at see ds slot ≡ Some (slice_index numbers slot) → IsAtSlot numbers (map (disk_seen see) ds) (map member_of ds) slot
  numbered_at numbers [] slot is = absurd (let no : None ≡ Some (slice_index numbers slot) = is in cc)
  numbered_at numbers (d ∷ ds) slot is = by (d.slot == slot) refl is (numbered_at numbers ds slot)
    where
      by : (b : Bool) → (d.slot == slot) ≡ b → cond b (Some (see d.piece).device) (number_at see ds slot) ≡ Some (slice_index numbers slot) →
          (number_at see ds slot ≡ Some (slice_index numbers slot) → IsAtSlot numbers (map (disk_seen see) ds) (map member_of ds) slot) → IsAtSlot numbers (map (disk_seen see) (d ∷ ds)) (map member_of (d ∷ ds)) slot
      by true e is rest = record {
        disk = disk_seen see d;
        there = inl refl;
        slot_is = eqb-true d.slot slot e;
        device = ap (λ b. cond b (Some d.device) (device_at (map member_of ds) slot)) e;
        number = (let same : (see d.piece).device ≡ slice_index numbers slot = cc in sym same);
      }
      by false e is rest =
          let r = rest is in
          record { disk = r.disk; there = inr r.there; slot_is = r.slot_is; device = ap (λ b. cond b (Some d.device) (device_at (map member_of ds) slot)) e ∙ r.device; number = r.number }

  -- a good slot is one of the first 32, ..
  low_good : (ds : List (Disk P)) → AllOf HasSlot (map (disk_seen see) ds) → (slot : ℕ) → is_good_slot slot (map (disk_seen see) ds) ≡ true → slot < 32
  low_good [] low slot is = absurd (let no : false ≡ true = is in cc)
  low_good (d ∷ ds) low slot is = by d.good (d.slot == slot) refl is (low_good ds low.1 slot)
    where
      by : (g b : Bool) → (d.slot == slot) ≡ b → ((g && b) || is_good_slot slot (map (disk_seen see) ds)) ≡ true → (is_good_slot slot (map (disk_seen see) ds) ≡ true → slot < 32) → slot < 32
      by true true e is rest = subst (λ n. n < 32) (eqb-true d.slot slot e) low.0
      by true false e is rest = rest is
      by false b e is rest = rest is

  -- .. and has the number of its disk's device
  pub good_numbered : (ds : List (Disk P)) → AllOf HasSlot (map (disk_seen see) ds) → (next : ℕ) (numbers : List ℕ) → AreNumbersOf see ds 32 next numbers →
      (slot : ℕ) → has (good_mask (map (disk_seen see) ds)) slot ≡ true → IsAtSlot numbers (map (disk_seen see) ds) (map member_of ds) slot
  good_numbered ds low next numbers are slot is = by (are.each slot (low_good ds low slot named))
    where
      named : is_good_slot slot (map (disk_seen see) ds) ≡ true
      named = sym (mask_names (map (disk_seen see) ds) low slot) ∙ is

      by : (number_at see ds slot ≡ Some (slice_index numbers slot)) ⊎ IsSpare see ds next slot (slice_index numbers slot) → IsAtSlot numbers (map (disk_seen see) ds) (map member_of ds) slot
      by (inl at) = numbered_at numbers ds slot at
      by (inr spare) = absurd (some_disk ds slot named spare.bare)

  pub slot_numbered : (ds : List (Disk P)) → AllOf IsReady (map (disk_seen see) ds) → (numbers : List ℕ) (next : ℕ) → AreNumbersOf see ds 32 next numbers → (slot : ℕ) → has (good_mask (map (disk_seen see) ds)) slot ≡ true →
      IsNumbered numbers (map (disk_seen see) ds) (map member_of ds) slot
  slot_numbered ds ready numbers next are slot good = is_numbered numbers (map (disk_seen see) ds) (map member_of ds) slot (good_numbered ds (low_slots (map (disk_seen see) ds) ready) next numbers are slot good)
