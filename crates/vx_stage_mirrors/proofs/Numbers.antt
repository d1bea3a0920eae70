-- The numbers of a group's slots are those of its disks' devices.
use Rattle.std.proofs.Common.{◌≡◌, ◌≢◌, ◌⊎◌, ◌∙◌, inl, inr, ℕ, ◌<◌, ◌==◌, Bool, true, false, cond, List, [], ◌∷◌, map, Option, Some, None, refl, sym, ap, subst}
use Rattle.std.specs.Prelude.{slice_index}
use Rattle.std.proofs.lemmas.Bool.{eq-eqb, eqb-true, false_from_ne_true}
use Rattle.vx_base.specs.Named.{Word}
use Rattle.vx_mask.specs.Mask.{has}
use Rattle.vx_piece.specs.Seen.{Seen}
use Rattle.vx_copies.specs.Disks.{DiskSeen, HasSlot, disk_seen, good_mask}
use Rattle.vx_copies.specs.Lists.{AllOf, AnyOf}
use Rattle.vx_copies.specs.declared.disk.Disk.{Disk}
use Rattle.vx_moments.specs.Owners.{device_at}
use Rattle.vx_moments.specs.World.{Group, Member}
use Rattle.vx_house.specs.Runs.{IsNumbered}
use Rattle.vx_house.specs.View.{HaveSlots, member_of}
use Rattle.vx_stage_volumes.specs.Numbers.{AreNumbersOf, IsSpare, number_at}
use Rattle.vx_stage_volumes.proofs.Slots.{good_numbered, is_numbered, on_disk}
use Rattle.vx_stage_mirrors.specs.Joins.{AreNumbersIn, AreNumbersOn, AreOfSlots}

some_is : (a b : ℕ) → Some a ≡ Some b → a ≡ b
some_is a b e = cc

-- each device name has one number among these disks
abbrev pub AreNamedOnce : (Word → Option ℕ) → List DiskSeen → Type 0
AreNamedOnce number hs = AllOf (λ h. number h.device ≡ Some h.seen.device) hs

module _ {P : Type 0} (see : P → Seen) where
  -- a disk whose slot no other has is the first in it
  first_in : (ds : List (Disk P)) → HaveSlots ds → (h : DiskSeen) → AnyOf (λ x. x ≡ h) (map (disk_seen see) ds) → number_at see ds h.slot ≡ Some h.seen.device
  first_in [] slots h any = absurd any
  first_in (d ∷ ds) slots h (inl is) =
      subst (λ (x : DiskSeen). cond (d.slot == x.slot) (Some (see d.piece).device) (number_at see ds x.slot) ≡ Some x.seen.device) is
      (ap (λ b. cond b (Some (see d.piece).device) (number_at see ds d.slot)) (eq-eqb d.slot d.slot refl))
  first_in (d ∷ ds) slots h (inr more) =
      ap (λ b. cond b (Some (see d.piece).device) (number_at see ds h.slot)) (other ds slots.0 more) ∙ first_in ds slots.1 h more
    where
      other : (es : List (Disk P)) → AllOf (λ e. e.slot ≢ d.slot) es → AnyOf (λ x. x ≡ h) (map (disk_seen see) es) → (d.slot == h.slot) ≡ false
      other [] all any = absurd any
      other (e ∷ es) all (inl is) = false_from_ne_true _ (λ same. all.0 (ap (λ (x : DiskSeen). x.slot) is ∙ sym (eqb-true d.slot h.slot same)))
      other (e ∷ es) all (inr any) = other es all.1 any

  low_of : (ds : List (Disk P)) → AllOf HasSlot (map (disk_seen see) ds) → (h : DiskSeen) → AnyOf (λ x. x ≡ h) (map (disk_seen see) ds) → h.slot < 32
  low_of [] low h any = absurd any
  low_of (d ∷ ds) low h (inl is) = subst (λ (x : DiskSeen). x.slot < 32) is low.0
  low_of (d ∷ ds) low h (inr any) = low_of ds low.1 h any

  -- the device of a slot is named by the number of the slot
  named_at : (number : Word → Option ℕ) (ds : List (Disk P)) → AllOf HasSlot (map (disk_seen see) ds) → AreNamedOnce number (map (disk_seen see) ds) → (slot : ℕ) (device : Word) → device_at (map member_of ds) slot ≡ Some device →
      (slot < 32) × (number_at see ds slot ≡ number device)
  named_at number [] low named slot device is = absurd (let no : None ≡ Some device = is in cc)
  named_at number (d ∷ ds) low named slot device is = by (d.slot == slot) refl is (named_at number ds low.1 named.1 slot device)
    where
      by : (b : Bool) → (d.slot == slot) ≡ b → cond b (Some d.device) (device_at (map member_of ds) slot) ≡ Some device → (device_at (map member_of ds) slot ≡ Some device → (slot < 32) × (number_at see ds slot ≡ number device)) →
          (slot < 32) × (cond (d.slot == slot) (Some (see d.piece).device) (number_at see ds slot) ≡ number device)
      by true e is rest =
          let same : d.device ≡ device = cc in
          (subst (λ n. n < 32) (eqb-true d.slot slot e) low.0, ap (λ b. cond b (Some (see d.piece).device) (number_at see ds slot)) e ∙ sym named.0 ∙ ap number same)
      by false e is rest = let r = rest is in (r.0, ap (λ b. cond b (Some (see d.piece).device) (number_at see ds slot)) e ∙ r.1)

  module _ (ds : List (Disk P)) (low : AllOf HasSlot (map (disk_seen see) ds)) (next : ℕ) (numbers : List ℕ) (are : AreNumbersOf see ds 32 next numbers) where
    slots : AreOfSlots numbers
    slots = record { long = are.long; own = are.own }

    -- a slot that has a number of a disk has that
    is_its : (slot number : ℕ) → slot < 32 → number_at see ds slot ≡ Some number → slice_index numbers slot ≡ number
    is_its slot number lt at = by (are.each slot lt)
      where
        by : (number_at see ds slot ≡ Some (slice_index numbers slot)) ⊎ IsSpare see ds next slot (slice_index numbers slot) → slice_index numbers slot ≡ number
        by (inl is) = some_is _ _ (sym is ∙ at)
        by (inr spare) = absurd (let none : None ≡ Some number = sym spare.bare ∙ at in cc)

    pub numbers_on : HaveSlots ds → AreNumbersOn numbers (map (disk_seen see) ds) (good_mask (map (disk_seen see) ds))
    numbers_on apart = record {
      slots = slots;
      each = λ h there. is_its h.slot h.seen.device (low_of ds low h there) (first_in ds apart h there);
      some = λ slot here. on_disk numbers (map (disk_seen see) ds) (map member_of ds) slot (good_numbered see ds low next numbers are slot here);
    }

    pub numbers_in : (number : Word → Option ℕ) → AreNamedOnce number (map (disk_seen see) ds) → (g : Group) → g.members ≡ map member_of ds → g.good ≡ good_mask (map (disk_seen see) ds) → AreNumbersIn numbers (map (disk_seen see) ds) g
    numbers_in number named g members good = record {
      slots = slots;
      each = λ slot h there device.
          let r = named_at number ds low named slot h.device (ap (λ ms. device_at ms slot) (sym members) ∙ device) in
          is_its slot h.seen.device r.0 (r.1 ∙ one (map (disk_seen see) ds) named h there);
      some = λ slot here. subst (λ ms. IsNumberedAt ms slot) (sym members)
          (is_numbered numbers (map (disk_seen see) ds) (map member_of ds) slot (good_numbered see ds low next numbers are slot (subst (λ n. has n slot ≡ true) good here)));
    }
      where
        IsNumberedAt : List Member → ℕ → Type 0
        IsNumberedAt ms slot = IsNumbered numbers (map (disk_seen see) ds) ms slot

        one : (hs : List DiskSeen) → AreNamedOnce number hs → (h : DiskSeen) → AnyOf (λ x. x ≡ h) hs → number h.device ≡ Some h.seen.device
        one [] all h any = absurd any
        one (x ∷ hs) all h (inl is) = subst (λ (y : DiskSeen). number y.device ≡ Some y.seen.device) is all.0
        one (x ∷ hs) all h (inr any) = one hs all.1 h any
