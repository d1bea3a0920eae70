-- The mask of the disks that are made of the devices whose slot is good.
use Rattle.std.proofs.Common.{◌≡◌, ◌∙◌, ◌==◌, ◌&&◌, ◌||◌, ◌<◌, ◌≤◌, ◌^◌, ℕ, Bool, true, false, cond, nat_lt, List, [], ◌∷◌, refl, sym, ap, arith}
use Rattle.std.specs.Int.{bit_at}
use Rattle.std.proofs.lemmas.Bool.{eqb-true, eqb-false, ltb-true, ltb-false}
use Rattle.std.proofs.lemmas.Nat.Bits.{same_from_bits, bit_at-lt, bit_at_above}
use Rattle.vx_mask.specs.Mask.{has}
use Rattle.vx_copies.specs.Disks.{HasSlot, is_good_slot, good_mask}
use Rattle.vx_copies.specs.Lists.{AllOf}
use Rattle.vx_import.specs.Looks.{Looked}
use Rattle.vx_import.specs.Naming.{is_readable_slot, AllThere}
use Rattle.vx_stage_import.specs.Giving.{good_looks, disks_in}
use Rattle.vx_stage_changes.proofs.CommitSlots.{mask_names}

-- the masks of those whose slot is good
good_there : (good : ℕ) (slot : ℕ) (fs : List Looked) → has good slot ≡ true → is_readable_slot slot fs ≡ true → is_good_slot slot (disks_in (good_looks good fs)) ≡ true
good_there good slot [] named there = cc
good_there good slot (f ∷ fs) named there = by (f.label.slot == slot) refl f.readable (has good f.label.slot) refl there (good_there good slot fs named)
  where
    same_has : f.label.slot ≡ slot → has good f.label.slot ≡ true
    same_has e = ap (has good) e ∙ named

    by : (b : Bool) → (f.label.slot == slot) ≡ b → (r g : Bool) → has good f.label.slot ≡ g → ((r && b) || is_readable_slot slot fs) ≡ true → (is_readable_slot slot fs ≡ true → is_good_slot slot (disks_in (good_looks good fs)) ≡ true)
        → is_good_slot slot (disks_in (cond g (f ∷ good_looks good fs) (good_looks good fs))) ≡ true
    by true e r true h is rest = ap (λ x. x || is_good_slot slot (disks_in (good_looks good fs))) e
    by true e r false h is rest = let t = same_has (eqb-true f.label.slot slot e) in cc
    by false e true true h is rest = ap (λ x. x || is_good_slot slot (disks_in (good_looks good fs))) e ∙ rest is
    by false e true false h is rest = rest is
    by false e false true h is rest = ap (λ x. x || is_good_slot slot (disks_in (good_looks good fs))) e ∙ rest is
    by false e false false h is rest = rest is

good_named : (good : ℕ) (slot : ℕ) (fs : List Looked) → is_good_slot slot (disks_in (good_looks good fs)) ≡ true → has good slot ≡ true
good_named good slot [] is = cc
good_named good slot (f ∷ fs) is = by (has good f.label.slot) refl (good_named good slot fs) is
  where
    by : (g : Bool) → has good f.label.slot ≡ g → (is_good_slot slot (disks_in (good_looks good fs)) ≡ true → has good slot ≡ true) → is_good_slot slot (disks_in (cond g (f ∷ good_looks good fs) (good_looks good fs))) ≡ true → has good slot ≡ true
    by false h rest is = rest is
    by true h rest is = by_slot (f.label.slot == slot) refl is
      where
        by_slot : (b : Bool) → (f.label.slot == slot) ≡ b → (b || is_good_slot slot (disks_in (good_looks good fs))) ≡ true → has good slot ≡ true
        by_slot true e is = ap (has good) (sym (eqb-true f.label.slot slot e)) ∙ h
        by_slot false e is = rest is

bit_same : (a b : ℕ) → a < 2 → b < 2 → (a == 1) ≡ (b == 1) → a ≡ b
bit_same a b la lb e = by (a == 1) refl (b == 1) refl e
  where
    by : (x : Bool) → (a == 1) ≡ x → (y : Bool) → (b == 1) ≡ y → x ≡ y → a ≡ b
    by true p true q e = eqb-true a 1 p ∙ sym (eqb-true b 1 q)
    by false p false q e = let m = eqb-false a 1 p in let n = eqb-false b 1 q in omega (arith, la, lb, m, n)
    by true p false q e = cc
    by false p true q e = cc

same_bools : (a b : Bool) → (a ≡ true → b ≡ true) → (b ≡ true → a ≡ true) → a ≡ b
same_bools true b f g = sym (f refl)
same_bools false true f g = g refl
same_bools false false f g = refl

-- a slot of a mask of 32 bits is below 32
pub slot_below : (mask slot : ℕ) → mask < 2 ^ 32 → has mask slot ≡ true → slot < 32
unfolding has
slot_below mask slot fits is = by (nat_lt slot 32) refl
  where
    by : (b : Bool) → nat_lt slot 32 ≡ b → slot < 32
    by true e = ltb-true slot 32 e
    by false e =
        let le : 32 ≤ slot = ltb-false slot 32 e in
        let zero_bit : bit_at mask slot ≡ 0 = bit_at_above mask 32 slot fits le in
        let no : (bit_at mask slot == 1) ≡ false = ap (λ x. x == 1) zero_bit in cc

same_masks : (a b : ℕ) → ((slot : ℕ) → has a slot ≡ has b slot) → a ≡ b
unfolding has
same_masks a b same = same_from_bits a b (λ slot. bit_same (bit_at a slot) (bit_at b slot) (bit_at-lt a slot) (bit_at-lt b slot) (same slot))

-- the mask of the good disks is the mask of the configuration, where each slot of it has a device that can be read
pub mask_is : (good : ℕ) (fs : List Looked) → good < 2 ^ 32 → AllThere 32 good fs → AllOf HasSlot (disks_in (good_looks good fs)) → good_mask (disks_in (good_looks good fs)) ≡ good
mask_is good fs fits there low = same_masks (good_mask (disks_in (good_looks good fs))) good (λ slot.
    mask_names (disks_in (good_looks good fs)) low slot
    ∙ same_bools (is_good_slot slot (disks_in (good_looks good fs))) (has good slot) (good_named good slot fs) (λ named. good_there good slot fs named (there slot (slot_below good slot fits named) named)))
