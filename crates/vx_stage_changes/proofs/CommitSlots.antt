-- Disks whose slots differ: each good one is known by its slot.
use Rattle.std.proofs.Common.{◌≡◌, ◌≢◌, ◌∙◌, ℕ, ◌<◌, Bool, true, false, cond, List, [], ◌∷◌, map, Option, Some, None, refl, sym, ap, subst, arith, inl, inr}
use Rattle.std.specs.Prelude.{◌&&◌, ◌||◌, ◌==◌}
use Rattle.std.proofs.lemmas.Bool.{cases_eq, eq-eqb, ne_eqb, eqb-true}
use Rattle.std.proofs.Math.Bool.{or_comm}
use Rattle.vx_piece.specs.Seen.{Seen}
use Rattle.vx_mask.specs.Mask.{has, only, union}
use Rattle.vx_mask.proofs.MaskLemmas.{has-union, has-only_same, has-only_other, has-zero}
use Rattle.vx_copies.specs.Lists.{AllOf, Each}
use Rattle.vx_copies.specs.Disks.{DiskSeen, disk_seen, Drops, HasSlot, is_good_slot, good_mask}
use Rattle.vx_copies.specs.declared.disk.Disk.{Disk}
use Rattle.vx_copies.proofs.Chains.{was_good}
use Rattle.vx_fronts.specs.Fronts.{Rest, Rests, whole_disk, with_device}
use Rattle.vx_fronts.specs.Laws.{whole_disks}
use Rattle.vx_house.specs.View.{HaveSlots}

has_only : (slot k : ℕ) → slot < 32 → has (only slot) k ≡ (slot == k)
has_only slot k lt = elim (cases_eq slot k) [
  | inl same ↦ ap (λ j. has (only slot) j) (sym same) ∙ has-only_same slot (omega (arith, lt)) ∙ sym (eq-eqb slot k same)
  | inr other ↦ has-only_other slot k (λ e. other (sym e)) ∙ sym (ne_eqb slot k other)
]

-- the mask has the slots of good disks
pub mask_names : (hs : List DiskSeen) → AllOf HasSlot hs → (slot : ℕ) → has (good_mask hs) slot ≡ is_good_slot slot hs
mask_names [] all slot = has-zero slot
mask_names (h ∷ hs) all slot = by_good h.good (mask_names hs all.1 slot)
  where
    by_good : (g : Bool) → has (good_mask hs) slot ≡ is_good_slot slot hs → has (cond g (union (good_mask hs) (only h.slot)) (good_mask hs)) slot ≡ ((g && h.slot == slot) || is_good_slot slot hs)
    by_good false rest = rest
    by_good true rest = has-union (good_mask hs) (only h.slot) slot ∙ ap (λ b. has (good_mask hs) slot || b) (has_only h.slot slot all.0) ∙ or_comm (has (good_mask hs) slot) (h.slot == slot) ∙ ap (λ b. (h.slot == slot) || b) rest

-- the slots differ
abbrev pub AreSlotted : List DiskSeen → Type 0
AreSlotted [] = Unit {0}
AreSlotted (h ∷ hs) = AllOf (λ e. e.slot ≢ h.slot) hs × AreSlotted hs

pub slotted : {P : Type 0} (see : P → Seen) (ds : List (Disk P)) → HaveSlots ds → AreSlotted (map (disk_seen see) ds)
slotted see [] have = tt
slotted {P = P} see (d ∷ ds) have = (all d.slot ds have.0, slotted see ds have.1)
  where
    all : (slot : ℕ) (es : List (Disk P)) → AllOf (λ e. e.slot ≢ slot) es → AllOf (λ e. e.slot ≢ slot) (map (disk_seen see) es)
    all slot [] other = tt
    all slot (e ∷ es) other = (other.0, all slot es other.1)

slot_whole : (o : Option Rest) (h : DiskSeen) → (with_device o h).slot ≡ h.slot
slot_whole None h = refl
slot_whole (Some r) h = refl

-- a disk has its slot with its whole device
pub slotted_wholes : (rests : Rests) (hs : List DiskSeen) → AreSlotted hs → AreSlotted (whole_disks rests hs)
slotted_wholes rests [] have = tt
slotted_wholes rests (h ∷ hs) have = (all hs have.0, slotted_wholes rests hs have.1)
  where
    all : (es : List DiskSeen) → AllOf (λ e. e.slot ≢ h.slot) es → AllOf (λ e. e.slot ≢ (whole_disk rests h).slot) (whole_disks rests es)
    all [] other = tt
    all (e ∷ es) other = ((λ same. other.0 (sym (slot_whole (rests e.seen.device) e) ∙ same ∙ slot_whole (rests h.seen.device) h)), all es other.1)

not_slot : (slot : ℕ) (hs : List DiskSeen) → AllOf (λ e. e.slot ≢ slot) hs → is_good_slot slot hs ≡ false
not_slot slot [] other = refl
not_slot slot (e ∷ hs) other = by_test e.good (e.slot == slot) refl (not_slot slot hs other.1)
  where
    by_test : (g b : Bool) → (e.slot == slot) ≡ b → is_good_slot slot hs ≡ false → ((g && b) || is_good_slot slot hs) ≡ false
    by_test false b is rest = rest
    by_test true false is rest = rest
    by_test true true is rest = absurd (other.0 (eqb-true e.slot slot is))

good_on : (d : DiskSeen) (hs es : List DiskSeen) → AllOf (λ e. e.slot ≢ d.slot) es → AllOf (λ e. is_good_slot e.slot hs ≡ e.good) es → AllOf (λ e. is_good_slot e.slot (d ∷ hs) ≡ e.good) es
good_on d hs [] other good = tt
good_on d hs (e ∷ es) other good = (by_test d.good (d.slot == e.slot) refl, good_on d hs es other.1 good.1)
  where
    by_test : (g b : Bool) → (d.slot == e.slot) ≡ b → ((g && b) || is_good_slot e.slot hs) ≡ e.good
    by_test false b is = good.0
    by_test true false is = good.0
    by_test true true is = absurd (other.0 (sym (eqb-true d.slot e.slot is)))

-- the slot of a disk is that of a good one just where it is good
pub good_slots : (hs : List DiskSeen) → AreSlotted hs → AllOf (λ h. is_good_slot h.slot hs ≡ h.good) hs
good_slots [] slots = tt
good_slots (h ∷ hs) slots = (by_test h.good (h.slot == h.slot) (eq-eqb h.slot h.slot refl), good_on h hs hs slots.0 (good_slots hs slots.1))
  where
    by_test : (g b : Bool) → b ≡ true → ((g && b) || is_good_slot h.slot hs) ≡ g
    by_test true true is = refl
    by_test true false is = absurd (cc)
    by_test false b is = not_slot h.slot hs slots.0

-- the mask of the good ones tells of each whether it is good
pub mask_tells : (hs : List DiskSeen) → AllOf HasSlot hs → AreSlotted hs → AllOf (λ h. has (good_mask hs) h.slot ≡ h.good) hs
mask_tells hs all slots = by hs (good_slots hs slots)
  where
    by : (es : List DiskSeen) → AllOf (λ h. is_good_slot h.slot hs ≡ h.good) es → AllOf (λ h. has (good_mask hs) h.slot ≡ h.good) es
    by [] is = tt
    by (e ∷ es) is = (mask_names hs all e.slot ∙ is.0, by es is.1)

-- disks that keep their slots
pub slots_kept : (hs bs : List DiskSeen) → Each (λ a b. b.slot ≡ a.slot) hs bs → AreSlotted hs → AreSlotted bs
slots_kept [] [] same slots = tt
slots_kept [] (b ∷ bs) same slots = absurd same
slots_kept (a ∷ hs) [] same slots = absurd same
slots_kept (a ∷ hs) (b ∷ bs) same slots = (all hs bs same.1 slots.0, slots_kept hs bs same.1 slots.1)
  where
    all : (xs ys : List DiskSeen) → Each (λ a b. b.slot ≡ a.slot) xs ys → AllOf (λ e. e.slot ≢ a.slot) xs → AllOf (λ e. e.slot ≢ b.slot) ys
    all [] [] same other = tt
    all [] (y ∷ ys) same other = absurd same
    all (x ∷ xs) [] same other = absurd same
    all (x ∷ xs) (y ∷ ys) rest other = ((λ e. other.0 (sym rest.0 ∙ e ∙ same.0)), all xs ys rest.1 other.1)

-- a disk keeps its slot, and is good unless it has failed
pub record IsWent (a b : DiskSeen) : Type 0 where
  pub slot : b.slot ≡ a.slot
  pub good : Drops a.good b.good a.seen b.seen

-- a slot that is good was good
pub old_slot : (slot : ℕ) (hs bs : List DiskSeen) → Each IsWent hs bs → is_good_slot slot bs ≡ true → is_good_slot slot hs ≡ true
old_slot slot [] [] went is = is
old_slot slot [] (b ∷ bs) went is = absurd went
old_slot slot (a ∷ hs) [] went is = absurd went
old_slot slot (a ∷ hs) (b ∷ bs) went is = by b.good (b.slot == slot) refl (ap (λ s. s == slot) (sym went.0.slot)) (old_slot slot hs bs went.1) is
  where
    or_right : (x y : Bool) → y ≡ true → (x || y) ≡ true
    or_right true y e = refl
    or_right false y e = e

    by : (g t : Bool) → b.good ≡ g → (a.slot == slot) ≡ t → (is_good_slot slot bs ≡ true → is_good_slot slot hs ≡ true) → ((g && t) || is_good_slot slot bs) ≡ true → ((a.good && a.slot == slot) || is_good_slot slot hs) ≡ true
    by true true p q rest e = ap (λ x. (x && a.slot == slot) || is_good_slot slot hs) (was_good a.good b.good a.seen b.seen went.0.good p) ∙ ap (λ x. x || is_good_slot slot hs) q
    by true false p q rest e = or_right (a.good && a.slot == slot) (is_good_slot slot hs) (rest e)
    by false t p q rest e = or_right (a.good && a.slot == slot) (is_good_slot slot hs) (rest e)

low_on : (hs bs : List DiskSeen) → Each IsWent hs bs → AllOf HasSlot hs → AllOf HasSlot bs
low_on [] [] went low = tt
low_on [] (b ∷ bs) went low = absurd went
low_on (a ∷ hs) [] went low = absurd went
low_on (a ∷ hs) (b ∷ bs) went low = (subst (λ n. n < 32) (sym went.0.slot) low.0, low_on hs bs went.1 low.1)

-- a slot of the mask was one of it
pub mask_was : (hs bs : List DiskSeen) → Each IsWent hs bs → AllOf HasSlot hs → (slot : ℕ) → has (good_mask bs) slot ≡ true → has (good_mask hs) slot ≡ true
mask_was hs bs went low slot is = mask_names hs low slot ∙ old_slot slot hs bs went (sym (mask_names bs (low_on hs bs went low) slot) ∙ is)
