-- The mask of the good slots.
use Rattle.std.proofs.Common.{◌≡◌, ℕ, ◌-◌, ◌*◌, ◌^◌, ◌%◌, ◌<◌, ◌≤◌, Bool, true, false, cond, List, [], ◌∷◌, length, map, take, drop, get_or, refl, sym, ap, ◌∙◌, arith, inl, inr}
use Rattle.std.specs.Prelude.{◌&&◌, ◌||◌, ◌==◌, bit_or}
use Rattle.std.proofs.lemmas.Bool.{cases_eq, cond-true, lt-ltb, eq-eqb, ne_eqb}
use Rattle.std.proofs.lemmas.Nat.{pow_below}
use Rattle.std.proofs.lemmas.List.{take_all}
use Rattle.std.proofs.Math.Bool.{or_comm}
use Rattle.std.proofs.Math.Nat.{mod-eq_of_lt}
use Rattle.vx_piece.specs.Seen.{Seen}
use Rattle.vx_mask.specs.Mask.{has, only, union}
use Rattle.vx_mask.proofs.MaskLemmas.{has-union, has-only_same, has-only_other, has-zero}
use Rattle.vx_copies.specs.Lists.{AllOf}
use Rattle.vx_copies.specs.Disks.{DiskSeen, disk_seen, HasSlot, IsReady, is_good_slot, good_mask}
use Rattle.vx_copies.specs.declared.disk.Disk.{Disk}

only_is : (slot : ℕ) → slot < 32 → 1 * 2 ^ slot % 4294967296 ≡ only slot
unfolding only
only_is slot lt =
    let below : 2 ^ slot < 2 ^ 32 = pow_below slot 32 lt in
    let one : 1 * 2 ^ slot ≡ 2 ^ slot = omega arith in
    mod-eq_of_lt (omega (arith, below, one)) ∙ one ∙ sym (cond-true _ _ _ (lt-ltb slot 64 (omega (arith, lt))))

has_only : (slot k : ℕ) → slot < 32 → has (only slot) k ≡ (slot == k)
has_only slot k lt = elim (cases_eq slot k) [
  | inl same ↦ ap (λ j. has (only slot) j) (sym same) ∙ has-only_same slot (omega (arith, lt)) ∙ sym (eq-eqb slot k same)
  | inr other ↦ has-only_other slot k (λ e. other (sym e)) ∙ sym (ne_eqb slot k other)
]

with_slot : (m slot k : ℕ) → slot < 32 → has (bit_or m (1 * 2 ^ slot % 4294967296)) k ≡ ((slot == k) || has m k)
unfolding union
with_slot m slot k lt =
    ap (λ x. has (bit_or m x) k) (only_is slot lt) ∙ has-union m (only slot) k ∙ ap (λ b. has m k || b) (has_only slot k lt) ∙ or_comm (has m k) (slot == k)

with_slot_just : (m n slot : ℕ) → slot < 32 → m ≡ n → bit_or m (1 * 2 ^ slot % 4294967296) ≡ union n (only slot)
unfolding union
with_slot_just m n slot lt same = ap (λ x. bit_or m x) (only_is slot lt) ∙ ap (λ k. bit_or k (only slot)) same

module _ {P : Type 0} (see : P → Seen) where
  pub mask_none : (xs : List (Disk P)) → length xs < 1 → 0 ≡ good_mask (map (disk_seen see) xs)
  mask_none [] lt = refl
  mask_none (x ∷ xs) lt = absurd (omega (arith, lt))

  module _ (m : ℕ) where
    mask_behind : (x : Disk P) (xs : List (Disk P)) → m ≡ good_mask (map (disk_seen see) (take (length (x ∷ xs) - 1) (drop 1 (x ∷ xs)))) → m ≡ good_mask (map (disk_seen see) xs)
    mask_behind x xs rest = rest ∙ ap (λ ys. good_mask (map (disk_seen see) ys)) (take_all (length (x ∷ xs) - 1) xs (omega arith))

    pub mask_more : (xs : List (Disk P)) (d : Disk P) → 1 ≤ length xs → d ≡ get_or xs 0 d → AllOf HasSlot (map (disk_seen see) xs)
        → m ≡ good_mask (map (disk_seen see) (take (length xs - 1) (drop 1 xs))) → d.good ≡ true → bit_or m (1 * 2 ^ d.slot % 4294967296) ≡ good_mask (map (disk_seen see) xs)
    mask_more [] d some is slots rest good = absurd (omega (arith, some))
    mask_more (x ∷ xs) d some is slots rest good =
        let number : d.slot ≡ x.slot = ap (λ (e : Disk P). e.slot) is in
        let is_good : x.good ≡ true = sym (ap (λ (e : Disk P). e.good) is) ∙ good in
        ap (λ n. bit_or m (1 * 2 ^ n % 4294967296)) number ∙ with_slot_just m (good_mask (map (disk_seen see) xs)) x.slot slots.0 (mask_behind x xs rest)
        ∙ ap (λ b. cond b (union (good_mask (map (disk_seen see) xs)) (only x.slot)) (good_mask (map (disk_seen see) xs))) (sym is_good)

    pub mask_same : (xs : List (Disk P)) (d : Disk P) → 1 ≤ length xs → d ≡ get_or xs 0 d
        → m ≡ good_mask (map (disk_seen see) (take (length xs - 1) (drop 1 xs))) → d.good ≡ false → m ≡ good_mask (map (disk_seen see) xs)
    mask_same [] d some is rest good = absurd (omega (arith, some))
    mask_same (x ∷ xs) d some is rest good =
        let is_bad : x.good ≡ false = sym (ap (λ (e : Disk P). e.good) is) ∙ good in
        mask_behind x xs rest ∙ ap (λ b. cond b (union (good_mask (map (disk_seen see) xs)) (only x.slot)) (good_mask (map (disk_seen see) xs))) (sym is_bad)

  pub slots_none : (xs : List (Disk P)) → length xs < 1 → (slot : ℕ) → has 0 slot ≡ is_good_slot slot (map (disk_seen see) xs)
  slots_none [] lt slot = has-zero slot
  slots_none (x ∷ xs) lt slot = absurd (omega (arith, lt))

  module _ (m : ℕ) where
    behind : (x : Disk P) (xs : List (Disk P)) → ((slot : ℕ) → has m slot ≡ is_good_slot slot (map (disk_seen see) (take (length (x ∷ xs) - 1) (drop 1 (x ∷ xs))))) → (slot : ℕ) → has m slot ≡ is_good_slot slot (map (disk_seen see) xs)
    behind x xs rest slot = rest slot ∙ ap (λ ys. is_good_slot slot (map (disk_seen see) ys)) (take_all (length (x ∷ xs) - 1) xs (omega arith))

    pub slots_more : (xs : List (Disk P)) (d : Disk P) → 1 ≤ length xs → d ≡ get_or xs 0 d → AllOf HasSlot (map (disk_seen see) xs)
        → ((slot : ℕ) → has m slot ≡ is_good_slot slot (map (disk_seen see) (take (length xs - 1) (drop 1 xs))))
        → d.good ≡ true → (slot : ℕ) → has (bit_or m (1 * 2 ^ d.slot % 4294967296)) slot ≡ is_good_slot slot (map (disk_seen see) xs)
    slots_more [] d some is slots rest good slot = absurd (omega (arith, some))
    slots_more (x ∷ xs) d some is slots rest good slot =
        let number : d.slot ≡ x.slot = ap (λ (e : Disk P). e.slot) is in
        let is_good : x.good ≡ true = sym (ap (λ (e : Disk P). e.good) is) ∙ good in
        ap (λ n. has (bit_or m (1 * 2 ^ n % 4294967296)) slot) number ∙ with_slot m x.slot slot slots.0 ∙ ap (λ b. (x.slot == slot) || b) (behind x xs rest slot)
        ∙ ap (λ b. (b && (x.slot == slot)) || is_good_slot slot (map (disk_seen see) xs)) (sym is_good)

    pub slots_same : (xs : List (Disk P)) (d : Disk P) → 1 ≤ length xs → d ≡ get_or xs 0 d
        → ((slot : ℕ) → has m slot ≡ is_good_slot slot (map (disk_seen see) (take (length xs - 1) (drop 1 xs))))
        → d.good ≡ false → (slot : ℕ) → has m slot ≡ is_good_slot slot (map (disk_seen see) xs)
    slots_same [] d some is rest good slot = absurd (omega (arith, some))
    slots_same (x ∷ xs) d some is rest good slot =
        let is_bad : x.good ≡ false = sym (ap (λ (e : Disk P). e.good) is) ∙ good in
        behind x xs rest slot ∙ ap (λ b. (b && (x.slot == slot)) || is_good_slot slot (map (disk_seen see) xs)) (sym is_bad)

-- disks that are ready have slots of a mask
pub ready_slots : (hs : List DiskSeen) → AllOf IsReady hs → AllOf HasSlot hs
ready_slots [] all = tt
ready_slots (h ∷ hs) all = (all.0.slot, ready_slots hs all.1)

-- a good disk's slot is a good slot
pub good_named : (m : ℕ) (hs : List DiskSeen) → ((slot : ℕ) → has m slot ≡ is_good_slot slot hs) → AllOf (λ h. h.good ≡ true → has m h.slot ≡ true) hs
good_named m hs names = each hs (λ slot there. names slot ∙ there)
  where
    or_right : (a b : Bool) → b ≡ true → (a || b) ≡ true
    or_right true b e = refl
    or_right false b e = e

    here : (h : DiskSeen) (rest : Bool) → h.good ≡ true → ((h.good && (h.slot == h.slot)) || rest) ≡ true
    here h rest good = ap (λ b. (b && (h.slot == h.slot)) || rest) good ∙ ap (λ b. b || rest) (eq-eqb h.slot h.slot refl)

    each : (bs : List DiskSeen) → ((slot : ℕ) → is_good_slot slot bs ≡ true → has m slot ≡ true) → AllOf (λ h. h.good ≡ true → has m h.slot ≡ true) bs
    each [] is = tt
    each (h ∷ bs) is = (λ good. is h.slot (here h (is_good_slot h.slot bs) good), each bs (λ slot there. is slot (or_right (h.good && (h.slot == slot)) (is_good_slot slot bs) there)))
