-- The mask of the maps that claim a mark.
use Rattle.std.proofs.Common.{◌≡◌, ℕ, ◌+◌, ◌<◌, ◌≤◌, Bool, true, false, refl, sym, ◌∙◌, ap, arith, inl, inr, List, length, map, get_or}
use Rattle.std.specs.Prelude.{◌==◌, ◌&&◌, ◌||◌, nat_lt}
use Rattle.std.proofs.lemmas.Bool.{cases_order, cases_lt, lt-ltb, le-ltb, eq-eqb, ne_eqb}
use Rattle.std.proofs.lemmas.Bool.Decides.{eqb_tells}
use Rattle.vx_mask.specs.Mask.{has, only, union}
use Rattle.vx_mask.proofs.MaskLemmas.{has-zero, has-union, has-only_same, has-only_other}
use Rattle.vx_pages.specs.Sector.{SectorSeen, is_sure}
use Rattle.vx_pages.specs.Page.{no_sector, sector_at}
use Rattle.vx_pages.proofs.Bits.{empty_bit}
use Rattle.vx_pages.proofs.Items.{at_is}
use Rattle.vx_pages.proofs.MarkSteps.{beyond}

and_right : (b : Bool) → (b && true) ≡ b
and_right true = refl
and_right false = refl

and_none : (b : Bool) → (b && false) ≡ false
and_none true = refl
and_none false = refl

or_none : (b : Bool) → (b || false) ≡ b
or_none true = refl
or_none false = refl

pub put_in : (marks map other : ℕ) → map < 64 → has (union marks (only map)) other ≡ (has marks other || ((other == map) && true))
put_in marks map other low =
    has-union marks (only map) other
    ∙ ap (λ (b : Bool). has marks other || b)
    (elim (eqb_tells other map) [
      | inl same ↦ rw (same.1, has-only_same map low) (sym (ap (λ (b : Bool). b && true) (eq-eqb map map refl)))
      | inr apart ↦ has-only_other map other apart.1 ∙ sym (ap (λ (b : Bool). b && true) apart.0)
    ])

pub left_out : (marks map other : ℕ) → has marks other ≡ (has marks other || ((other == map) && false))
left_out marks map other = sym (ap (λ (b : Bool). has marks other || b) (and_none (other == map)) ∙ or_none (has marks other))

-- the maps so far, and the next
next_map : (sure : ℕ → Bool) (i other : ℕ) → ((nat_lt other i && sure other) || ((other == i) && sure i)) ≡ (nat_lt other (i + 1) && sure other)
next_map sure i other =
    elim (cases_order other i) [
      | inl same ↦ rw (same, le-ltb i i (omega arith), eq-eqb i i refl, lt-ltb i (i + 1) (omega arith)) refl
      | inr (inl lower) ↦ rw (lt-ltb other i lower, lt-ltb other (i + 1) (omega arith), ne_eqb other i (λ e. absurd (omega arith))) (or_none _)
      | inr (inr higher) ↦ rw (le-ltb other i (omega arith), le-ltb other (i + 1) (omega arith), ne_eqb other i (λ e. absurd (omega arith))) refl
    ]

module _ {T : Type 0} (see : T → SectorSeen) where
  pub masks_on : (xs : List T) (i region mask mask' : ℕ) (p : T) (there : Bool) → i < length xs → p ≡ get_or xs i p → there ≡ is_sure (see p) region →
      ((k : ℕ) → has mask k ≡ (nat_lt k i && is_sure (sector_at (map see xs) k) region)) → ((k : ℕ) → has mask' k ≡ (has mask k || ((k == i) && there))) →
      (k : ℕ) → has mask' k ≡ (nat_lt k (i + 1) && is_sure (sector_at (map see xs) k) region)
  masks_on xs i region mask mask' p there lt is sure before next k =
      let here : there ≡ is_sure (sector_at (map see xs) i) region = sure ∙ ap (λ (s : SectorSeen). is_sure s region) (ap see is ∙ sym (at_is no_sector see xs i p lt)) in
      next k ∙ ap (λ (b : Bool). b || ((k == i) && there)) (before k) ∙ ap (λ (b : Bool). (nat_lt k i && is_sure (sector_at (map see xs) k) region) || ((k == i) && b)) here
      ∙ next_map (λ m. is_sure (sector_at (map see xs) m) region) i k

pub masks_start : (sure : ℕ → Bool) (k : ℕ) → has 0 k ≡ (nat_lt k 0 && sure k)
masks_start sure k = has-zero k ∙ sym (ap (λ (b : Bool). b && sure k) (le-ltb k 0 (omega arith)))

pub masks_end : (xs : List SectorSeen) (region mask i : ℕ) → length xs ≡ 32 → 32 ≤ i → ((k : ℕ) → has mask k ≡ (nat_lt k i && is_sure (sector_at xs k) region)) → (k : ℕ) → has mask k ≡ is_sure (sector_at xs k) region
masks_end xs region mask i size le before k =
    before k
    ∙ elim (cases_lt k i) [
      | inl lt ↦ ap (λ (b : Bool). b && is_sure (sector_at xs k) region) (lt-ltb k i lt)
      | inr above ↦
          let none : is_sure (sector_at xs k) region ≡ false = ap (λ (s : SectorSeen). is_sure s region) (beyond xs k (omega (arith, size, le, above))) ∙ empty_bit region in
          ap (λ (b : Bool). nat_lt k i && b) none ∙ and_none _ ∙ sym none
    ]
