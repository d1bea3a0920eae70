-- The blocks of a region, by its first block and by its number.
use Rattle.std.proofs.Common.{◌≡◌, ℕ, ◌+◌, ◌-◌, ◌*◌, ◌/◌, ◌<◌, ◌≤◌, min, Bool, true, false, refl, sym, subst, arith, inl, inr}
use Rattle.std.specs.Prelude.{◌&&◌, ◌==◌, nat_lt, nat_le}
use Rattle.std.proofs.Math.Nat.{le-div_iff_mul-le, div-mul-le_self, add-mul}
use Rattle.std.proofs.lemmas.Bool.{and_parts, and_from, lt-ltb, ltb-true, le-leb, leb-true, cases_lt, eq-eqb, eqb-true}
use Rattle.vx_base.specs.Blocks.{is_in}
use Rattle.vx_block.specs.Regions.{region_count}

same_tests : (a b : Bool) → (a ≡ true → b ≡ true) → (b ≡ true → a ≡ true) → a ≡ b
same_tests true true f g = refl
same_tests true false f g = sym (f refl)
same_tests false true f g = g refl
same_tests false false f g = refl

pub in_range : (start count k : ℕ) → is_in start count k ≡ true → (start ≤ k) × (k < start + count)
in_range start count k h = let w = and_parts (nat_le start k) (nat_lt k (start + count)) h in (leb-true start k w.0, ltb-true k (start + count) w.1)

range_in : (start count k : ℕ) → start ≤ k → k < start + count → is_in start count k ≡ true
range_in start count k le lt = and_from _ _ (le-leb start k le) (lt-ltb k (start + count) lt)

-- the region of a block, by its ends
region_by_ends : (r size b : ℕ) → 0 < size → r * size ≤ b → b < r * size + size → b / size ≡ r
region_by_ends r size b sized le lt =
    let low : r ≤ b / size = (le-div_iff_mul-le sized).1 le in
    let next = add-mul r 1 size in
    elim (cases_lt (b / size) (r + 1)) [
      | inl below ↦ omega (arith, low, below)
      | inr above ↦ let past : (r + 1) * size ≤ b = (le-div_iff_mul-le sized).0 above in absurd (omega (arith, past, next, lt))
    ]

-- the end of the region of a block
end_of : (size b : ℕ) → 0 < size → b < b / size * size + size
end_of size b sized =
    let next = add-mul (b / size) 1 size in
    elim (cases_lt b (b / size * size + size)) [
      | inl below ↦ below
      | inr above ↦
          let past : b / size + 1 ≤ b / size = (le-div_iff_mul-le sized).1 (omega (arith, next, above)) in
          absurd (omega (arith, past))
    ]

pub same_blocks : (length size r b : ℕ) → 0 < size → r < region_count length size → is_in (r * size) (min size (length - r * size)) b ≡ (nat_lt r (region_count length size) && (nat_lt b length && b / size == r))
same_blocks length size r b sized inside = same_tests _ _
    (λ h.
    let w = in_range (r * size) (min size (length - r * size)) b h in
    let at = region_by_ends r size b sized w.0 (omega (arith, w.1)) in
    and_from _ _ (lt-ltb r (region_count length size) inside) (and_from _ _ (lt-ltb b length (omega (arith, w.0, w.1))) (eq-eqb (b / size) r at)))
    (λ h.
    let x = and_parts (nat_lt r (region_count length size)) (nat_lt b length && b / size == r) h in
    let y = and_parts (nat_lt b length) (b / size == r) x.1 in
    let lt = ltb-true b length y.0 in
    let at = eqb-true (b / size) r y.1 in
    let first : r * size ≤ b = subst (λ n. n * size ≤ b) at (div-mul-le_self b size) in
    let last : b < r * size + size = subst (λ n. b < n * size + size) at (end_of size b sized) in
    range_in (r * size) (min size (length - r * size)) b first (omega (arith, lt, first, last)))
