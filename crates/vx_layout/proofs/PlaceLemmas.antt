-- The column and the sector of a block.
use Rattle.std.proofs.Common.{◌≡◌, ℕ, ◌+◌, ◌-◌, ◌*◌, ◌/◌, ◌%◌, ◌<◌, false, List, length, arith, refl, sym, ◌∙◌, ap, inl, inr, eqb, min}
use Rattle.std.specs.Prelude.{◌==◌}
use Rattle.std.proofs.Math.Nat.{mul_comm, mul_assoc, div-lt_iff_lt-mul}
use Rattle.std.proofs.lemmas.Bool.{cases_eq, cond-true, cond-false, eqb-true, eq-eqb, ne_eqb, or_cases}
use Rattle.std.proofs.lemmas.Nat.{mul-add-lt}
use Rattle.vx_layout.specs.declared.strip.Strip.{Strip}
use Rattle.vx_layout.specs.Columns.{column_length, column_at, capacity, column_of, sector_of, place_in}
use Rattle.vx_layout.specs.Runs.{IsInUnit}
use Rattle.vx_layout.proofs.ColumnLemmas.{rows, same_unit}
use Rattle.vx_layout.proofs.ValidLemmas.{Parts, column_is_one}

-- the rest of a unit lies in one column
pub unit_places : (unit : ℕ) (columns : List (List Strip)) (block most : ℕ) → (length columns ≡ 1 → ⊥) → 0 < unit → 0 < most →
    IsInUnit unit columns block most (min most (unit - block % unit))
unit_places unit columns block most several some more =
    let no : eqb (length columns) 1 ≡ false = ne_eqb (length columns) 1 several in
    record {
      some = omega arith;
      few = omega arith;
      places = λ i lt.
          let same = same_unit unit block i (omega arith) in
          let column : column_of unit columns (block + i) ≡ column_of unit columns block =
          cond-false _ _ _ no ∙ ap (λ (u : ℕ). u % length columns) same.0 ∙ sym (cond-false _ _ _ no) in
          let sum : block / unit / length columns * unit + (block % unit + i) ≡ block / unit / length columns * unit + block % unit + i = omega arith in
          let sector : sector_of unit columns (block + i) ≡ sector_of unit columns block + i =
          cond-false _ _ _ no ∙ ap (λ (u : ℕ). u / length columns * unit + (block + i) % unit) same.0 ∙ ap (λ (r : ℕ). block / unit / length columns * unit + r) same.1
          ∙ sum ∙ ap (λ (n : ℕ). n + i) (sym (cond-false _ _ _ no)) in
          ap (λ (k : ℕ). place_in (column_at columns k) (sector_of unit columns (block + i))) column ∙ ap (place_in (column_at columns (column_of unit columns block))) sector;
    }

-- a number below n * k units lies in one of k rows of n units
row_below : (unit n k block : ℕ) → 0 < unit → 0 < n → block < n * (unit * k) → block / unit / n * unit + block % unit < unit * k
row_below unit n k block some some' lt =
    let regroup : n * (unit * k) ≡ k * n * unit = ap (λ (m : ℕ). n * m) (mul_comm unit k) ∙ sym (mul_assoc n k unit) ∙ ap (λ (m : ℕ). m * unit) (mul_comm n k) in
    let units : block / unit < k * n = (div-lt_iff_lt-mul {k = unit} {x = block} {y = k * n} some).1 (omega (arith, regroup)) in
    let row : block / unit / n < k = (div-lt_iff_lt-mul {k = n} {x = block / unit} {y = k} some').1 units in
    mul-add-lt (block / unit / n) unit (block % unit) k row (omega arith)

below_same : (a b c : ℕ) → a < b → b ≡ c → a < c
below_same a b c lt e = omega arith

less_same : (a b c d : ℕ) → a ≡ b → b < c → c ≡ d → a < d
less_same a b c d e lt f = omega arith

module _ (unit : ℕ) (columns : List (List Strip)) (block : ℕ) (parts : Parts unit columns) (inside : block < capacity columns) where
  pub column_inside : column_of unit columns block < length columns
  column_inside = elim (cases_eq (length columns) 1) [
    | inl one ↦
        let at : column_of unit columns block ≡ 0 = cond-true _ _ _ (eq-eqb (length columns) 1 one) in
        omega (arith, at, one)
    | inr several ↦
        let at : column_of unit columns block ≡ block / unit % length columns = cond-false _ _ _ (ne_eqb (length columns) 1 several) in
        omega (arith, at, parts.some)
  ]

  sector_below : sector_of unit columns block < column_length (column_at columns 0)
  sector_below = elim (cases_eq (length columns) 1) [
    | inl one ↦
        let at : sector_of unit columns block ≡ block = cond-true _ _ _ (eq-eqb (length columns) 1 one) in
        let size : capacity columns ≡ 1 * column_length (column_at columns 0) = ap (λ (n : ℕ). n * column_length (column_at columns 0)) one in
        omega (arith, at, size, inside)
    | inr several ↦
        let size : ℕ = column_length (column_at columns 0) in
        let at : sector_of unit columns block ≡ block / unit / length columns * unit + block % unit = cond-false _ _ _ (ne_eqb (length columns) 1 several) in
        let whole : size % unit ≡ 0 = elim (or_cases (length columns == 1) (size % unit == 0) parts.whole) [
          | inl one ↦ absurd (several (eqb-true (length columns) 1 one))
          | inr even ↦ eqb-true (size % unit) 0 even
        ] in
        let units : size ≡ unit * (size / unit) = rows unit size parts.unit_some ∙ ap (λ (r : ℕ). size / unit * unit + r) whole ∙ omega (arith, mul_comm (size / unit) unit) in
        let lt : block < length columns * (unit * (size / unit)) = below_same block (capacity columns) (length columns * (unit * (size / unit))) inside (ap (λ (n : ℕ). length columns * n) units) in
        let row = row_below unit (length columns) (size / unit) block parts.unit_some parts.some lt in
        less_same (sector_of unit columns block) (block / unit / length columns * unit + block % unit) (unit * (size / unit)) size at row (sym units)
  ]

  pub sector_inside : sector_of unit columns block < column_length (column_at columns (column_of unit columns block))
  sector_inside =
      let same = (column_is_one unit columns (column_of unit columns block) parts column_inside).0 in
      less_same (sector_of unit columns block) (sector_of unit columns block) (column_length (column_at columns 0)) (column_length (column_at columns (column_of unit columns block))) refl sector_below (sym same)
