-- A block by its column and the sector of the column, and back.
use Rattle.std.proofs.Common.{◌≡◌, ℕ, ◌+◌, ◌*◌, ◌/◌, ◌%◌, ◌<◌, ◌≤◌, ◌^◌, true, false, List, length, Option, Some, None, arith, refl, sym, ◌∙◌, ap, inl, inr, eqb, subst}
use Rattle.std.specs.Prelude.{is_some, IfSome, IfNone, ◌==◌}
use Rattle.std.proofs.Math.Nat.{mul_comm, mul_assoc, div-lt_iff_lt-mul}
use Rattle.std.proofs.lemmas.Bool.{cases_eq, cond-true, cond-false, eq-eqb, ne_eqb, or_cases, eqb-true, both_ways}
use Rattle.std.proofs.lemmas.Nat.{div-mul-add, mod-mul-add, mul-add-lt, mul-le}
use Rattle.vx_layout.specs.declared.strip.Strip.{Strip}
use Rattle.vx_layout.specs.declared.place.Place.{Place}
use Rattle.vx_layout.specs.Columns.{column_length, column_at, capacity, column_of, sector_of, place_in, place_of, block_number, sector_at}
use Rattle.vx_layout.proofs.ColumnLemmas.{rows}
use Rattle.vx_layout.proofs.InverseLemmas.{lies_from_place, found_lies, IsFound, same_sector, something_found}
use Rattle.vx_layout.proofs.PlaceLemmas.{column_inside, sector_inside}
use Rattle.vx_layout.proofs.ValidLemmas.{Parts, column_is_one}

-- a product is no less than its factor
pub no_less : (z unit : ℕ) → 0 < unit → z ≤ z * unit
no_less z unit some = let times : z * 1 ≤ z * unit = mul-le z 1 z unit (omega arith) (omega arith) in omega arith

below_same : (a b c : ℕ) → a < b → b ≡ c → a < c
below_same a b c lt e = omega arith

less_same : (a b c d : ℕ) → a ≡ b → b < c → c ≡ d → a < d
less_same a b c d e lt f = omega arith

at_least : (a b r n : ℕ) → a ≤ b → n ≡ b + r → a ≤ n
at_least a b r n le e = omega arith

module _ (unit : ℕ) (columns : List (List Strip)) (parts : Parts unit columns) where
  -- the number of the block that is at the column and the sector of a block
  pub number_again : (block : ℕ) → block_number unit columns (column_of unit columns block) (sector_of unit columns block) ≡ block
  number_again block = elim (cases_eq (length columns) 1) [
    | inl one ↦ let yes' : eqb (length columns) 1 ≡ true = eq-eqb (length columns) 1 one in cond-true _ _ _ yes' ∙ cond-true _ _ _ yes'
    | inr several ↦
        let n : ℕ = length columns in
        let no' : eqb (length columns) 1 ≡ false = ne_eqb (length columns) 1 several in
        let low : block % unit < unit = omega (arith, parts.unit_some) in
        let column : column_of unit columns block ≡ block / unit % n = cond-false _ _ _ no' in
        let sector : sector_of unit columns block ≡ block / unit / n * unit + block % unit = cond-false _ _ _ no' in
        let row : sector_of unit columns block / unit ≡ block / unit / n = ap (λ (s : ℕ). s / unit) sector ∙ div-mul-add (block / unit / n) unit (block % unit) low in
        let rest : sector_of unit columns block % unit ≡ block % unit = ap (λ (s : ℕ). s % unit) sector ∙ mod-mul-add (block / unit / n) unit (block % unit) low in
        cond-false _ _ _ no'
        ∙ ap (λ (q : ℕ). (q * n + column_of unit columns block) * unit + sector_of unit columns block % unit) row
        ∙ ap (λ (k : ℕ). (block / unit / n * n + k) * unit + sector_of unit columns block % unit) column
        ∙ ap (λ (r : ℕ). (block / unit / n * n + block / unit % n) * unit + r) rest
        ∙ ap (λ (u : ℕ). u * unit + block % unit) (sym (rows n (block / unit) parts.some))
        ∙ sym (rows unit block parts.unit_some)
  ]

  -- the column and the sector of that block
  pub column_again : (k sector : ℕ) → k < length columns → column_of unit columns (block_number unit columns k sector) ≡ k
  column_again k sector lt = elim (cases_eq (length columns) 1) [
    | inl one ↦ cond-true _ _ _ (eq-eqb (length columns) 1 one) ∙ omega (arith, one)
    | inr several ↦
        let n : ℕ = length columns in
        let no' : eqb (length columns) 1 ≡ false = ne_eqb (length columns) 1 several in
        let low : sector % unit < unit = omega (arith, parts.unit_some) in
        let number : block_number unit columns k sector ≡ (sector / unit * n + k) * unit + sector % unit = cond-false _ _ _ no' in
        cond-false _ _ _ no' ∙ ap (λ (b : ℕ). b / unit % n) number ∙ ap (λ (u : ℕ). u % n) (div-mul-add (sector / unit * n + k) unit (sector % unit) low) ∙ mod-mul-add (sector / unit) n k lt
  ]

  pub sector_again : (k sector : ℕ) → k < length columns → sector_of unit columns (block_number unit columns k sector) ≡ sector
  sector_again k sector lt = elim (cases_eq (length columns) 1) [
    | inl one ↦ let yes' : eqb (length columns) 1 ≡ true = eq-eqb (length columns) 1 one in cond-true _ _ _ yes' ∙ cond-true _ _ _ yes'
    | inr several ↦
        let n : ℕ = length columns in
        let no' : eqb (length columns) 1 ≡ false = ne_eqb (length columns) 1 several in
        let low : sector % unit < unit = omega (arith, parts.unit_some) in
        let number : block_number unit columns k sector ≡ (sector / unit * n + k) * unit + sector % unit = cond-false _ _ _ no' in
        cond-false _ _ _ no' ∙ ap (λ (b : ℕ). b / unit / n * unit + b % unit) number
        ∙ ap (λ (u : ℕ). u / n * unit + ((sector / unit * n + k) * unit + sector % unit) % unit) (div-mul-add (sector / unit * n + k) unit (sector % unit) low)
        ∙ ap (λ (q : ℕ). q * unit + ((sector / unit * n + k) * unit + sector % unit) % unit) (div-mul-add (sector / unit) n k lt)
        ∙ ap (λ (r : ℕ). sector / unit * unit + r) (mod-mul-add (sector / unit * n + k) unit (sector % unit) low)
        ∙ sym (rows unit sector parts.unit_some)
  ]

  number_below : (k sector : ℕ) → k < length columns → sector < column_length (column_at columns 0) → block_number unit columns k sector < capacity columns
  number_below k sector lt below = elim (cases_eq (length columns) 1) [
    | inl one ↦
        let at : block_number unit columns k sector ≡ sector = cond-true _ _ _ (eq-eqb (length columns) 1 one) in
        let size : capacity columns ≡ 1 * column_length (column_at columns 0) = ap (λ (n : ℕ). n * column_length (column_at columns 0)) one in
        omega (arith, at, size, below)
    | inr several ↦
        let n : ℕ = length columns in
        let size : ℕ = column_length (column_at columns 0) in
        let number : block_number unit columns k sector ≡ (sector / unit * n + k) * unit + sector % unit = cond-false _ _ _ (ne_eqb (length columns) 1 several) in
        let whole : size % unit ≡ 0 = elim (or_cases (length columns == 1) (size % unit == 0) parts.whole) [
          | inl one ↦ absurd (several (eqb-true (length columns) 1 one))
          | inr even ↦ eqb-true (size % unit) 0 even
        ] in
        let units : size ≡ size / unit * unit = rows unit size parts.unit_some ∙ ap (λ (r : ℕ). size / unit * unit + r) whole ∙ omega arith in
        let row : sector / unit < size / unit = (div-lt_iff_lt-mul {k = unit} {x = sector} {y = size / unit} parts.unit_some).1 (below_same sector size (size / unit * unit) below units) in
        let rows' : sector / unit * n + k < n * (size / unit) = mul-add-lt (sector / unit) n k (size / unit) row lt in
        let inside : (sector / unit * n + k) * unit + sector % unit < unit * (n * (size / unit)) = mul-add-lt (sector / unit * n + k) unit (sector % unit) (n * (size / unit)) rows' (omega (arith, parts.unit_some)) in
        let total : unit * (n * (size / unit)) ≡ capacity columns =
        mul_comm unit (n * (size / unit)) ∙ mul_assoc n (size / unit) unit ∙ ap (λ (m : ℕ). n * m) (sym units) in
        less_same (block_number unit columns k sector) ((sector / unit * n + k) * unit + sector % unit) (unit * (n * (size / unit))) (capacity columns) number inside total
  ]

  found_below : (k sector : ℕ) (place : Place) → k < length columns → sector_at (column_at columns k) place ≡ Some sector →
      (sector < column_length (column_at columns 0)) × (place_in (column_at columns k) sector ≡ Some place)
  found_below k sector place lt e =
      let Found : Option ℕ → Type 0 = λ o. IsFound (column_at columns k) place o in
      let found : IsFound (column_at columns k) place (Some sector) = subst Found e (found_lies (column_at columns k) place) in
      let same = (column_is_one unit columns k parts lt).0 in
      (below_same sector (column_length (column_at columns k)) (column_length (column_at columns 0)) found.0 same, found.1)

  -- the block that was found lies there
  pub number_lies : (k sector : ℕ) (place : Place) → k < length columns → sector_at (column_at columns k) place ≡ Some sector → (o : Option ℕ) →
      IfSome o (λ b. b ≡ block_number unit columns k sector) → IfSome o (λ b. (b < capacity columns) × (place_of unit columns b ≡ Some place))
  number_lies k sector place lt e None is = tt
  number_lies k sector place lt e (Some b) is =
      let found = found_below k sector place lt e in (
        less_same b (block_number unit columns k sector) (capacity columns) (capacity columns) is (number_below k sector lt found.0) refl,
        ap (place_of unit columns) is
            ∙ ap (λ (c : ℕ). place_in (column_at columns c) (sector_of unit columns (block_number unit columns k sector))) (column_again k sector lt)
            ∙ ap (place_in (column_at columns k)) (sector_again k sector lt) ∙ found.1,
      )

  -- and no other does
  pub number_alone : (k sector : ℕ) (place : Place) (block : ℕ) → k < length columns → sector_at (column_at columns k) place ≡ Some sector →
      block < capacity columns → place_of unit columns block ≡ Some place → block_number unit columns k sector ≡ block
  number_alone k sector place block lt e inside at =
      let found = found_below k sector place lt e in
      let lt' : column_of unit columns block < length columns = column_inside unit columns block parts inside in
      let below' : sector_of unit columns block < column_length (column_at columns 0) =
      below_same (sector_of unit columns block) _ _ (sector_inside unit columns block parts inside) (column_is_one unit columns (column_of unit columns block) parts lt').0 in
      let same = same_sector (column_length (column_at columns 0)) columns k (column_of unit columns block) sector (sector_of unit columns block) place parts.each parts.apart lt lt' found.0 below'
      (lies_from_place (column_at columns k) sector place found.1) (lies_from_place (column_at columns (column_of unit columns block)) (sector_of unit columns block) place at) in
      ap (λ (c : ℕ). block_number unit columns c sector) same.0 ∙ ap (block_number unit columns (column_of unit columns block)) same.1 ∙ number_again block

  pub never_nothing : (place : Place) (block : ℕ) → block < capacity columns → place_of unit columns block ≡ Some place →
      ((k : ℕ) → k < length columns → sector_at (column_at columns k) place ≡ None) → ⊥
  never_nothing place block inside at none =
      let lies = lies_from_place (column_at columns (column_of unit columns block)) (sector_of unit columns block) place at in
      let o : Option ℕ = sector_at (column_at columns (column_of unit columns block)) place in
      both_ways (is_some o) (ap is_some (none (column_of unit columns block) (column_inside unit columns block parts inside)))
      (something_found (column_at columns (column_of unit columns block)) (sector_of unit columns block) place lies)

  pub large_number : (k sector : ℕ) → (length columns ≡ 1 → ⊥) → sector / unit * length columns + k ≤ block_number unit columns k sector
  large_number k sector several =
      let number : block_number unit columns k sector ≡ (sector / unit * length columns + k) * unit + sector % unit = cond-false _ _ _ (ne_eqb (length columns) 1 several) in
      let less : sector / unit * length columns + k ≤ (sector / unit * length columns + k) * unit = no_less (sector / unit * length columns + k) unit parts.unit_some in
      at_least (sector / unit * length columns + k) ((sector / unit * length columns + k) * unit) (sector % unit) (block_number unit columns k sector) less number

pub result_is : (o : Option ℕ) (n b : ℕ) → IfSome o (λ x. x ≡ n) → IfNone o (2 ^ 64 ≤ n) → n ≡ b → b < 2 ^ 64 → o ≡ Some b
result_is None n b is large e lt = absurd (omega (arith, large))
result_is (Some x) n b is large e lt = ap (λ (y : ℕ). Some y) (is ∙ e)

pub if_none : (o : Option ℕ) (Q : Type 0) → Q → IfNone o Q
if_none None Q q = q
if_none (Some x) Q q = tt
