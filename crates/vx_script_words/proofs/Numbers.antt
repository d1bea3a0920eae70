-- The numbers and lengths that are read are those of the definitions.
use Rattle.std.proofs.Common.{◌≡◌, ◌∙◌, sym, ap, refl, ℕ, zero, suc, ◌*◌, ◌^◌, ◌<◌, ◌≤◌, ◌↔◌, true, IfSome, IsSome, Option, Some, None, List, take, drop, arith, leb, le-leb, inl, inr, decimal}
use Rattle.std.specs.Prelude.{◌&&◌}
use Rattle.std.proofs.lemmas.Bool.{and_from, cases_Bool, cond-true, cond-false}
use Rattle.std.proofs.lemmas.Option.{cond_some}
use Rattle.vx_names.specs.Length.{Measures, numeral_front, unit_sectors}
use Rattle.vx_names.specs.Number.{digits_value, is_number, is_numeral}
use Rattle.vx_names.proofs.Lengths.{measured_parts, measures_parts}
use Rattle.vx_names.proofs.Numbers.{decimal_value}
use Rattle.vx_script_words.specs.Number.{number_of, within, length_of}
use Rattle.vx_script_words.proofs.Sorts.{held, within_ok}

pub number_is : (r : Option ℕ) (word : List ℕ) → (IsSome r ↔ (is_number word ≡ true)) → IfSome r (λ n. word ≡ decimal n) → IfSome r (λ n. n < 2 ^ 40) → r ≡ number_of word
number_is None word form spelled below = elim (cases_Bool (is_number word)) [
  | inl t ↦ let there = form.1 t in absurd cc
  | inr f ↦ sym (cond-false _ _ _ f)
]
number_is (Some n) word form spelled below =
    let value : digits_value word ≡ n = ap digits_value spelled ∙ decimal_value n (omega arith) in
    sym (cond-true _ _ _ (form.0 refl) ∙ ap (λ (m : ℕ). Some m) value)

pub length_is : (word : List ℕ) (sectors : ℕ) → Measures word sectors → length_of word ≡ Some sectors
length_is word sectors m =
    let k = numeral_front word in
    let p = measured_parts word (take k word) (drop k word) k (unit_sectors (drop k word)) sectors refl refl refl refl m in
    let some : 1 ≤ sectors = m.some in
    cond-true _ _ _ p.digits ∙ ap (λ (n : ℕ). within 1 (2 ^ 40) (Some n)) (sym p.value) ∙ cond-true _ _ _ (and_from _ _ (le-leb 1 sectors some) (le-leb sectors (2 ^ 40) m.most))

some_unit : (value each : ℕ) → 1 ≤ value * each → 0 < each
some_unit value zero h = absurd (omega arith)
some_unit value (suc each) h = omega arith

measured : (word : List ℕ) (sectors : ℕ) → length_of word ≡ Some sectors → Measures word sectors
measured word sectors e =
    let k = numeral_front word in
    let number = take k word in
    let unit = drop k word in
    let c = held (is_numeral number) (within 1 (2 ^ 40) (Some (digits_value number * unit_sectors unit))) sectors e in
    let d = cond_some (leb 1 (digits_value number * unit_sectors unit) && leb (digits_value number * unit_sectors unit) (2 ^ 40)) _ sectors c.1 in
    let w = within_ok 1 (2 ^ 40) sectors (Some (digits_value number * unit_sectors unit)) c.1 in
    let some : 1 ≤ digits_value number * unit_sectors unit = omega (arith, d.1, w.0) in
    measures_parts word number unit k (unit_sectors unit) sectors refl refl refl c.0 (some_unit _ _ some) (sym d.1) w.0 w.1

pub no_length : (word : List ℕ) → ((sectors : ℕ) → Measures word sectors → ⊥) → length_of word ≡ None
no_length word none = by_value (length_of word) (λ n e. none n (measured word n e))
  where
    by_value : (o : Option ℕ) → ((n : ℕ) → o ≡ Some n → ⊥) → o ≡ None
    by_value None h = refl
    by_value (Some n) h = absurd (h n refl)
