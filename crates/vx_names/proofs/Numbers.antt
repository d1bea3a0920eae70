-- Digits and the number that they say.
use Rattle.std.specs.Prelude.{decimal, ◌&&◌, ◌||◌, ◌==◌, not}
use Rattle.std.proofs.Common.{◌≡◌, ℕ, zero, suc, ◌+◌, ◌-◌, ◌*◌, ◌^◌, ◌<◌, ◌≤◌, true, List, [], ◌∷◌, ◌++◌, length, get_or, refl, sym, subst, arith, rules}
use Rattle.std.specs.List.{list_all}
use Rattle.std.proofs.lemmas.Bool.{and_parts, and_from, or_left, or_right, lt-ltb, false≢true}
use Rattle.std.proofs.lemmas.Fmt.{digits_decimal, digits_value-decimal, decimal-digits_value, decimal_nonempty, first_decimal, decimal_digit, length-decimal-le}
use Rattle.std.proofs.lemmas.Str.Parse.{IsNumeralModel, numerals_by_fold}
use Rattle.vx_names.specs.Form.{is_name, is_name_byte, is_letter_or_digit}
use Rattle.vx_names.specs.Number.{is_digit, is_empty, is_numeral, is_number, digits_on, digits_value}
use Rattle.vx_names.proofs.Names.{name_from}

own : IsNumeralModel (λ ds. list_all is_digit ds ≡ true) (digits_on 0)
own = numerals_by_fold _ (search rules) digits_on (search rules)

pub digits_on-push : (n : ℕ) (ds : List ℕ) (d : ℕ) → digits_on n (ds ++ d ∷ []) ≡ 10 * digits_on n ds + (d - 48)
digits_on-push n [] d = refl
digits_on-push n (c ∷ cs) d = digits_on-push (10 * n + (c - 48)) cs d

-- the parts of a numeral
pub record HasNumeralParts (w : List ℕ) : Type 0 where
  pub digits : list_all is_digit w ≡ true
  pub some : 0 < length w
  pub leading : get_or w 0 0 ≡ 48 → length w ≡ 1

alone : (d : ℕ) (ds : List ℕ) → (is_empty ds || not (d == 48)) ≡ true → d ≡ 48 → length (d ∷ ds) ≡ 1
alone d [] h e = refl
alone d (c ∷ cs) h e = absurd (false≢true (subst (λ (x : ℕ). not (x == 48) ≡ true) e h))

pub numeral_parts : (w : List ℕ) → is_numeral w ≡ true → HasNumeralParts w
numeral_parts [] h = absurd (false≢true h)
numeral_parts (d ∷ ds) h =
    let parts = and_parts (is_digit d && list_all is_digit ds) (is_empty ds || not (d == 48)) h in
    record { digits = parts.0; some = omega arith; leading = alone d ds parts.1 }

-- a numeral is the decimal text of what it says
pub numeral_spelled : (w : List ℕ) → is_numeral w ≡ true → digits_value w < 2 ^ 64 → w ≡ decimal (digits_value w)
numeral_spelled w h small =
    let parts = numeral_parts w h in
    sym (decimal-digits_value own w parts.digits parts.some parts.leading small)

not_zero_first : (w : List ℕ) → 48 < get_or w 0 0 → list_all is_digit w ≡ true → is_numeral w ≡ true
not_zero_first [] lt h = absurd (omega arith)
not_zero_first (d ∷ ds) lt h = and_from _ _ h (or_right (is_empty ds) (not (d == 48)) (grind arith))

pub decimal_numeral : (n : ℕ) → n < 2 ^ 64 → is_numeral (decimal n) ≡ true
decimal_numeral zero small = subst (λ (w : List ℕ). is_numeral w ≡ true) (sym (decimal_digit 0 (omega arith))) refl
decimal_numeral (suc n) small = not_zero_first (decimal (suc n)) (first_decimal (suc n) (omega arith) small) (digits_decimal own (suc n) small)

pub decimal_value : (n : ℕ) → n < 2 ^ 64 → digits_value (decimal n) ≡ n
decimal_value n small = digits_value-decimal own n small

-- what is printed of a number below 2^40 is a number
pub decimal_number : (n : ℕ) → n < 2 ^ 40 → is_number (decimal n) ≡ true
decimal_number n small =
    let fits : n < 2 ^ 64 = omega arith in
    and_from _ _ (decimal_numeral n fits) (lt-ltb (digits_value (decimal n)) (2 ^ 40) (omega (arith, decimal_value n fits)))

pub decimal_short : (n : ℕ) → n < 2 ^ 64 → length (decimal n) ≤ 31
decimal_short n small = omega (arith, length-decimal-le 20 n (omega arith) (omega arith) small)

digit_is_name_byte : (b : ℕ) → is_digit b ≡ true → is_letter_or_digit b ≡ true
digit_is_name_byte b h = or_left _ _ (or_left _ _ h)

digits_are_name_bytes : (w : List ℕ) → list_all is_digit w ≡ true → list_all is_name_byte w ≡ true
digits_are_name_bytes [] h = refl
digits_are_name_bytes (b ∷ bs) h =
    let parts = and_parts (is_digit b) (list_all is_digit bs) h in
    and_from _ _ (or_left _ _ (or_left _ _ (or_left _ _ (digit_is_name_byte b parts.0)))) (digits_are_name_bytes bs parts.1)

digits_name : (w : List ℕ) → list_all is_digit w ≡ true → 0 < length w → length w ≤ 31 → is_name w ≡ true
digits_name [] h some short = absurd (omega arith)
digits_name (b ∷ bs) h some short = name_from (b ∷ bs) (digit_is_name_byte b (and_parts (is_digit b) (list_all is_digit bs) h).0) short (digits_are_name_bytes (b ∷ bs) h)

-- a number is a name too
pub decimal_name : (n : ℕ) → n < 2 ^ 64 → is_name (decimal n) ≡ true
decimal_name n small = digits_name (decimal n) (digits_decimal own n small) (decimal_nonempty n small) (decimal_short n small)
