-- A number is decimal digits without a leading zero.
use Rattle.std.specs.Prelude.{ℕ, ◌+◌, ◌-◌, ◌*◌, ◌^◌, ◌==◌, ◌&&◌, ◌||◌, not, nat_lt, Bool, true, false, List, [], ◌∷◌}
use Rattle.std.specs.List.{list_all}
use Rattle.vx_names.specs.Form.{is_within}

abbrev pub is_digit : ℕ → Bool
is_digit b = is_within 48 57 b

abbrev pub is_empty : List ℕ → Bool
is_empty [] = true
is_empty (b ∷ bs) = false

-- one digit or more, and the first is `0` only where it stands alone
abbrev pub is_numeral : List ℕ → Bool
is_numeral [] = false
is_numeral (d ∷ ds) = is_digit d && list_all is_digit ds && (is_empty ds || not (d == 48))

-- what digits say behind those that say so much
abbrev pub digits_on : ℕ → List ℕ → ℕ
digits_on n [] = n
digits_on n (d ∷ ds) = digits_on (10 * n + (d - 48)) ds

-- what digits say
abbrev pub digits_value : List ℕ → ℕ
digits_value ds = digits_on 0 ds

-- a number below 2^40
abbrev pub is_number : List ℕ → Bool
is_number word = is_numeral word && nat_lt (digits_value word) (2 ^ 40)
