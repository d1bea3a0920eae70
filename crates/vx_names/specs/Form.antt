-- A name is 1 to 31 letters, digits, `_`, `-` and `.`, the first a letter or digit.
use Rattle.std.specs.Prelude.{ℕ, ◌==◌, ◌&&◌, ◌||◌, nat_le, Bool, false, List, [], ◌∷◌, length}
use Rattle.std.specs.List.{list_all}

abbrev pub is_within : ℕ → ℕ → ℕ → Bool
is_within low high b = nat_le low b && nat_le b high

abbrev pub is_letter_or_digit : ℕ → Bool
is_letter_or_digit b = is_within 48 57 b || is_within 65 90 b || is_within 97 122 b

abbrev pub is_name_byte : ℕ → Bool
is_name_byte b = is_letter_or_digit b || b == 95 || b == 45 || b == 46

abbrev pub begins_well : List ℕ → Bool
begins_well [] = false
begins_well (b ∷ bs) = is_letter_or_digit b

abbrev pub is_name : List ℕ → Bool
is_name bs = begins_well bs && nat_le (length bs) 31 && list_all is_name_byte bs

-- the word begins with the byte
abbrev pub begins_with : ℕ → List ℕ → Bool
begins_with b [] = false
begins_with b (c ∷ cs) = c == b
