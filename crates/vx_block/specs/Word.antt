-- How a block is printed.
use Rattle.std.specs.Prelude.{ℕ, ◌+◌, ◌/◌, ◌%◌, ◌==◌, nat_lt, if◌then◌else◌, slice_index, List, [], ◌∷◌}
use Rattle.std.specs.List.{list_all, flat_map}

abbrev pub hex_digit : ℕ → ℕ
hex_digit d = if nat_lt d 10 then 48 + d else 87 + d

-- two lower-case hexadecimal digits
abbrev pub hex : ℕ → List ℕ
hex b = hex_digit (b / 16) ∷ hex_digit (b % 16) ∷ []

-- `=XX` where all bytes are equal, else two digits for each byte
abbrev pub block_word : List ℕ → List ℕ
block_word bs = if list_all (λ x. x == slice_index bs 0) bs then 61 ∷ hex (slice_index bs 0) else flat_map hex bs
