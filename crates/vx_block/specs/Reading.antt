-- What is a word of a block, and which block it spells.
use Rattle.std.specs.Prelude.{ℕ, ◌+◌, ◌-◌, ◌*◌, ◌<◌, ◌==◌, Bool, ◌&&◌, ◌||◌, nat_le, nat_lt, if◌then◌else◌, slice_index, List, [], ◌∷◌, length, drop, replicate}
use Rattle.std.specs.List.{list_all}

-- `0` to `9`, `a` to `f`
abbrev pub is_hex_digit : ℕ → Bool
is_hex_digit c = nat_le 48 c && nat_le c 57 || nat_le 97 c && nat_le c 102

abbrev pub digit_value : ℕ → ℕ
digit_value c = if nat_lt c 58 then c - 48 else c - 87

abbrev pub byte_value : ℕ → ℕ → ℕ
byte_value high low = 16 * digit_value high + digit_value low

-- a byte for every two digits
abbrev pub bytes_of : List ℕ → List ℕ
bytes_of [] = []
bytes_of (high ∷ []) = []
bytes_of (high ∷ low ∷ rest) = byte_value high low ∷ bytes_of rest

-- `=XX`
abbrev pub is_short_word : List ℕ → Bool
is_short_word word = length word == 3 && slice_index word 0 == 61 && list_all is_hex_digit (drop 1 word)

-- two digits for each of 512 bytes
abbrev pub is_long_word : List ℕ → Bool
is_long_word word = length word == 1024 && list_all is_hex_digit word

abbrev pub is_block_word : List ℕ → Bool
is_block_word word = is_short_word word || is_long_word word

-- the block that such a word spells: 512 times the byte of `=XX`, or the bytes one by one
abbrev pub spelled_block : List ℕ → List ℕ
spelled_block word = if is_short_word word then replicate 512 (byte_value (slice_index word 1) (slice_index word 2)) else bytes_of word

-- each is a byte
abbrev pub AreBytes : List ℕ → Type 0
AreBytes bytes = (k : ℕ) → slice_index bytes k < 256
