-- Bytes in lower-case hexadecimal digits, and the words of blocks.
use Rattle.std.specs.Prelude.{ℕ, ◌&&◌, if◌then◌else◌, Option, Some, None, List, [], ◌∷◌}
use Rattle.vx_block.specs.Reading.{byte_value, is_block_word, is_hex_digit, spelled_block}

-- the byte of two digits
abbrev pub byte_of : List ℕ → Option ℕ
byte_of [] = None
byte_of (a ∷ []) = None
byte_of (a ∷ b ∷ []) = if is_hex_digit a && is_hex_digit b then Some (byte_value a b) else None
byte_of (a ∷ b ∷ c ∷ ds) = None

-- `=XX` where all bytes of the block are equal, or 1,024 digits
unfoldable pub block_of : List ℕ → Option (List ℕ)
block_of word = if is_block_word word then Some (spelled_block word) else None
