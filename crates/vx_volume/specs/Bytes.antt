-- The bytes of a whole map.
use Rattle.std.specs.Prelude.{ℕ, ◌/◌, ◌%◌, Bool, List, slice_index_or}
use Rattle.vx_mask.specs.Mask.{has}

-- the bit of a region; behind the last byte there is none
abbrev pub map_bit : List ℕ → ℕ → Bool
map_bit bytes region = has (slice_index_or bytes (region / 8) 0) (region % 8)
