-- Sets of maps, as masks of 64 bits: map k is in a mask where its bit k is 1.
use Rattle.std.specs.Prelude.{ℕ, ◌==◌, ◌^◌, nat_lt, Bool, bit_and, bit_or, bit_xor, if◌then◌else◌}
use Rattle.std.specs.Int.{bit_at, trailing_zeros, w64}

-- whether map k is in the mask
unfoldable pub has : ℕ → ℕ → Bool
has mask k = bit_at mask k == 1

-- map k alone
unfoldable pub only : ℕ → ℕ
only k = if nat_lt k 64 then 2 ^ k else 0

-- the maps of both
unfoldable pub union : ℕ → ℕ → ℕ
union a b = bit_or a b

-- the maps of a that are not in b
unfoldable pub without : ℕ → ℕ → ℕ
without a b = bit_and a (bit_xor a b)

-- the lowest map
unfoldable pub lowest : ℕ → ℕ
lowest mask = trailing_zeros w64 mask

-- what a mask has above its lowest map
abbrev pub above_lowest : ℕ → ℕ
above_lowest mask = without mask (only (lowest mask))
