-- The fields that a sector of 512 bytes is made of.
use Rattle.std.specs.Prelude.{◌≡◌, ◌≢◌, ℕ, ◌<◌, List, length, take, replicate, slice_index}
use Rattle.std.specs.Int.{w32, w64, to_be_bytes}

-- so many zero bytes
unfoldable pub zeros : ℕ → List ℕ
zeros n = replicate n 0

-- a number in eight bytes, the highest first
unfoldable pub eight_bytes : ℕ → List ℕ
eight_bytes n = to_be_bytes w64 n

-- a number in four bytes, the highest first
unfoldable pub four_bytes : ℕ → List ℕ
four_bytes n = to_be_bytes w32 n

-- the lists agree up to this place, and not there
pub record IsFirstDifference (xs ys : List ℕ) (k : ℕ) : Type 0 where
  pub inside : k < length xs
  pub before : take k xs ≡ take k ys
  pub here : slice_index xs k ≢ slice_index ys k
