-- What one read takes from a source.
use Rattle.std.specs.Prelude.{◌≡◌, ℕ, ◌+◌, List, [], ◌++◌, length, Option, Some}

-- n bytes went from the source behind those that were read before; at 0 the source is at its end
pub record HasTaken (left left' : Option (List ℕ)) (all all' : List ℕ) (n : ℕ) : Type 0 where
  pub told : (bytes : List ℕ) → left ≡ Some bytes → (rest : List ℕ) × (left' ≡ Some rest) × (all ++ bytes ≡ all' ++ rest)
  pub ends : n ≡ 0 → (bytes : List ℕ) → left ≡ Some bytes → (left' ≡ Some []) × (bytes ≡ [])
  pub longer : length all' ≡ length all + n
