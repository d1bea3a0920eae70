-- The values that a block may hold.
use Rattle.std.specs.Prelude.{◌≡◌, ◌⊎◌, ◌<◌, ℕ, List, [], ◌∷◌}
use Rattle.vx_base.specs.Blocks.{Contents}

-- any value, as of an open block, or one of these
pub data Values : Type 0 where
  Any : Values
  OneOf : (values : List (List ℕ)) → Values

-- the value stands in the list
abbrev pub IsListed : List (List ℕ) → List ℕ → Type 0
IsListed [] value = ⊥
IsListed (v ∷ vs) value = (value ≡ v) ⊎ IsListed vs value

abbrev pub IsAmong : Values → List ℕ → Type 0
IsAmong Any value = Unit {0}
IsAmong (OneOf values) value = IsListed values value

-- these values, and this one beside
abbrev pub or_also : List ℕ → Values → Values
or_also value Any = Any
or_also value (OneOf values) = OneOf (value ∷ values)

-- what each block of a volume may hold
abbrev pub Candidates : Type 0
Candidates = ℕ → Values

-- each of the first n blocks is among its candidates
abbrev pub IsChosen : ℕ → Candidates → Contents → Type 0
IsChosen n candidates contents = (k : ℕ) → k < n → IsAmong (candidates k) (contents k)

-- the contents are known: each block has one candidate
abbrev pub known : Contents → Candidates
known contents k = OneOf (contents k ∷ [])
