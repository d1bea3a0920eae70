-- What a value of a line is.
use Rattle.std.specs.Prelude.{ℕ, ◌^◌, nat_lt, if◌then◌else◌, Option, Some, None, List, ◌∷◌}
use Rattle.vx_script_words.specs.declared.value.Value.{Value}
use Rattle.vx_script_words.specs.declared.value.Value.TheVariants.{Nothing, Named, Number}

-- a number
abbrev pub numbered : Value → Option ℕ
numbered (Number n) = Some n
numbered v = None

-- a name that may be left out: None where it is not there, and nothing where the value is of another sort
abbrev pub maybe_named : Value → Option (Option (List ℕ))
maybe_named Nothing = Some None
maybe_named (Named name) = Some (Some name)
maybe_named v = None

-- a number that may be left out
abbrev pub maybe_numbered : Value → Option (Option ℕ)
maybe_numbered Nothing = Some None
maybe_numbered (Number n) = Some (Some n)
maybe_numbered v = None

-- a number below a limit
abbrev pub below : ℕ → Option ℕ → Option ℕ
below limit None = None
below limit (Some n) = if nat_lt n limit then Some n else None

-- a number below a limit that may be left out
abbrev pub maybe_below : ℕ → Option (Option ℕ) → Option (Option ℕ)
maybe_below limit None = None
maybe_below limit (Some None) = Some None
maybe_below limit (Some (Some n)) = if nat_lt n limit then Some (Some n) else None

-- a number of 32 bits
abbrev pub small : Value → Option ℕ
small v = below (2 ^ 32) (numbered v)

-- a number of 8 bits
abbrev pub byte : Value → Option ℕ
byte v = below (2 ^ 8) (numbered v)

-- a number of 32 bits that may be left out
abbrev pub maybe_small : Value → Option (Option ℕ)
maybe_small v = maybe_below (2 ^ 32) (maybe_numbered v)

-- the word after `-g`, which is the second value
abbrev pub group_of : List Value → Option (Option (List ℕ))
group_of (_ ∷ word ∷ _) = maybe_named word
group_of values = None
