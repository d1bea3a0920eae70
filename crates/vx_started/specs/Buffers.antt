-- What a buffer of whole blocks holds of a range.
use Rattle.std.specs.Prelude.{◌≡◌, ℕ, ◌+◌, ◌<◌, ◌-◌, ◌++◌, length, take, drop, List, Option, Some, None}
use Rattle.vx_base.specs.Blocks.{Contents, block_at}

-- the first blocks of the buffer are those of the contents from a block on; what is not told says nothing
abbrev pub HoldsFirst : List ℕ → Option Contents → ℕ → ℕ → Type 0
HoldsFirst buffer None start blocks = Unit {0}
HoldsFirst buffer (Some contents) start blocks = (k : ℕ) → k < blocks → block_at buffer k ≡ contents (start + k)

-- between these places the buffer has other bytes, and all others stay
abbrev pub HasBetween : ℕ → ℕ → List ℕ → List ℕ → (List ℕ → Type 0) → Type 0
HasBetween from to old new Fits = (bytes : List ℕ) × (length bytes ≡ to - from) × (new ≡ take from old ++ bytes ++ drop to old) × Fits bytes
