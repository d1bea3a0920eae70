-- Bytes seen as blocks of 512 bytes.
use Rattle.std.specs.Prelude.{◌≡◌, ◌⊎◌, ℕ, ◌+◌, ◌-◌, ◌*◌, ◌/◌, ◌<◌, ◌&&◌, nat_lt, nat_le, Bool, if◌then◌else◌, List, length, take, drop}

-- the block at an index; past the end it is short or empty
abbrev pub block_at : List ℕ → ℕ → List ℕ
block_at bytes k = take 512 (drop (512 * k) bytes)

-- how many blocks there are
abbrev pub blocks_in : List ℕ → ℕ
blocks_in bytes = length bytes / 512

-- what a device or a volume holds: the block at each index
abbrev pub Contents : Type 0
Contents = ℕ → List ℕ

-- the index lies in the range
abbrev pub is_in : ℕ → ℕ → ℕ → Bool
is_in start count k = nat_le start k && nat_lt k (start + count)

-- the contents with these bytes written from a block on
abbrev pub written : ℕ → List ℕ → Contents → Contents
written at bytes old k = if is_in at (blocks_in bytes) k then block_at bytes (k - at) else old k

-- each block is the old one, or the one that a write would have put there
abbrev pub IsTorn : ℕ → List ℕ → Contents → Contents → Type 0
IsTorn at bytes old new = (k : ℕ) → (new k ≡ old k) ⊎ (new k ≡ written at bytes old k)

-- the bytes are the blocks from there on
abbrev pub AreBlocks : List ℕ → Contents → ℕ → Type 0
AreBlocks bytes contents at = (k : ℕ) → k < blocks_in bytes → block_at bytes k ≡ contents (at + k)
