-- What a call on a run does to one of its pieces. The piece begins at `start` of the run.
use Rattle.std.specs.Prelude.{◌≡◌, ◌⊎◌, ℕ, ◌+◌, ◌-◌, ◌/◌, ◌%◌, ◌^◌, ◌<◌, if◌then◌else◌, IsTrue, List, [], Option, Some, None, Result, Ok, Err}
use Rattle.vx_base.specs.Counts.{Rose}
use Rattle.vx_base.specs.Blocks.{Contents, block_at, blocks_in, is_in}
use Rattle.vx_piece.specs.Seen.{Seen, Keeps}
use Rattle.vx_piece.specs.declared.piece.PieceFault.{PieceFault}
use Rattle.vx_piece.specs.declared.piece.PieceFault.TheVariants.{Failed, PowerLost}

-- what is told, and nothing where nothing is told
abbrev pub told_or : Option Contents → Contents
told_or None k = []
told_or (Some contents) k = contents k

abbrev pub Tells : Option Contents → Type 0
Tells None = ⊥
Tells (Some contents) = Unit {0}

-- whole sectors, at least one, and no number of the run is too great
pub record IsPartRange (start at bytes : ℕ) (piece : Seen) : Type 0 where
  pub some : 0 < bytes
  pub whole : bytes % 512 ≡ 0
  pub starts : start + piece.sectors < 2 ^ 64
  pub ends : at + bytes / 512 < 2 ^ 64

-- the block of the run at k: of the bytes where they lie there, else this one
abbrev pub put_at : ℕ → List ℕ → ℕ → List ℕ → List ℕ
put_at at bytes k old = if is_in at (blocks_in bytes) k then block_at bytes (k - at) else old

-- `Failed` comes only where the count rose, `PowerLost` only where the piece is cut, and Ok leaves the count
abbrev pub PartHasCause : {T : Type 0} → Seen → Seen → Result T PieceFault → Type 0
PartHasCause old new (Ok u) = new.faults ≡ old.faults
PartHasCause old new (Err Failed) = Rose old.faults new.faults
PartHasCause old new (Err PowerLost) = IsTrue new.cut

-- each block is written, or after a fault is old or written
abbrev pub PartWrites : {T : Type 0} → ℕ → ℕ → List ℕ → Contents → Contents → Result T PieceFault → ℕ → Type 0
PartWrites start at bytes old new (Ok u) k = new k ≡ put_at at bytes (start + k) (old k)
PartWrites start at bytes old new (Err fault) k = (new k ≡ old k) ⊎ (new k ≡ put_at at bytes (start + k) (old k))

pub record IsPartWritten {T : Type 0} (start at : ℕ) (bytes : List ℕ) (old new : Seen) (result : Result T PieceFault) : Type 0 where
  pub kept : Keeps old new
  pub tells : Tells old.told → Tells new.told
  pub writes : Tells old.told → (k : ℕ) → k < old.sectors → PartWrites start at bytes (told_or old.told) (told_or new.told) result k
  pub cause : PartHasCause old new result

-- the blocks of the range that lie in the piece are what it tells, and the others stay
abbrev pub PartGives : {T : Type 0} → ℕ → ℕ → List ℕ → List ℕ → Seen → Result T PieceFault → Type 0
PartGives start at into into' piece (Ok u) =
    Tells piece.told → (k : ℕ) → k < blocks_in into' →
    block_at into' k ≡ (if is_in start piece.sectors (at + k) then told_or piece.told ((at + k) - start) else block_at into k)
PartGives start at into into' piece (Err fault) = Unit {0}

pub record IsPartRead {T : Type 0} (start at : ℕ) (into into' : List ℕ) (old new : Seen) (result : Result T PieceFault) : Type 0 where
  pub kept : Keeps old new
  pub told : new.told ≡ old.told
  pub writes : new.writes ≡ old.writes
  pub gives : PartGives start at into into' old result
  pub cause : PartHasCause old new result
