-- What contracts see of a piece, and what a call may change.
use Rattle.std.specs.Prelude.{◌≡◌, ℕ, ◌+◌, ◌/◌, ◌%◌, ◌^◌, ◌<◌, ◌≤◌, Bool, ◌||◌, IsTrue, if◌then◌else◌, List, [], Option, Some, None, IfSome, Result, Ok, Err, OnOk, IsErrOf}
use Rattle.vx_base.specs.Counts.{Rose, later_count}
use Rattle.vx_base.specs.Blocks.{Contents, blocks_in, written, IsTorn}
use Rattle.vx_piece.specs.Told.{front_told, back_told, joined_told}
use Rattle.vx_piece.specs.declared.piece.PieceFault.{PieceFault}
use Rattle.vx_piece.specs.declared.piece.PieceFault.TheVariants.{Failed, PowerLost}

pub record Seen : Type 0 where
  pub device : ℕ
  pub start : ℕ
  pub sectors : ℕ
  -- what the sectors hold, where the piece tells it
  pub told : Option Contents
  -- how often a call has failed
  pub faults : ℕ
  -- how many sectors were handed to `write` while there was power
  pub writes : ℕ
  -- how many sectors were handed to `read` while there was power
  pub reads : ℕ
  -- the power is gone
  pub cut : Bool
  -- when a power switch is to act
  pub stop : Option ℕ

-- nothing stands behind the last sector, where the piece tells what it holds
abbrev pub EndsThere : Seen → Type 0
EndsThere piece = IfSome piece.told (λ contents. (k : ℕ) → piece.sectors ≤ k → contents k ≡ [])

-- its counts are numbers of 64 bits
pub record AreCounts (piece : Seen) : Type 0 where
  pub faults : piece.faults < 2 ^ 64
  pub writes : piece.writes < 2 ^ 64
  pub reads : piece.reads < 2 ^ 64

-- the count of sectors after so many bytes were handed over; without power it stays
abbrev pub count_after : Bool → ℕ → List ℕ → ℕ
count_after cut count bytes = if cut then count else later_count count (blocks_in bytes)

-- a call on whole sectors, at least one, inside the piece
pub record IsInside (piece : Seen) (at bytes : ℕ) : Type 0 where
  pub some : 0 < bytes
  pub whole : bytes % 512 ≡ 0
  pub inside : at + bytes / 512 ≤ piece.sectors

-- what reads and writes keep; the count of faults never falls, and the power does not come back
pub record Keeps (old new : Seen) : Type 0 where
  pub device : new.device ≡ old.device
  pub start : new.start ≡ old.start
  pub sectors : new.sectors ≡ old.sectors
  pub stop : new.stop ≡ old.stop
  pub faults : old.faults ≤ new.faults
  pub cut : IsTrue old.cut → IsTrue new.cut

-- reads change no sector
pub record IsRead (old new : Seen) : Type 0 where
  pub told : new.told ≡ old.told
  pub writes : new.writes ≡ old.writes

-- the sectors of one read are counted
abbrev pub CountsRead : List ℕ → Seen → Seen → Type 0
CountsRead into old new = new.reads ≡ count_after old.cut old.reads into

-- all sectors of the range are new, or after a fault each of them is old or new; nothing else changes
abbrev pub Writes : {T E : Type 0} → ℕ → List ℕ → Option Contents → Option Contents → Result T E → Type 0
Writes at bytes None None result = Unit {0}
Writes at bytes None (Some new) result = ⊥
Writes at bytes (Some old) None result = ⊥
Writes at bytes (Some old) (Some new) (Ok u) = (k : ℕ) → new k ≡ written at bytes old k
Writes at bytes (Some old) (Some new) (Err e) = IsTorn at bytes old new

pub record IsWritten {T E : Type 0} (at : ℕ) (bytes : List ℕ) (old new : Seen) (result : Result T E) : Type 0 where
  pub told : Writes at bytes old.told new.told result
  pub writes : new.writes ≡ count_after old.cut old.writes bytes
  pub reads : new.reads ≡ old.reads

-- without power each call is answered so, and changes nothing
pub record IsOff {T : Type 0} (old new : Seen) (result : Result T PieceFault) : Type 0 where
  pub answer : IsErrOf result PowerLost
  pub told : new.told ≡ old.told

-- `Failed` comes only where the count rose, `PowerLost` only where the piece is cut, and an Ok call leaves the count
pub record HasCause {T : Type 0} (old new : Seen) (result : Result T PieceFault) : Type 0 where
  pub failed : IsErrOf result Failed → Rose old.faults new.faults
  pub cut : IsErrOf result PowerLost → IsTrue new.cut
  pub quiet : OnOk result (new.faults ≡ old.faults)

-- the part of the contents from a block on, so many blocks of it; what is not told stays so
abbrev pub IsPartTold : ℕ → ℕ → Option Contents → Option Contents → Type 0
IsPartTold from n None None = Unit {0}
IsPartTold from n None (Some part) = ⊥
IsPartTold from n (Some whole) None = ⊥
IsPartTold from n (Some whole) (Some part) = (k : ℕ) → k < n → part k ≡ whole (from + k)

pub record IsSplit (at : ℕ) (old first second : Seen) : Type 0 where
  pub devices : (first.device ≡ old.device) × (second.device ≡ old.device)
  pub starts : (first.start ≡ old.start) × (second.start ≡ old.start + at)
  pub sizes : (first.sectors ≡ at) × (second.sectors + at ≡ old.sectors)
  pub stops : (first.stop ≡ old.stop) × (second.stop ≡ old.stop)
  pub cuts : (first.cut ≡ old.cut) × (second.cut ≡ old.cut)
  pub faults : first.faults + second.faults ≡ old.faults
  pub writes : first.writes + second.writes ≡ old.writes
  pub reads : first.reads + second.reads ≡ old.reads
  pub front : first.told ≡ front_told at old.told
  pub back : second.told ≡ back_told at old.told

-- the second run begins where the first one ends
pub record IsNeighbour (first second : Seen) : Type 0 where
  pub device : second.device ≡ first.device
  pub start : second.start ≡ first.start + first.sectors

-- the contents of the first, and then those of the second; nothing is told where one of them tells nothing
abbrev pub JoinTold : ℕ → ℕ → Option Contents → Option Contents → Option Contents → Type 0
JoinTold n m None second joined = joined ≡ None
JoinTold n m (Some a) None joined = joined ≡ None
JoinTold n m (Some a) (Some b) None = ⊥
JoinTold n m (Some a) (Some b) (Some c) = ((k : ℕ) → k < n → c k ≡ a k) × ((k : ℕ) → k < m → c (n + k) ≡ b k)

pub record IsJoined (first second joined : Seen) : Type 0 where
  pub device : joined.device ≡ first.device
  pub start : joined.start ≡ first.start
  pub sectors : joined.sectors ≡ first.sectors + second.sectors
  pub stop : joined.stop ≡ first.stop
  pub cut : joined.cut ≡ (first.cut || second.cut)
  pub faults : joined.faults ≡ later_count first.faults second.faults
  pub writes : joined.writes ≡ later_count first.writes second.writes
  pub reads : joined.reads ≡ later_count first.reads second.reads
  pub told : joined.told ≡ joined_told first.sectors first.told second.told
