-- How many sectors a call hands to a piece.
use Rattle.std.specs.Prelude.{◌≡◌, ℕ, zero, suc, ◌+◌, ◌≤◌, Result, Ok, Err}
use Rattle.vx_base.specs.Counts.{later_count}
use Rattle.vx_piece.specs.Seen.{Seen}
use Rattle.vx_marks.specs.declared.marker.MarkFault.{MarkFault}

-- the count after so many sectors more, one at a time
abbrev pub with_more : ℕ → ℕ → ℕ
with_more zero count = count
with_more (suc n) count = later_count (with_more n count) 1

-- at Ok just so many sectors were counted, and after a fault at most so many
abbrev pub AreCounted : {T : Type 0} → ℕ → Result T MarkFault → ℕ → ℕ → Type 0
AreCounted n (Ok u) old new = new ≡ with_more n old
AreCounted n (Err fault) old new = new ≤ old + n

-- so many sectors of the piece were handed to writes, and none to a read
pub record Hands {T : Type 0} (n : ℕ) (result : Result T MarkFault) (old new : Seen) : Type 0 where
  pub writes : AreCounted n result old.writes new.writes
  pub reads : new.reads ≡ old.reads
