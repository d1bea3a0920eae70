-- How one try to take a text ends.
use Rattle.std.specs.Prelude.{ℕ, ◌+◌, ◌<◌, ◌≤◌, if◌then◌else◌, List, [], ◌∷◌, Option, Some, None}
use Rattle.vx_copies.specs.Lists.{Each}
use Rattle.vx_import.specs.Looks.{Looked, reads_with_text}
use Rattle.vx_import.specs.Choice.{TakenIs}
use Rattle.vx_import.specs.declared.choosing.Taken.{Taken}

-- how many devices can be read
abbrev pub readable_count : List Looked → ℕ
readable_count [] = 0
readable_count (f ∷ fs) = (if f.readable then 1 else 0) + readable_count fs

-- no more may be read of the device than before, with what was read since: its text was not read, or cannot be read again
abbrev pub IsSpent : Looked → Looked → Type 0
IsSpent old new = reads_with_text new ≤ reads_with_text old

-- something is taken, or one device less can be read, and no text that was read can be read again
abbrev pub TriesIs : Option Taken → List ℕ → List Looked → List Looked → Type 0
TriesIs (Some taken) buffer old new = TakenIs taken buffer new
TriesIs None buffer old new = (readable_count new < readable_count old) × Each IsSpent old new
