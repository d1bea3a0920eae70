-- Calls that are made one after the other, up to the first that is not done.
use Rattle.std.specs.Prelude.{◌≡◌, ℕ, ◌<◌, zero, suc, Option, Some, None, Result, Ok, Err}
use Rattle.vx_cell.specs.declared.fault.CellFault.{CellFault}
use Rattle.vx_cell.specs.declared.fault.CellFault.TheVariants.{Fault, PowerLost, Held, Only}

-- the answer of a call as what stopped it, if something did
abbrev pub stop_of : {T : Type 0} → Result T CellFault → Option CellFault
stop_of (Ok value) = None
stop_of (Err fault) = Some fault

-- the call was not held, and no plex was refused
abbrev pub IsPlainEnd : {T : Type 0} → Result T CellFault → Type 0
IsPlainEnd (Ok value) = Unit {0}
IsPlainEnd (Err (Fault place)) = Unit {0}
IsPlainEnd (Err PowerLost) = Unit {0}
IsPlainEnd (Err Held) = ⊥
IsPlainEnd (Err (Only map)) = ⊥

-- The first n calls are done: they lead from the one state to the other. A call is told by its index, what stopped it, and
-- the states before and after it.
abbrev pub AreDone : {S : Type 0} → (Call : ℕ → Option CellFault → S → S → Type 0) → ℕ → S → S → Type 0
AreDone Call zero old new = new ≡ old
AreDone {S = S} Call (suc n) old new = (mid : S) × AreDone Call n old mid × Call n None mid new

-- all of these calls are done, or one is stopped and those before it are done
abbrev pub AreMade : {S : Type 0} → (Call : ℕ → Option CellFault → S → S → Type 0) → ℕ → Option CellFault → S → S → Type 0
AreMade Call total None old new = AreDone Call total old new
AreMade {S = S} Call total (Some fault) old new = (n : ℕ) × (mid : S) × (n < total) × AreDone Call n old mid × Call n (Some fault) mid new
