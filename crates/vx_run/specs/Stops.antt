-- How a run ends before its last command.
use Rattle.std.specs.Prelude.{◌≡◌, [], Option, IsSome, Result, Ok, Err}
use Rattle.vx_pages.specs.declared.local_piece.LocalPiece.{Ghosts}
use Rattle.vx_base.specs.Named.{Word}
use Rattle.vx_piece.specs.Seen.{Seen}
use Rattle.vx_shelf.specs.Shelf.{Held}
use Rattle.vx_house.specs.View.{View, Keeps, KeepsButGroup}
use Rattle.vx_run.specs.Serving.{IsHeldUp}
use Rattle.vx_run.specs.declared.unserved.Unserved.{Unserved}
use Rattle.vx_run.specs.declared.unserved.Unserved.TheVariants as unserved
use Rattle.vx_run.specs.declared.lines.ServeFault.{ServeFault}
use Rattle.vx_run.specs.declared.lines.ServeFault.TheVariants as stops

-- why a run ends, as a command had no answer
abbrev pub fault_of : Unserved → ServeFault
fault_of unserved.OutOfMemory = stops.OutOfMemory
fault_of unserved.HeldUp = stops.HeldUp

-- a device is still held
abbrev pub HoldsSome : (Word → Option Held) → Type 0
HoldsSome held = (name : Word) × IsSome (held name)

-- the house is kept, and its hand is empty
pub record IsKept {P : Type 0} {ghosts : Ghosts P} (see : P → Seen) (v : View P ghosts) : Type 0 where
  pub keeps : Keeps see v
  pub empty : v.house.hand.items ≡ []

-- the house is kept, but of the group's devices some may be joined
pub record IsKeptButGroup {P : Type 0} {ghosts : Ghosts P} (see : P → Seen) (v : View P ghosts) : Type 0 where
  pub keeps : KeepsButGroup see v
  pub empty : v.house.hand.items ≡ []

-- by how it ended: the house is kept, or all of it but the group, or a group is held up
abbrev pub LeftBy : {P T : Type 0} {ghosts : Ghosts P} → (P → Seen) → Result T ServeFault → View P ghosts → Type 0
LeftBy see (Ok u) v = IsKept see v
LeftBy see (Err stops.OutOfMemory) v = IsKeptButGroup see v
LeftBy see (Err stops.SinkFailed) v = IsKeptButGroup see v
LeftBy see (Err stops.HeldUp) v = IsHeldUp see v

-- this holds where it ended before its last command, and no group is held up
abbrev pub OnShort : {T : Type 0} → Result T ServeFault → Type 0 → Type 0
OnShort (Ok u) Q = Unit {0}
OnShort (Err stops.OutOfMemory) Q = Q
OnShort (Err stops.SinkFailed) Q = Q
OnShort (Err stops.HeldUp) Q = Unit {0}
