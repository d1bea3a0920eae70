-- The names that are told of a device that failed, and the stop that a volume which is not started is.
use Rattle.std.specs.Prelude.{◌==◌, ℕ, if◌then◌else◌, Option, Some, None, List, [], ◌∷◌, Result, Ok, Err}
use Rattle.vx_base.specs.Named.{Word}
use Rattle.vx_piece.specs.Seen.{Seen}
use Rattle.vx_copies.specs.declared.disk.Disk.{Disk}
use Rattle.vx_answers.specs.declared.answer.End.TheVariants as ends
use Rattle.vx_answers.specs.declared.refusal.Refusal.TheVariants as refusal
use Rattle.vx_group_start.specs.declared.fault.StartFault.{StartFault}
use Rattle.vx_group_start.specs.declared.fault.StartFault.TheVariants as fault
use Rattle.vx_volume.specs.declared.fault.IoFault.{IoFault}
use Rattle.vx_volume.specs.declared.fault.IoFault.TheVariants as io
use Rattle.vx_group_calls.specs.Ending.{device_of}
use Rattle.vx_house.specs.declared.stop.Stop.{Stop}
use Rattle.vx_house.specs.declared.stop.Stop.TheVariants as stops

-- the name of the disk on the device of this number, and that of the device
abbrev pub names_at : {P : Type 0} → (P → Seen) → List (Disk P) → ℕ → Option (Word × Word)
names_at see [] number = None
names_at see (d ∷ ds) number = if (see d.piece).device == number then Some (d.name, d.device) else names_at see ds number

-- a fault is told with both; a device that is none of theirs is not told
abbrev pub fault_of : Option (Word × Word) → Stop
fault_of None = stops.OutOfMemory
fault_of (Some names) = stops.Ended (ends.Fault names.0 names.1 [])

-- the stop that a volume of the name is which is not started
abbrev pub unopened : {P : Type 0} → (P → Seen) → List (Disk P) → Word → StartFault → Stop
unopened see ds vol fault.OutOfMemory = stops.OutOfMemory
unopened see ds vol fault.NoLog = stops.Ended (ends.Refused (refusal.NoLog vol))
unopened see ds vol (fault.NoCurrent r) = stops.Ended (ends.Refused (refusal.NoCurrent r))
unopened see ds vol (fault.Failed number) = fault_of (names_at see ds number)
unopened see ds vol fault.PowerLost = stops.Ended (ends.Lost [])

-- the stop that copying is: so many regions are told where it is done. No range is asked for.
abbrev pub copied : {P : Type 0} → (P → Seen) → List (Disk P) → Result ℕ IoFault → Stop
copied see ds (Ok n) = stops.Ended (ends.Done (Some n) [] [])
copied see ds (Err (io.Fault place)) = fault_of (names_at see ds (device_of place))
copied see ds (Err io.PowerLost) = stops.Ended (ends.Lost [])
copied see ds (Err io.Range) = stops.OutOfMemory
