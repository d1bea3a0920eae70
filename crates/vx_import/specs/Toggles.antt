-- What the reading of the toggles leaves of the devices.
use Rattle.std.specs.Prelude.{◌≡◌, ◌+◌, ◌≤◌, true, IsTrue, IfSome, List}
use Rattle.vx_header.specs.Said.{toggle_of}
use Rattle.vx_piece.specs.Seen.{Keeps, IsRead}
use Rattle.vx_copies.specs.Lists.{AllOf, AnyOf}
use Rattle.vx_copies.specs.Disks.{Drops}
use Rattle.vx_copies.specs.Image.{text_sectors}
use Rattle.vx_import.specs.Looks.{Looked, HasReading}
use Rattle.vx_import.specs.declared.choosing.Taken.{Taken}
use Rattle.vx_import.specs.declared.choosing.Taken.TheVariants as taken
use Rattle.vx_import.specs.declared.toggles.Passed.{Passed}
use Rattle.vx_import.specs.declared.toggles.Passed.TheVariants.{Done, Cut}

-- what the reading of its toggle does to a device: one sector is read at most, nothing is written, and it can be read until a
-- read fails
pub record Passes (old new : Looked) : Type 0 where
  pub device : new.device ≡ old.device
  pub label : new.label ≡ old.label
  pub kept : Keeps old.seen new.seen
  pub same : IsRead old.seen new.seen
  pub readable : Drops old.readable new.readable old.seen new.seen
  pub most : new.seen.reads ≤ old.seen.reads + 1

-- what an inspection does to a device: its toggle and the text that this names are read at most, nothing is written, and it
-- can be read until a read fails
pub record Inspects (old new : Looked) : Type 0 where
  pub device : new.device ≡ old.device
  pub label : new.label ≡ old.label
  pub kept : Keeps old.seen new.seen
  pub same : IsRead old.seen new.seen
  pub readable : Drops old.readable new.readable old.seen new.seen
  pub most : IfSome old.seen.told (λ contents. new.seen.reads ≤ old.seen.reads + 1 + text_sectors (toggle_of (contents 1)))

-- no read of it has failed yet
abbrev pub IsUnread : Looked → Type 0
IsUnread f = f.readable ≡ true

-- the power of the device is gone
abbrev pub IsOff : Looked → Type 0
IsOff f = IsTrue f.seen.cut

-- its toggle was read, where it can be read; or it is cut
abbrev pub PassedOne : Passed → Looked → Type 0
PassedOne Done f = HasReading f
PassedOne Cut f = IsOff f

-- the toggles of all that can be read were read, or a device is cut
abbrev pub PassedAll : Passed → List Looked → Type 0
PassedAll Done fs = AllOf HasReading fs
PassedAll Cut fs = AnyOf IsOff fs

-- where no device is cut, the toggles of all that can be read were read
abbrev pub ReadBy : Taken → List Looked → Type 0
ReadBy (taken.Text b) fs = AllOf HasReading fs
ReadBy taken.Nothing fs = AllOf HasReading fs
ReadBy taken.Cut fs = AnyOf IsOff fs
