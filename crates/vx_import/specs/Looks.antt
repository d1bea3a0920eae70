-- What is read of the devices of a group.
use Rattle.std.specs.Prelude.{◌≡◌, ◌≢◌, ℕ, ◌+◌, ◌-◌, ◌≤◌, Bool, IsTrue, if◌then◌else◌, List, Option, Some, None, IfSome}
use Rattle.vx_base.specs.Named.{Word}
use Rattle.vx_sector.specs.Fields.{zeros}
use Rattle.vx_header.specs.Named.{Label, header_of, label_of}
use Rattle.vx_header.specs.Said.{Said, said_of, toggle_of}
use Rattle.vx_header.specs.Spelled.{sector_of_toggle, IsToggle}
use Rattle.vx_header.specs.Places.{IsFirstBad, is_toggle_place, toggle_end}
use Rattle.vx_piece.specs.Seen.{Seen, Keeps, IsRead}
use Rattle.vx_copies.specs.Disks.{Drops}
use Rattle.vx_copies.specs.Image.{text_sectors}
use Rattle.vx_import.specs.declared.device.GroupDevice.{GroupDevice}
use Rattle.vx_import.specs.declared.device.Reading.{Reading}
use Rattle.vx_import.specs.declared.device.Reading.TheVariants.{Blank, Says, Damaged}

-- the toggle that was read
abbrev pub said_in : Reading → Option Said
said_in Blank = None
said_in (Says t) = Some (said_of t)
said_in (Damaged byte) = None

-- the half that the toggle names, else the first
abbrev pub half_in : Reading → ℕ
half_in Blank = 0
half_in (Says t) = t.half
half_in (Damaged byte) = 0

-- zeros, or a toggle, or neither, and the byte behind 512 others at which it is no toggle
abbrev pub HasForm : Reading → List ℕ → Type 0
HasForm Blank sector = sector ≡ zeros 512
HasForm (Says t) sector = sector ≡ sector_of_toggle t
HasForm (Damaged byte) sector = (512 ≤ byte) × IsFirstBad IsToggle is_toggle_place toggle_end sector (byte - 512) × (sector ≢ zeros 512)

-- what the sector of a toggle says
pub record IsReading (reading : Reading) (sector : List ℕ) : Type 0 where
  pub said : toggle_of sector ≡ said_in reading
  pub form : HasForm reading sector

-- a device with what was read of it
pub record Looked : Type 0 where
  pub device : Word
  pub label : Label
  pub readable : Bool
  pub reading : Reading
  pub seen : Seen

abbrev pub looked : {P : Type 0} → (P → Seen) → GroupDevice P → Looked
looked see f = record { device = f.device; label = label_of f.header; readable = f.readable; reading = f.reading; seen = see f.piece }

-- the device has a private region
abbrev pub IsPrivate : Looked → Type 0
IsPrivate f = 2048 ≤ f.seen.sectors

-- where it can be read, its toggle was read
abbrev pub HasReading : Looked → Type 0
HasReading f = IsTrue f.readable → IfSome f.seen.told (λ contents. IsReading f.reading (contents 1))

-- The header names the group, and what is told of it is what was read.
pub record IsOurs (group : Word) (f : Looked) : Type 0 where
  pub group_is : f.label.group ≡ group
  pub headed : IfSome f.seen.told (λ contents. header_of (contents 0) ≡ Some f.label)
  pub reads : HasReading f

-- the toggle of a device that can be read
abbrev pub toggle_read : Looked → Option Said
toggle_read f = if f.readable then said_in f.reading else None

-- the sectors that were read of the device, with those of the text that its toggle names, where it can still be read
abbrev pub reads_with_text : Looked → ℕ
reads_with_text f = f.seen.reads + text_sectors (toggle_read f)

-- what the reading of a text does to a device: that text is read at most, and it can be read until a read fails
pub record Reads (old new : Looked) : Type 0 where
  pub device : new.device ≡ old.device
  pub label : new.label ≡ old.label
  pub reading : new.reading ≡ old.reading
  pub kept : Keeps old.seen new.seen
  pub same : IsRead old.seen new.seen
  pub readable : Drops old.readable new.readable old.seen new.seen
  pub most : new.seen.reads ≤ reads_with_text old
