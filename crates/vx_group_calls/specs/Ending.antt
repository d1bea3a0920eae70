-- How the answer of a call on a volume is told, and what else the call leaves.
use Rattle.std.specs.Prelude.{◌≡◌, ℕ, List, [], Result, Ok, Err}
use Rattle.vx_life.specs.declared.Part.{Part}
use Rattle.vx_piece.specs.Seen.{Seen}
use Rattle.vx_pages.specs.declared.local_piece.LocalPiece.{Ghosts}
use Rattle.vx_cell.specs.declared.fault.Place.{Place}
use Rattle.vx_cell.specs.declared.fault.Place.TheVariants.{Data, Log}
use Rattle.vx_volume.specs.declared.fault.IoFault.{IoFault}
use Rattle.vx_volume.specs.declared.fault.IoFault.TheVariants as io
use Rattle.vx_volume.specs.declared.receipt.Receipt.{Receipt}
use Rattle.vx_volume.specs.declared.volume.Volume.{Volume}
use Rattle.vx_volume.specs.Calls.{ReadEnds, WriteEndsAll}
use Rattle.vx_volume.specs.Receipts.{IsReserved}
use Rattle.vx_volume.specs.Log.{LogGoes}
use Rattle.vx_volume.specs.Volume.{IsVolume, VolumeSeen, log_of, shape_of, volume_seen}
use Rattle.vx_group_calls.specs.declared.served.Served.{Served}
use Rattle.vx_group_calls.specs.declared.served.Served.TheVariants.{Done, Fault, Lost}

-- the device of the place that failed
abbrev pub device_of : Place → ℕ
device_of (Data map piece device) = device
device_of (Log copy device) = device

-- how a call that ends so is told, with these parts and blocks; its range lay in the volume
abbrev pub EndsAs : Result (Unit {0}) IoFault → List Part → List ℕ → Served → Type 0
EndsAs (Ok u) parts blocks served = served ≡ Done parts blocks
EndsAs (Err io.Range) parts blocks served = ⊥
EndsAs (Err (io.Fault place)) parts blocks served = served ≡ Fault (device_of place) parts
EndsAs (Err io.PowerLost) parts blocks served = served ≡ Lost parts

-- so many blocks were read, and the answer tells how that ended, with what was read
pub record IsReadServed (start count : ℕ) (served : Served) (old new : VolumeSeen) : Type 0 where
  pub result : Result (Unit {0}) IoFault
  pub before : Receipt
  pub after : Receipt
  pub ends : ReadEnds start old new result before after
  pub reserved : IsReserved count before
  pub told : EndsAs result after.parts.items after.blocks.items served

-- so many blocks were written, which have these bytes, and the answer tells how that ended
pub record IsWriteServed (start count : ℕ) (bytes : List ℕ) (served : Served) (old new : VolumeSeen) : Type 0 where
  pub result : Result (Unit {0}) IoFault
  pub before : Receipt
  pub after : Receipt
  pub ends : WriteEndsAll start bytes old new result before after
  pub reserved : IsReserved count before
  pub told : EndsAs result after.parts.items [] served

-- it is a volume still, of the same form, and each piece of its log goes on
pub record Continues {P : Type 0} {ghosts : Ghosts P} (see : P → Seen) (old new : Volume P ghosts) : Type 0 where
  pub whole : IsVolume (volume_seen see new)
  pub shape : shape_of new ≡ shape_of old
  pub follows : LogGoes see (log_of old) (log_of new)
