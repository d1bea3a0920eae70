-- What becomes of a device in hand whose header is wiped out.
use Rattle.std.specs.Prelude.{◌≡◌, ℕ, ◌+◌, ◌≤◌, replicate, List, Result, Ok, Err}
use Rattle.vx_base.specs.Counts.{later_count}
use Rattle.vx_piece.specs.Seen.{Seen, Keeps, Writes}
use Rattle.vx_piece.specs.declared.piece.PieceFault.{PieceFault}
use Rattle.vx_house.specs.declared.house.Taken.{Taken}
use Rattle.vx_house.specs.declared.stop.Stop.{Stop}
use Rattle.vx_house.specs.declared.stop.Stop.TheVariants.{Ended, OutOfMemory}
use Rattle.vx_stage_devices.specs.Looks.{EndsBy}

-- the bytes of a sector of zeros
abbrev pub zero_sector : List ℕ
zero_sector = replicate 512 0

-- the answer of a write that is done
abbrev pub all_written : Result (Unit {0}) PieceFault
all_written = Ok tt

-- the answer of one that is not
abbrev pub not_written : PieceFault → Result (Unit {0}) PieceFault
not_written fault = Err fault

-- zeros were written over the first sector of the device, and nothing failed
pub record IsWiped {P : Type 0} (see : P → Seen) (old new : Taken P) : Type 0 where
  pub device : new.device ≡ old.device
  pub kept : Keeps (see old.piece) (see new.piece)
  pub told : Writes 0 zero_sector (see old.piece).told (see new.piece).told all_written
  pub once : (see new.piece).writes ≡ later_count (see old.piece).writes 1
  pub reads : (see new.piece).reads ≡ (see old.piece).reads
  pub quiet : (see new.piece).faults ≡ (see old.piece).faults

-- the first sector of the device is as before, or zeros
pub record IsPartlyWiped {P : Type 0} (see : P → Seen) (old new : Taken P) : Type 0 where
  pub device : new.device ≡ old.device
  pub kept : Keeps (see old.piece) (see new.piece)
  pub fault : PieceFault
  pub told : Writes 0 zero_sector (see old.piece).told (see new.piece).told (not_written fault)
  pub most : (see new.piece).writes ≤ (see old.piece).writes + 1
  pub reads : (see new.piece).reads ≡ (see old.piece).reads

-- zeros are written, or the device ends the command
abbrev pub Wipes : {T P : Type 0} → (P → Seen) → Taken P → Result T Stop → Taken P → Type 0
Wipes see old (Ok u) new = IsWiped see old new
Wipes see old (Err (Ended end)) new = IsPartlyWiped see old new × EndsBy see old end new
Wipes see old (Err OutOfMemory) new = ⊥
