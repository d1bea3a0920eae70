-- A disk that joins the imported group.
use Rattle.std.specs.Prelude.{◌≡◌, ◌⊎◌, ℕ, ◌<◌, ◌==◌, Bool, true, false, List, [], ◌∷◌, Option, Some, None, Result, Ok, Err}
use Rattle.std.specs.List.{list_any}
use Rattle.vx_pages.specs.declared.local_piece.LocalPiece.{Ghosts}
use Rattle.vx_piece.specs.Seen.{Seen}
use Rattle.vx_copies.specs.declared.disk.Disk.{Disk}
use Rattle.vx_confdb.specs.Add.{IsSame, AddGives}
use Rattle.vx_confdb.specs.Enlisted.{AddWrites}
use Rattle.vx_confdb.specs.Prepare.{IsFresh}
use Rattle.vx_confdb.specs.declared.fault.GroupFault.{GroupFault}
use Rattle.vx_objects.specs.declared.config.Config.{Config}
use Rattle.vx_objects.specs.declared.edit.Edit.{Edit}
use Rattle.vx_objects.specs.declared.edit.Edit.TheVariants.{AddDisk}
use Rattle.vx_script_words.specs.declared.value.DiskAt.{DiskAt}
use Rattle.vx_stages.specs.Records.{disk_record, next_slot}
use Rattle.vx_house.specs.declared.house.Imported.{Imported}
use Rattle.vx_house.specs.declared.house.Taken.{Taken}
use Rattle.vx_house.specs.declared.stop.Stop.{Stop}
use Rattle.vx_house.specs.declared.stop.Stop.TheVariants as stops
use Rattle.vx_stage_changes.specs.Changing.{IsMeant}
use Rattle.vx_stage_changes.specs.Committing.{stop_of}
use Rattle.vx_stage_changes.specs.Planning.{IsUnplanned}
use Rattle.vx_stage_changes.specs.declared.planning.NextConfig.{NextConfig}

-- a disk of the configuration has the slot
abbrev pub has_slot : ℕ → Config → Bool
has_slot slot config = list_any (λ d. d.slot == slot) config.disks

-- the lowest free slot
pub record IsSlot (slot : ℕ) (config : Config) : Type 0 where
  pub next : next_slot config ≡ slot
  pub low : slot < 32
  pub free : has_slot slot config ≡ false

-- the lowest free slot, or none is free
abbrev pub SlotIs : Option ℕ → Config → Type 0
SlotIs None config = next_slot config ≡ 32
SlotIs (Some slot) config = IsSlot slot config

-- the device as a disk that nothing was written to
abbrev pub disk_for : {P : Type 0} → (P → Seen) → DiskAt → ℕ → Taken P → Disk P
disk_for see pair slot t = record { name = pair.disk; device = t.device; slot = slot; sectors = (see t.piece).sectors; good = true; half = 0; piece = t.piece }

-- the edit by which the disk joins
abbrev pub join_edits : {P : Type 0} → (P → Seen) → DiskAt → ℕ → Taken P → List Edit
join_edits see pair slot t = AddDisk (disk_record pair slot (see t.piece).sectors) ∷ []

-- a configuration with the disk, and its text, were to be committed
pub record IsJoin {P : Type 0} {ghosts : Ghosts P} (see : P → Seen) (pair : DiskAt) (t : Taken P) (old : Imported P ghosts) (next : Config) (text : List ℕ) (slot : ℕ) : Type 0 where
  pub slotted : IsSlot slot old.config
  pub meant : IsMeant (join_edits see pair slot t) old.config next text
  pub fresh : IsFresh see old.base.name (disk_for see pair slot t)

-- how the taking of the disk ended
pub record IsAdded {P : Type 0} {ghosts : Ghosts P} (see : P → Seen) (pair : DiskAt) (t : Taken P) (result : Result (Unit {0}) (GroupFault × Option (Disk P))) (old new : Imported P ghosts) (next : Config) : Type 0 where
  pub text : List ℕ
  pub slot : ℕ
  pub join : IsJoin see pair t old next text slot
  pub gives : AddGives see result text (disk_for see pair slot t) old.base new.base
  pub writes : AddWrites see result text (disk_for see pair slot t) old.base new.base

-- the disk has joined with the configuration, or is given back, or the group or the power is lost with it
abbrev pub AddEnds : {P : Type 0} {ghosts : Ghosts P} → (P → Seen) → Disk P → NextConfig → Result (Unit {0}) (Stop × Option (Taken P)) → Imported P ghosts → Imported P ghosts → Type 0
AddEnds see disk next (Ok u) old new = (new.config ≡ next.config) × AddGives see (Ok tt) next.text.items disk old.base new.base × AddWrites see (Ok tt) next.text.items disk old.base new.base
AddEnds see disk next (Err (stop, None)) old new = (fault : GroupFault) × (stop ≡ stop_of fault) × AddGives see (Err (fault, None)) next.text.items disk old.base new.base × AddWrites see (Err (fault, None)) next.text.items disk old.base new.base
AddEnds see disk next (Err (stop, Some back)) old new = (stop ≡ stops.OutOfMemory) × (back ≡ record { device = disk.device; piece = disk.piece }) × (new.config ≡ old.config) × IsSame old.base new.base

-- the disk is given back, and the group is as before
pub record IsUnjoined {P : Type 0} {ghosts : Ghosts P} (see : P → Seen) (pair : DiskAt) (t back : Taken P) (stop : Stop) (old new : Imported P ghosts) : Type 0 where
  pub same : back ≡ t
  pub config : new.config ≡ old.config
  pub base : IsSame old.base new.base
  pub why : (slot : ℕ) → next_slot old.config ≡ slot → IsUnplanned (join_edits see pair slot t) old.config stop

-- the disk has joined, or is given back, or the group or the power is lost with it
abbrev pub JoinEnds : {P : Type 0} {ghosts : Ghosts P} → (P → Seen) → DiskAt → Taken P → Result (Unit {0}) (Stop × Option (Taken P)) → Imported P ghosts → Imported P ghosts → Type 0
JoinEnds see pair t (Ok u) old new = IsAdded see pair t (Ok tt) old new new.config
JoinEnds see pair t (Err (stop, None)) old new = (fault : GroupFault) × (next : Config) × (stop ≡ stop_of fault) × IsAdded see pair t (Err (fault, None)) old new next
JoinEnds see pair t (Err (stop, Some back)) old new = IsUnjoined see pair t back stop old new

-- the hand is this device alone, which the command names
pub record IsInHand {P : Type 0} (pair : DiskAt) (t : Taken P) (hand : List (Taken P)) : Type 0 where
  pub only : hand ≡ t ∷ []
  pub named : t.device ≡ pair.device

-- the device has left the hand, and the taking of the disk ended so
pub record IsPlaced {P : Type 0} {ghosts : Ghosts P} (see : P → Seen) (pair : DiskAt) (result : Result (Unit {0}) (Stop × Option (Taken P))) (before now : List (Taken P)) (old new : Imported P ghosts) : Type 0 where
  pub taken : Taken P
  pub hand : IsInHand pair taken before
  pub empty : now ≡ []
  pub ends : JoinEnds see pair taken result old new

-- the hand and the group are as before
pub record IsKeptBack {P : Type 0} {ghosts : Ghosts P} (see : P → Seen) (pair : DiskAt) (stop : Stop) (before now : List (Taken P)) (old new : Imported P ghosts) : Type 0 where
  pub taken : Taken P
  pub hand : IsInHand pair taken before
  pub same : now ≡ before
  pub unjoined : IsUnjoined see pair taken taken stop old new

-- the device has joined; or it is in hand again; or the group or the power is lost with it
abbrev pub HandEnds : {P : Type 0} {ghosts : Ghosts P} → (P → Seen) → DiskAt → Result (Unit {0}) Stop → List (Taken P) → List (Taken P) → Imported P ghosts → Imported P ghosts → Type 0
HandEnds see pair (Ok u) before now old new = IsPlaced see pair (Ok tt) before now old new
HandEnds see pair (Err stop) before now old new = IsPlaced see pair (Err (stop, None)) before now old new ⊎ IsKeptBack see pair stop before now old new
