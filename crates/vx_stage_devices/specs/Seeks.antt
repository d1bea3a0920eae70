-- Devices of a shelf whose headers are read, and whether one names a group.
use Rattle.std.specs.Prelude.{◌≡◌, ◌⊎◌, ◌+◌, ◌≤◌, Bool, true, false, List, [], ◌∷◌, Option, Some, None, IsSome, IfSome, Result, Ok, Err, option_map}
use Rattle.vx_base.specs.Counts.{Rose, later_count}
use Rattle.vx_base.specs.Named.{Word, SameUnder}
use Rattle.vx_header.specs.Named.{header_of, label_of}
use Rattle.vx_header.specs.declared.header.Header.{Header}
use Rattle.vx_piece.specs.Seen.{Seen, Keeps, IsRead}
use Rattle.vx_copies.specs.Image.{names_group}
use Rattle.vx_answers.specs.declared.answer.End.{End}
use Rattle.vx_answers.specs.declared.refusal.Refusal.TheVariants.{Exists}
use Rattle.vx_moments.specs.Holding.{is_among}
use Rattle.vx_stages.specs.Ends.{fault_of, lost, refused}
use Rattle.vx_house.specs.Scene.{Shelved}
use Rattle.vx_house.specs.declared.stop.Stop.{Stop}
use Rattle.vx_house.specs.declared.stop.Stop.TheVariants.{Ended, OutOfMemory}

-- where its sectors are told, whether the header of the device names the group
abbrev pub NamesSeen : Word → Bool → Seen → Type 0
NamesSeen dg names seen = IfSome seen.told (λ contents. names_group dg (header_of (contents 0)) ≡ names)

-- what a header says of the group
abbrev pub HeaderClaims : {T : Type 0} → Word → Option Header → Result T Stop → Type 0
HeaderClaims dg header (Ok u) = names_group dg (option_map label_of header) ≡ false
HeaderClaims dg header (Err (Ended end)) = (names_group dg (option_map label_of header) ≡ true) × (end ≡ refused (Exists dg))
HeaderClaims dg header (Err OutOfMemory) = ⊥

-- one sector of the device was read at most
pub record IsSeenOnly (old new : Seen) : Type 0 where
  pub kept : Keeps old new
  pub same : IsRead old new
  pub most : new.reads ≤ old.reads + 1

-- one sector of the device was read, nothing failed, and no header names the group
pub record IsSoughtOnce (dg : Word) (old new : Seen) : Type 0 where
  pub seen : IsSeenOnly old new
  pub once : new.reads ≡ later_count old.reads 1
  pub quiet : new.faults ≡ old.faults
  pub other : NamesSeen dg false old

-- the device that was read ends the command: it names the group, has failed, or its power is gone
abbrev pub ClaimEnds : Word → Word → Seen → End → Seen → Type 0
ClaimEnds dg name old end new =
    (NamesSeen dg true old × (end ≡ refused (Exists dg)))
    ⊎ (((end ≡ fault_of name) × Rose old.faults new.faults) ⊎ ((end ≡ lost) × (new.cut ≡ true)))

-- what a look at one device gives
abbrev pub Claims : {T : Type 0} → Word → Word → Seen → Result T Stop → Seen → Type 0
Claims dg name old (Ok u) new = IsSoughtOnce dg old new
Claims dg name old (Err (Ended end)) new = IsSeenOnly old new × ClaimEnds dg name old end new
Claims dg name old (Err OutOfMemory) new = ⊥

-- where it is among those sought, what stands under a name became this of what it was; else it is as it was
abbrev pub IsPlace : (Seen → Seen → Type 0) → Bool → Option Seen → Option Seen → Type 0
IsPlace Became false old new = new ≡ old
IsPlace Became true None None = Unit {0}
IsPlace Became true None (Some t) = ⊥
IsPlace Became true (Some s) None = ⊥
IsPlace Became true (Some s) (Some t) = Became s t

-- the devices of these names that are told became this of what they were, and no other is changed
abbrev pub ArePlaces : (Seen → Seen → Type 0) → List Word → Option (Word → Option Seen) → Option (Word → Option Seen) → Type 0
ArePlaces Became names None None = Unit {0}
ArePlaces Became names None (Some new) = ⊥
ArePlaces Became names (Some old) None = ⊥
ArePlaces Became names (Some old) (Some new) = (name : Word) → IsPlace Became (is_among name names) (old name) (new name)

-- Devices of these names were read, each once at most, and are back.
pub record IsOnlySought (names : List Word) (old new : Shelved) : Type 0 where
  pub held : SameUnder old.held new.held
  pub told : ArePlaces IsSeenOnly names old.free new.free
  pub counted : (name : Word) → old.counted name ≤ new.counted name
  pub later : old.faults ≤ new.faults

-- The devices of these names that nobody holds were read, each once, and none names the group.
pub record Seeks (dg : Word) (names : List Word) (old new : Shelved) : Type 0 where
  pub held : SameUnder old.held new.held
  pub told : ArePlaces (IsSoughtOnce dg) names old.free new.free
  pub counted : (name : Word) → old.counted name ≤ new.counted name
  pub same : IsSome old.free → (name : Word) → new.counted name ≡ old.counted name
  pub quiet : new.faults ≡ old.faults

-- why a device ends the search: it names the group, it or the shelf has failed, or its power is gone
abbrev pub SeekCause : Word → Word → Shelved → End → Shelved → Type 0
SeekCause dg name old end new =
    ((end ≡ refused (Exists dg)) × IfSome old.free (λ devices. (s : Seen) × (devices name ≡ Some s) × NamesSeen dg true s))
    ⊎ (((end ≡ fault_of name) × (Rose (old.counted name) (new.counted name) ⊎ Rose old.faults new.faults))
    ⊎ ((end ≡ lost) × IfSome new.free (λ devices. (t : Seen) × (devices name ≡ Some t) × (t.cut ≡ true))))

-- A device that nobody holds ends the search of these names.
pub record SeekEnds (dg : Word) (names : List Word) (name : Word) (old : Shelved) (end : End) (new : Shelved) : Type 0 where
  pub only : IsOnlySought names old new
  pub none : old.held name ≡ None
  pub cause : SeekCause dg name old end new

-- the search of one name
abbrev pub SeeksUnder : {T : Type 0} → Word → Word → Shelved → Result T Stop → Shelved → Type 0
SeeksUnder dg name old (Ok u) new = Seeks dg (name ∷ []) old new
SeeksUnder dg name old (Err (Ended end)) new = SeekEnds dg (name ∷ []) name old end new
SeeksUnder dg name old (Err OutOfMemory) new = IsOnlySought (name ∷ []) old new

-- the search of these names
abbrev pub SeeksThrough : {T : Type 0} → Word → List Word → Shelved → Result T Stop → Shelved → Type 0
SeeksThrough dg names old (Ok u) new = Seeks dg names old new
SeeksThrough dg names old (Err (Ended end)) new = (name : Word) × (is_among name names ≡ true) × SeekEnds dg names name old end new
SeeksThrough dg names old (Err OutOfMemory) new = IsOnlySought names old new
