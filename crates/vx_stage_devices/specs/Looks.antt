-- What becomes of devices in hand whose headers are read.
use Rattle.std.specs.Prelude.{◌≡◌, ◌⊎◌, ◌+◌, ◌≤◌, true, List, [], ◌∷◌, Option, Result, Ok, Err, IfSome, IsSome, option_map}
use Rattle.vx_base.specs.Counts.{Rose, later_count}
use Rattle.vx_header.specs.Named.{header_of, label_of}
use Rattle.vx_header.specs.declared.header.Header.{Header}
use Rattle.vx_copies.specs.Lists.{Each}
use Rattle.vx_piece.specs.Seen.{Seen, Keeps, IsRead}
use Rattle.vx_answers.specs.declared.answer.End.{End}
use Rattle.vx_answers.specs.declared.refusal.Refusal.TheVariants.{InUse, NotInitialised}
use Rattle.vx_stages.specs.Ends.{fault_of, lost, refused}
use Rattle.vx_house.specs.Goes.{IsBlankSeen}
use Rattle.vx_house.specs.declared.house.Taken.{Taken}
use Rattle.vx_house.specs.declared.stop.Stop.{Stop}
use Rattle.vx_house.specs.declared.stop.Stop.TheVariants.{Ended, OutOfMemory}

-- one sector of the device in hand was read at most
pub record IsOnlyRead {P : Type 0} (see : P → Seen) (old new : Taken P) : Type 0 where
  pub device : new.device ≡ old.device
  pub kept : Keeps (see old.piece) (see new.piece)
  pub same : IsRead (see old.piece) (see new.piece)
  pub most : (see new.piece).reads ≤ (see old.piece).reads + 1

-- one sector of it was read, and nothing failed
pub record IsReadOnce {P : Type 0} (see : P → Seen) (old new : Taken P) : Type 0 where
  pub read : IsOnlyRead see old new
  pub once : (see new.piece).reads ≡ later_count (see old.piece).reads 1
  pub quiet : (see new.piece).faults ≡ (see old.piece).faults

-- the device in hand ends the command: it has failed, or its power is gone
abbrev pub EndsBy : {P : Type 0} → (P → Seen) → Taken P → End → Taken P → Type 0
EndsBy see old end new = ((end ≡ fault_of old.device) × Rose (see old.piece).faults (see new.piece).faults) ⊎ ((end ≡ lost) × ((see new.piece).cut ≡ true))

-- where its sectors are told, the header of the device is this one
abbrev pub HasHeaderSeen : Option Header → Seen → Type 0
HasHeaderSeen header seen = IfSome seen.told (λ contents. header_of (contents 0) ≡ option_map label_of header)

-- a look at the header of a device in hand gives it, or ends the command
abbrev pub Looks : {P : Type 0} → (P → Seen) → Taken P → Result (Option Header) Stop → Taken P → Type 0
Looks see old (Ok header) new = IsReadOnce see old new × HasHeaderSeen header (see old.piece)
Looks see old (Err (Ended end)) new = IsOnlyRead see old new × EndsBy see old end new
Looks see old (Err OutOfMemory) new = ⊥

-- where its sectors are told, the device has a header
abbrev pub IsHeadedSeen : Seen → Type 0
IsHeadedSeen seen = IfSome seen.told (λ contents. IsSome (header_of (contents 0)))

-- the device was read, and has no header
abbrev pub IsReadBlank : {P : Type 0} → (P → Seen) → Taken P → Taken P → Type 0
IsReadBlank see old new = IsReadOnce see old new × IsBlankSeen (see old.piece)

-- the device was read at most; it has a header, or has failed, or its power is gone
abbrev pub BlankStops : {P : Type 0} → (P → Seen) → Taken P → Stop → Taken P → Type 0
BlankStops see old (Ended end) new = IsOnlyRead see old new × ((IsHeadedSeen (see old.piece) × (end ≡ refused (InUse old.device))) ⊎ EndsBy see old end new)
BlankStops see old OutOfMemory new = ⊥

-- a look finds no header, or ends the command
abbrev pub LooksBlank : {T P : Type 0} → (P → Seen) → Taken P → Result T Stop → Taken P → Type 0
LooksBlank see old (Ok u) new = IsReadBlank see old new
LooksBlank see old (Err stop) new = BlankStops see old stop new

-- the devices before one that ends the command have no header
abbrev pub HandStops : {P : Type 0} → (P → Seen) → List (Taken P) → Stop → List (Taken P) → Type 0
HandStops see (t ∷ ts) stop (n ∷ ns) = (BlankStops see t stop n × (ns ≡ ts)) ⊎ (IsReadBlank see t n × HandStops see ts stop ns)
HandStops see [] stop new = ⊥
HandStops see (t ∷ ts) stop [] = ⊥

-- no device of the hand has a header, or the first that has one or cannot be read ends the command
abbrev pub HandLooks : {T P : Type 0} → (P → Seen) → List (Taken P) → Result T Stop → List (Taken P) → Type 0
HandLooks see old (Ok u) new = Each (IsReadBlank see) old new
HandLooks see old (Err stop) new = HandStops see old stop new

-- the device was read at most; it has no header, or has failed, or its power is gone
abbrev pub HeadedStops : {P : Type 0} → (P → Seen) → Taken P → Stop → Taken P → Type 0
HeadedStops see old (Ended end) new = IsOnlyRead see old new × ((IsBlankSeen (see old.piece) × (end ≡ refused (NotInitialised old.device))) ⊎ EndsBy see old end new)
HeadedStops see old OutOfMemory new = ⊥

-- a look finds a header, or ends the command
abbrev pub LooksHeaded : {T P : Type 0} → (P → Seen) → Taken P → Result T Stop → Taken P → Type 0
LooksHeaded see old (Ok u) new = IsReadOnce see old new × IsHeadedSeen (see old.piece)
LooksHeaded see old (Err stop) new = HeadedStops see old stop new
