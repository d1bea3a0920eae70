-- What stands on a shelf in memory. Of a device that was taken the empty run behind its last sector is left.
use Rattle.std.specs.Prelude.{◌≡◌, ◌+◌, ◌++◌, ℕ, ◌==◌, ◌&&◌, nat_lt, not, Bool, true, false, zero, suc, if◌then◌else◌, List, [], ◌∷◌, Option, Some, None}
use Rattle.std.specs.List.{list_all}
use Rattle.std.specs.Option.{unwrap_or}
use Rattle.std.specs.Str.{bytes_eq}
use Rattle.vx_base.specs.Named.{Word}
use Rattle.vx_piece.specs.Seen.{Seen}
use Rattle.vx_shelf.specs.Shelf.{Held, IsBlank}
use Rattle.vx_piece.specs.MemPiece.{mem_seen}
use Rattle.vx_piece.specs.declared.mem_piece.MemPiece.{MemPiece}

-- what stands under a name
abbrev pub Place : Type 0
Place = Word × MemPiece

abbrev pub is_under : Word → Place → Bool
is_under name place = bytes_eq place.0 name

-- the run has no sector
abbrev pub is_empty : MemPiece → Bool
is_empty p = (mem_seen p).sectors == 0

abbrev pub held_by : MemPiece → Option Held
held_by p = if is_empty p then Some (record { device = (mem_seen p).device; sectors = (mem_seen p).start }) else None

abbrev pub free_by : MemPiece → Option Seen
free_by p = if is_empty p then None else Some (mem_seen p)

-- what the first device of a name shows, where one has it
abbrev pub shown_under : {X : Type 0} → (MemPiece → Option X) → List Place → Word → Option X
shown_under show [] name = None
shown_under show (p ∷ ps) name = if is_under name p then show p.1 else shown_under show ps name

-- the devices that nobody holds
abbrev pub free_in : List Place → Word → Option Seen
free_in = shown_under free_by

-- the devices that were taken
abbrev pub held_in : List Place → Word → Option Held
held_in = shown_under held_by

-- the faults of the first device of a name, whether it is held or not; 0 where none has it
abbrev pub counted_in : List Place → Word → ℕ
counted_in ps name = unwrap_or (shown_under (λ p. Some (mem_seen p).faults) ps name) 0

-- a device that is there is whole, and one that was taken had a sector
abbrev pub is_whole_or_left : MemPiece → Bool
is_whole_or_left p = if is_empty p then nat_lt 0 (mem_seen p).start else (mem_seen p).start == 0

abbrev pub is_at_rest : Place → Bool
is_at_rest p = is_whole_or_left p.1

-- a whole device, with a sector at least
abbrev pub is_whole : MemPiece → Bool
is_whole p = (mem_seen p).start == 0 && not (is_empty p)

-- neither the name nor the number of the one is that of the other
abbrev pub are_apart : Place → Place → Bool
are_apart p q = not (bytes_eq p.0 q.0) && not ((mem_seen p.1).device == (mem_seen q.1).device)

-- the number of the one is not that of the other
abbrev pub differ_in_number : Place → Place → Bool
differ_in_number p q = not ((mem_seen p.1).device == (mem_seen q.1).device)

-- no two places have one number
abbrev pub are_numbered : List Place → Bool
are_numbered [] = true
are_numbered (p ∷ ps) = list_all (differ_in_number p) ps && are_numbered ps

-- it is a whole device, and has a name and a number that no other has
abbrev pub fits : Place → List Place → Bool
fits p others = is_whole p.1 && list_all (are_apart p) others

-- whole devices, no two with one name or one number
abbrev pub are_devices : List Place → Bool
are_devices [] = true
are_devices (p ∷ ps) = fits p ps && are_devices ps

-- what is left is the empty run behind the last sector of the device, with its count of faults
pub record HasLeft (device left : MemPiece) : Type 0 where
  pub empty : is_empty left ≡ true
  pub number : (mem_seen left).device ≡ (mem_seen device).device
  pub behind : (mem_seen left).start ≡ (mem_seen device).start + (mem_seen device).sectors
  pub faults : (mem_seen left).faults ≡ (mem_seen device).faults

-- the device's number is below this one
abbrev pub is_numbered_below : ℕ → Place → Bool
is_numbered_below next p = nat_lt (mem_seen p.1).device next

-- a blank device of that name and number stands behind the others
pub record IsAppended (name : Word) (count number : ℕ) (old new : List Place) : Type 0 where
  pub piece : MemPiece
  pub blank : IsBlank count (mem_seen piece)
  pub numbered : (mem_seen piece).device ≡ number
  pub behind : new ≡ old ++ (name, piece) ∷ []

-- the place at the index is the first of the name
abbrev pub IsFirst : Word → List Place → ℕ → Type 0
IsFirst name [] i = ⊥
IsFirst name (p ∷ ps) zero = is_under name p ≡ true
IsFirst name (p ∷ ps) (suc i) = (is_under name p ≡ false) × IsFirst name ps i

-- no place has the name
abbrev pub IsMissing : Word → List Place → Type 0
IsMissing name [] = Unit {0}
IsMissing name (p ∷ ps) = (is_under name p ≡ false) × IsMissing name ps
