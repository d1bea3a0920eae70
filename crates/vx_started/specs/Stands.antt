-- What a piece with its numbers stands for, and how far a call of several parts has gone.
use Rattle.std.specs.Prelude.{◌≡◌, ℕ, ◌+◌, ◌<◌, ◌≤◌, List, length, map, slice_index, slice_set, IsTrue, Option, Some, None}
use Rattle.vx_base.specs.Blocks.{Contents}
use Rattle.vx_base.specs.Counts.{Rose}
use Rattle.vx_base.specs.Named.{Word}
use Rattle.vx_block.specs.declared.geometry.Span.{Span}
use Rattle.vx_block.specs.declared.geometry.Geometry.{Geometry}
use Rattle.vx_piece.specs.Seen.{Seen}
use Rattle.vx_life.specs.declared.Part.{Part}
use Rattle.vx_life.specs.declared.EntryKind.{EntryKind}
use Rattle.vx_life.specs.Candidates.{Candidates, IsChosen}
use Rattle.vx_life.specs.Entry.{Entry}
use Rattle.vx_life.specs.Life.{Life, IsNext, life_after, GoesOn}
use Rattle.vx_script_forms.specs.declared.call.Call.{Call}
use Rattle.vx_answers.specs.declared.answer.End.{End}
use Rattle.vx_answers.specs.declared.answer.End.TheVariants.{Done, Refused, Fault, ShelfFailed, GroupLost, Lost}
use Rattle.vx_moments.specs.World.{Volume, OnDevice}
use Rattle.vx_stages.specs.Calls.{AreParts, AreOf, Lives}

-- the contents are told, and each block is among its candidates
abbrev pub IsAmongTold : ℕ → Option Contents → Candidates → Type 0
IsAmongTold n None candidates = ⊥
IsAmongTold n (Some contents) candidates = IsChosen n candidates contents

-- a piece and the last number of each region stand for a life of a volume of that many blocks
pub record StandsFor (n : ℕ) (piece : Seen) (numbers : List ℕ) (life : Life) : Type 0 where
  pub epoch : life.epoch ≡ 0
  pub last : (r : ℕ) → life.last r ≡ slice_index numbers r
  pub told : IsAmongTold n piece.told life.candidates

-- the piece is a device of that many blocks
abbrev pub IsSized : Seen → ℕ → Type 0
IsSized piece blocks = piece.sectors ≡ blocks

-- no number is above this one
abbrev pub AreBelow : ℕ → List ℕ → Type 0
AreBelow bound numbers = (r : ℕ) → slice_index numbers r ≤ bound

-- a part that was drawn in a region, and the numbers after it
pub record IsDrawn (region : ℕ) (numbers : List ℕ) (part : Part) (later : List ℕ) : Type 0 where
  pub region_is : part.region ≡ region
  pub epoch : part.epoch ≡ 0
  pub number : part.number ≡ slice_index numbers region + 1
  pub inside : region < length numbers
  pub numbers_after : later ≡ slice_set numbers region part.number

-- the entry of a part, as the command at this place made it outside blocks
abbrev pub entry_of : ℕ → Part → EntryKind → Span → Contents → Entry
entry_of place part kind span values = record { session = 0; place = place; part = part; kind = kind; start = span.start; count = span.count; values = values }

-- each life that a piece with its numbers stood for goes on by a part's entry, and they stand for it now
abbrev pub PartGoes : ℕ → Span → EntryKind → Contents → Seen → List ℕ → Seen → List ℕ → Part → Type 0
PartGoes n span kind values old_piece old_numbers piece numbers part =
    (place : ℕ) (life : Life) → StandsFor n old_piece old_numbers life →
    IsNext life (entry_of place part kind span values) × StandsFor n piece numbers (life_after (entry_of place part kind span values) life)

-- The call has gone so far: its first parts have entries of this kind and these values, and by these the life goes on
-- to one that the piece and the numbers stand for.
pub record HasGone (place n size start count : ℕ) (before : Life) (kind : EntryKind) (values : Contents) (piece : Seen) (numbers : List ℕ) (parts : List Part) : Type 0 where
  pub entries : List Entry
  pub life : Life
  pub first : AreParts size start count 0 entries
  pub each : AreOf place kind values entries
  pub told : map (λ e. e.part) entries ≡ parts
  pub goes_on : GoesOn before entries life
  pub stands : StandsFor n piece numbers life

-- each life that a piece with its numbers stood for has gone so far
abbrev pub CallGoes : ℕ → ℕ → ℕ → ℕ → EntryKind → Contents → Seen → List ℕ → Seen → List ℕ → List Part → Type 0
CallGoes n size start count kind values old_piece old_numbers piece numbers parts =
    (place : ℕ) (before : Life) → StandsFor n old_piece old_numbers before → HasGone place n size start count before kind values piece numbers parts

-- each volume that a piece with its numbers stood for has lived on as the answer tells, and they stand for it now
abbrev pub Serves : Call → End → Seen → List ℕ → Seen → List ℕ → Volume → Type 0
Serves call end old_piece old_numbers piece numbers v =
    (place : ℕ) → StandsFor v.length old_piece old_numbers v.life → (life : Life) × Lives place call v end life × StandsFor v.length piece numbers life

-- a fault is of this device and only where the piece's count rose, a loss only where it is cut; else none failed
abbrev pub EndHasCause : Word → End → Seen → Seen → Type 0
EndHasCause device (Done copied parts blocks) old new = new.faults ≡ old.faults
EndHasCause device (Refused refusal) old new = ⊥
EndHasCause device ShelfFailed old new = ⊥
EndHasCause device GroupLost old new = ⊥
EndHasCause device (Fault told named parts) old new = (named ≡ device) × Rose old.faults new.faults
EndHasCause device (Lost parts) old new = IsTrue new.cut

-- at most so many sectors were handed to reads and to writes
pub record CallsAtMost (read written : ℕ) (old new : Seen) : Type 0 where
  pub reads : new.reads ≤ old.reads + read
  pub writes : new.writes ≤ old.writes + written

-- the volume lies on the device, and is cut as the geometry says
pub record HasShape (device : Word) (geometry : Geometry) (v : Volume) : Type 0 where
  pub lies : v.lies ≡ OnDevice device
  pub length_is : v.length ≡ geometry.length
  pub region_is : v.region ≡ geometry.region
