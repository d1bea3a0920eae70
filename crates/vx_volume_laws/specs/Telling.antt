-- The entries that the receipt of a call on a volume tells.
use Rattle.std.specs.Prelude.{◌≡◌, ◌≢◌, ℕ, ◌+◌, ◌/◌, true, List, [], ◌∷◌, length, map, Some, None, Result, Ok, Err}
use Rattle.vx_base.specs.Blocks.{is_in}
use Rattle.vx_block.specs.declared.geometry.Span.{Span}
use Rattle.vx_block.specs.Regions.{part_at}
use Rattle.vx_life.specs.declared.EntryKind.{EntryKind}
use Rattle.vx_life.specs.Entry.{Entry}
use Rattle.vx_cell.specs.Running.{Caller}
use Rattle.vx_volume.specs.declared.fault.IoFault.{IoFault}
use Rattle.vx_volume.specs.declared.fault.IoFault.TheVariants.{Range, Fault, PowerLost}
use Rattle.vx_volume.specs.declared.receipt.Receipt.{Receipt}
use Rattle.vx_volume.specs.Laws.{values_of}

-- the blocks that an entry speaks of
abbrev pub span_of : Entry → Span
span_of e = record { start = e.start; count = e.count }

-- The entry is of the part of a range with this index: it is of the caller's command and of this kind, and tells of its blocks the
-- bytes that the receipt has there.
pub record IsOfPart (kind : EntryKind) (size : ℕ) (who : Caller) (start : ℕ) (receipt : Receipt) (index : ℕ) (e : Entry) : Type 0 where
  pub region : e.part.region ≡ start / size + index
  pub range : part_at size start receipt.count index ≡ Some (span_of e)
  pub session : e.session ≡ who.session
  pub place : e.place ≡ who.place
  pub kind_is : e.kind ≡ kind
  pub values : (k : ℕ) → is_in e.start e.count k ≡ true → e.values k ≡ values_of kind start receipt.blocks.items k

-- this holds of the entries, one after the other, from this index on
abbrev pub HoldFrom : (ℕ → Entry → Type 0) → ℕ → List Entry → Type 0
HoldFrom fact index [] = Unit {0}
HoldFrom fact index (e ∷ es) = fact index e × HoldFrom fact (index + 1) es

-- one entry for each part of the receipt, in order, all of this kind
pub record AreOfParts (kind : EntryKind) (size : ℕ) (who : Caller) (start : ℕ) (receipt : Receipt) (es : List Entry) : Type 0 where
  pub parts : map (λ (e : Entry). e.part) es ≡ receipt.parts.items
  pub each : HoldFrom (IsOfPart kind size who start receipt) 0 es

-- What the answer of a call tells: where it is done all parts of the range, and where it was stopped those that were begun; after
-- a fault there are some. A call whose range does not lie in the volume has none.
abbrev pub TellsEntries : (done stopped : EntryKind) (size : ℕ) → Caller → ℕ → Result (Unit {0}) IoFault → Receipt → List Entry → Type 0
TellsEntries done stopped size who start (Ok u) receipt es = AreOfParts done size who start receipt es × (part_at size start receipt.count (length es) ≡ None)
TellsEntries done stopped size who start (Err (Fault place)) receipt es = AreOfParts stopped size who start receipt es × (es ≢ [])
TellsEntries done stopped size who start (Err PowerLost) receipt es = AreOfParts stopped size who start receipt es
TellsEntries done stopped size who start (Err Range) receipt es = es ≡ []
