-- One map's sector of a page, on each copy, and what a call may do to it.
use Rattle.std.specs.Prelude.{◌≡◌, ◌⊎◌, ℕ, zero, suc, ◌≤◌, ◌==◌, ◌&&◌, ◌||◌, not, Bool, true, false, if◌then◌else◌, is_some, List, length, Option, Some, None, Result, Ok, Err}
use Rattle.vx_base.specs.Counts.{Rose}
use Rattle.vx_sector.specs.Fields.{zeros}
use Rattle.vx_mapfmt.specs.Bits.{bit_in}
use Rattle.vx_piece.specs.Seen.{Seen, Keeps}
use Rattle.vx_runs.specs.Part.{told_or}
use Rattle.vx_pages.specs.Bytes.{full}
use Rattle.vx_pages.specs.Counts.{Hands}
use Rattle.vx_marks.specs.Log.{IsOther}
use Rattle.vx_marks.specs.declared.marker.MarkFault.{MarkFault}
use Rattle.vx_marks.specs.declared.marker.MarkFault.TheVariants.{Failed, PowerLost, Busy}

-- the pieces of a sector: that of the first copy, and that of the second where there is one
pub record Copies : Type 0 where
  pub first : Seen
  pub second : Option Seen

-- a map's sector: its pieces, what no failed call has left open of it, and the bits that one has left open
pub record SectorSeen : Type 0 where
  pub copies : Copies
  pub sure : List ℕ
  pub loose : List ℕ

-- the second, or the first where there is none
abbrev pub or_first : Seen → Option Seen → Seen
or_first first None = first
or_first first (Some second) = second

-- the piece of a copy; past the last copy, that of the last
abbrev pub copy_of : Copies → ℕ → Seen
copy_of c zero = c.first
copy_of c (suc n) = or_first c.first c.second

-- the second tells, or there is none
abbrev pub second_tells : Option Seen → Bool
second_tells None = true
second_tells (Some p) = is_some p.told

-- each copy tells what it holds
abbrev pub tells : Copies → Bool
tells c = is_some c.first.told && second_tells c.second

-- the copy tells what it holds
abbrev pub copy_tells : Copies → ℕ → Bool
copy_tells c n = is_some (copy_of c n).told

-- the sector that a copy holds
abbrev pub held : Copies → ℕ → List ℕ
held c n = told_or (copy_of c n).told 0

-- a copy shows the mark of a region
abbrev pub shown : Copies → ℕ → ℕ → Bool
shown c n region = bit_in (held c n) region

-- how often calls of a piece on the device have failed
abbrev pub faults_on : Seen → ℕ → ℕ
faults_on p device = if p.device == device then p.faults else 0

abbrev pub second_faults : Option Seen → ℕ → ℕ
second_faults None device = 0
second_faults (Some p) device = faults_on p device

-- how often calls on a copy's piece have failed, by the device
abbrev pub faults_at : Copies → ℕ → ℕ → ℕ
faults_at c zero device = faults_on c.first device
faults_at c (suc zero) device = second_faults c.second device
faults_at c (suc (suc n)) device = 0

abbrev pub second_cut : Option Seen → Bool
second_cut None = false
second_cut (Some p) = p.cut

-- the power of a piece is gone
abbrev pub is_cut : Copies → Bool
is_cut c = c.first.cut || second_cut c.second

-- each piece is one sector
abbrev pub AreSectors : Copies → Type 0
AreSectors c = (n : ℕ) → (copy_of c n).sectors ≡ 1

-- what each call keeps of a piece: its place and its count, which never falls, and whether it tells what it holds
pub record KeepsPiece (old new : Seen) : Type 0 where
  pub kept : Keeps old new
  pub tells : is_some new.told ≡ is_some old.told

-- what each call keeps of a sector's pieces; the counts of faults never fall, and the power does not come back
pub record KeepsCopies (old new : Copies) : Type 0 where
  pub each : (n : ℕ) → KeepsPiece (copy_of old n) (copy_of new n)
  pub sectors : AreSectors old → AreSectors new
  pub pair : is_some new.second ≡ is_some old.second
  pub tells : tells new ≡ tells old
  pub faults : (copy device : ℕ) → faults_at old copy device ≤ faults_at new copy device
  pub cut : is_cut old ≡ true → is_cut new ≡ true

-- the counts of one copy on one device have risen, and no others
pub record RiseAt (copy device : ℕ) (old new : ℕ → ℕ → ℕ) : Type 0 where
  pub rose : Rose (old copy device) (new copy device)
  pub others : (copy' device' : ℕ) → IsOther copy device copy' device' → new copy' device' ≡ old copy' device'

-- why a call answers so: at Ok no count has risen, `Failed` names the counts that have, `PowerLost` comes where a piece is cut
abbrev pub HasCause : {T : Type 0} → (ℕ → ℕ → ℕ) → (ℕ → ℕ → ℕ) → Bool → Result T MarkFault → Type 0
HasCause old new cut (Ok u) = (copy device : ℕ) → new copy device ≡ old copy device
HasCause old new cut (Err (Failed copy device)) = RiseAt copy device old new
HasCause old new cut (Err PowerLost) = cut ≡ true
HasCause old new cut (Err Busy) = ⊥

-- each copy holds the bytes, or after a fault its old sector or the bytes
abbrev pub Holds : {T : Type 0} → List ℕ → List ℕ → List ℕ → Result T MarkFault → Type 0
Holds bytes old new (Ok u) = new ≡ bytes
Holds bytes old new (Err fault) = (new ≡ old) ⊎ (new ≡ bytes)

-- so many sectors were handed to writes on each copy, and none to a read; where there are none, no piece was called
pub record SectorHands {T : Type 0} (n : ℕ) (result : Result T MarkFault) (old new : Copies) : Type 0 where
  pub each : (k : ℕ) → Hands n result (copy_of old k) (copy_of new k)
  pub idle : n ≡ 0 → new ≡ old

-- the bytes are written on each copy in turn, up to the first that fails
pub record IsPut {T : Type 0} (bytes : List ℕ) (old new : Copies) (result : Result T MarkFault) : Type 0 where
  pub kept : KeepsCopies old new
  pub holds : (n : ℕ) → copy_tells old n ≡ true → Holds bytes (held old n) (held new n) result
  pub cause : HasCause (faults_at old) (faults_at new) (is_cut new) result
  pub counts : SectorHands 1 result old new

abbrev pub is_sure : SectorSeen → ℕ → Bool
is_sure s region = bit_in s.sure region

abbrev pub is_loose : SectorSeen → ℕ → Bool
is_loose s region = bit_in s.loose region

-- a copy that tells shows what is sure, and of the loose marks what it may
pub record IsFormed (s : SectorSeen) : Type 0 where
  pub sectors : AreSectors s.copies
  pub sure : length s.sure ≡ 512
  pub loose : length s.loose ≡ 512
  pub shows : (n : ℕ) → copy_tells s.copies n ≡ true → (region : ℕ) → (shown s.copies n region && not (is_loose s region)) ≡ is_sure s region

-- what a call keeps of a sector
pub record KeepsSector (old new : SectorSeen) : Type 0 where
  pub each : (n : ℕ) → KeepsPiece (copy_of old.copies n) (copy_of new.copies n)
  pub pair : is_some new.copies.second ≡ is_some old.copies.second
  pub tells : tells new.copies ≡ tells old.copies
  pub faults : (copy device : ℕ) → faults_at old.copies copy device ≤ faults_at new.copies copy device
  pub cut : is_cut old.copies ≡ true → is_cut new.copies ≡ true

-- How a sector goes on: `fact` says of a region what was sure and loose, and what is; `showing` says what a copy showed of it,
-- whether that was loose, and what it shows, where the copy tells.
pub record Goes (fact : ℕ → Bool → Bool → Bool → Bool → Type 0) (showing : ℕ → Bool → Bool → Bool → Type 0) (old new : SectorSeen) : Type 0 where
  pub kept : KeepsSector old new
  pub bits : (region : ℕ) → fact region (is_sure old region) (is_loose old region) (is_sure new region) (is_loose new region)
  pub shows : (n : ℕ) → copy_tells old.copies n ≡ true → (region : ℕ) → showing region (shown old.copies n region) (is_loose old region) (shown new.copies n region)

-- a sector goes on in memory alone
pub record Turns (fact : ℕ → Bool → Bool → Bool → Bool → Type 0) (old new : SectorSeen) : Type 0 where
  pub copies : new.copies ≡ old.copies
  pub bits : (region : ℕ) → fact region (is_sure old region) (is_loose old region) (is_sure new region) (is_loose new region)

-- no copy that tells shows a loose mark
abbrev pub IsFirm : SectorSeen → Type 0
IsFirm s = (n : ℕ) → copy_tells s.copies n ≡ true → (region : ℕ) → (shown s.copies n region && is_loose s region) ≡ false

abbrev pub SameBits : ℕ → Bool → Bool → Bool → Bool → Type 0
SameBits region sure loose sure' loose' = (sure' ≡ sure) × (loose' ≡ loose)

-- the copy has lost the mark if it was loose
abbrev pub Swept : ℕ → Bool → Bool → Bool → Type 0
Swept region shows loose shows' = shows' ≡ (shows && not loose)

-- the copy may have lost the mark if it was loose
abbrev pub MaySweep : ℕ → Bool → Bool → Bool → Type 0
MaySweep region shows loose shows' = (shows' ≡ shows) ⊎ ((loose ≡ true) × (shows' ≡ false))

-- what is loose is written again on every copy; nothing is called firm yet
abbrev pub IsTidied : {T : Type 0} → Result T MarkFault → SectorSeen → SectorSeen → Type 0
IsTidied (Ok u) old new = Goes SameBits Swept old new
IsTidied (Err fault) old new = Goes SameBits MaySweep old new

-- nothing is loose any more
abbrev pub NoneLoose : ℕ → Bool → Bool → Bool → Bool → Type 0
NoneLoose region sure loose sure' loose' = (sure' ≡ sure) × (loose' ≡ false)

-- a bit is put to a value where it is asked for, and is nowhere loose
abbrev pub BitPut : (ℕ → Bool) → Bool → ℕ → Bool → Bool → Bool → Bool → Type 0
BitPut asked on region sure loose sure' loose' = (sure' ≡ (if asked region then on else sure)) × (loose' ≡ loose)

-- but for the bit that is asked for nothing changes
abbrev pub BitMay : (ℕ → Bool) → ℕ → Bool → Bool → Bool → Bool → Type 0
BitMay asked region sure loose sure' loose' = asked region ≡ false → (sure' ≡ sure) × (loose' ≡ loose)

abbrev pub ShownPut : (ℕ → Bool) → Bool → ℕ → Bool → Bool → Bool → Type 0
ShownPut asked on region shows loose shows' = shows' ≡ (if asked region then on else shows)

abbrev pub ShownMay : (ℕ → Bool) → Bool → ℕ → Bool → Bool → Bool → Type 0
ShownMay asked on region shows loose shows' = (shows' ≡ shows) ⊎ ((asked region ≡ true) × (shows' ≡ on))

abbrev pub IsBitPut : {T : Type 0} → (ℕ → Bool) → Bool → Result T MarkFault → SectorSeen → SectorSeen → Type 0
IsBitPut asked on (Ok u) old new = Goes (BitPut asked on) (ShownPut asked on) old new
IsBitPut asked on (Err fault) old new = Goes (BitMay asked) (ShownMay asked on) old new

-- the bit that is asked for is left open: no longer sure, and loose
abbrev pub BitOpened : (ℕ → Bool) → ℕ → Bool → Bool → Bool → Bool → Type 0
BitOpened asked region sure loose sure' loose' = (sure' ≡ (sure && not (asked region))) × (loose' ≡ (loose || asked region))

-- nothing is loose any more, and the bit is put where it is asked for
abbrev pub BitSet : (ℕ → Bool) → Bool → ℕ → Bool → Bool → Bool → Bool → Type 0
BitSet asked on region sure loose sure' loose' = (sure' ≡ (if asked region then on else sure)) × (loose' ≡ false)

-- the copy has lost the mark if it was loose, and then got the bit where it is asked for
abbrev pub ShownSet : (ℕ → Bool) → Bool → ℕ → Bool → Bool → Bool → Type 0
ShownSet asked on region shows loose shows' = shows' ≡ (if asked region then on else (shows && not loose))

-- the bit that is asked for is left open, and nothing else is loose any more
abbrev pub BitLeft : (ℕ → Bool) → ℕ → Bool → Bool → Bool → Bool → Type 0
BitLeft asked region sure loose sure' loose' = (sure' ≡ (sure && not (asked region))) × (loose' ≡ asked region)

-- the copy has lost the mark if it was loose, and then may have got the bit where it is asked for
abbrev pub ShownLeft : (ℕ → Bool) → Bool → ℕ → Bool → Bool → Bool → Type 0
ShownLeft asked on region shows loose shows' = (shows' ≡ (shows && not loose)) ⊎ ((asked region ≡ true) × (shows' ≡ on))

-- a sector that was written with these bytes on every copy: they are sure, and nothing is loose
pub record IsMade (bytes : List ℕ) (old : Copies) (new : SectorSeen) : Type 0 where
  pub kept : KeepsCopies old new.copies
  pub holds : tells old ≡ true → (n : ℕ) → held new.copies n ≡ bytes
  pub sure : new.sure ≡ bytes
  pub loose : (region : ℕ) → is_loose new region ≡ false
  pub quiet : (copy device : ℕ) → faults_at new.copies copy device ≡ faults_at old copy device

-- nothing of the sector is sure, and all is loose
abbrev pub IsOpen : SectorSeen → Type 0
IsOpen s = (s.sure ≡ zeros 512) × (s.loose ≡ full 512)
