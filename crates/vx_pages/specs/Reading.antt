-- What it is to read a sector of one copy, and to make each copy hold what was read.
use Rattle.std.specs.Prelude.{◌≡◌, ◌⊎◌, ℕ, ◌<◌, Bool, true, is_some, if◌then◌else◌, List, [], length, Option, Some, None, Result, Ok, Err}
use Rattle.vx_base.specs.Counts.{Rose}
use Rattle.vx_sector.specs.Fields.{zeros}
use Rattle.vx_piece.specs.Seen.{Seen}
use Rattle.vx_runs.specs.Part.{told_or}
use Rattle.vx_marks.specs.declared.marker.MarkFault.{MarkFault}
use Rattle.vx_marks.specs.declared.marker.MarkFault.TheVariants.{Failed, PowerLost, Busy}
use Rattle.vx_pages.specs.Items.{item_at}
use Rattle.vx_pages.specs.Sector.{Copies, SectorSeen, Holds, HasCause, KeepsCopies, KeepsPiece, KeepsSector, copy_of, copy_tells, faults_at, held, is_cut, tells}
use Rattle.vx_pages.specs.Pieces.{PieceCause}
use Rattle.vx_pages.specs.Page.{EachSector, sector_at}

-- how many copies there are
abbrev pub copies_count : Copies → ℕ
copies_count c = if is_some c.second then 2 else 1

-- the fault is one of this copy
abbrev pub IsFaultAt : {T : Type 0} → ℕ → Result T MarkFault → Type 0
IsFaultAt n (Ok u) = Unit {0}
IsFaultAt n (Err (Failed copy device)) = copy ≡ n
IsFaultAt n (Err PowerLost) = Unit {0}
IsFaultAt n (Err Busy) = Unit {0}

-- the bytes are the sector, if the piece tells what it holds
abbrev pub IsWhatIs : List ℕ → Seen → Type 0
IsWhatIs bytes p = is_some p.told ≡ true → bytes ≡ told_or p.told 0

-- the copy that is named, if one is, is known to hold the bytes
abbrev pub IsKnownOn : Option ℕ → List ℕ → Copies → Type 0
IsKnownOn None bytes c = Unit {0}
IsKnownOn (Some n) bytes c = IsWhatIs bytes (copy_of c n)

abbrev pub Gives : {T : Type 0} → List ℕ → Seen → Result T MarkFault → Type 0
Gives bytes p (Ok u) = IsWhatIs bytes p
Gives bytes p (Err fault) = Unit {0}

-- the sector of one piece of a copy is read
pub record IsGotOn {T : Type 0} (number : ℕ) (bytes : List ℕ) (old new : Seen) (result : Result T MarkFault) : Type 0 where
  pub kept : KeepsPiece old new
  pub told : new.told ≡ old.told
  pub gives : Gives bytes old result
  pub cause : PieceCause number old new result

-- what a read keeps of the pieces of a sector: all but the counts
pub record ReadsCopies (old new : Copies) : Type 0 where
  pub kept : KeepsCopies old new
  pub told : (n : ℕ) → (copy_of new n).told ≡ (copy_of old n).told

-- the sector of one copy is read
pub record IsGot {T : Type 0} (n : ℕ) (bytes : List ℕ) (old new : Copies) (result : Result T MarkFault) : Type 0 where
  pub reads : ReadsCopies old new
  pub gives : Gives bytes (copy_of old n) result
  pub at : IsFaultAt n result
  pub cause : HasCause (faults_at old) (faults_at new) (is_cut new) result

-- what a read keeps of a sector
pub record ReadsSector (old new : SectorSeen) : Type 0 where
  pub copies : ReadsCopies old.copies new.copies
  pub sure : new.sure ≡ old.sure
  pub loose : new.loose ≡ old.loose

-- why a call that also goes on after a failed read answers so: `Failed` only where that count rose, `PowerLost` only where a piece is cut
abbrev pub HasRisen : {T : Type 0} → (ℕ → ℕ → ℕ) → (ℕ → ℕ → ℕ) → Bool → Result T MarkFault → Type 0
HasRisen old new cut (Ok u) = Unit {0}
HasRisen old new cut (Err (Failed copy device)) = Rose (old copy device) (new copy device)
HasRisen old new cut (Err PowerLost) = cut ≡ true
HasRisen old new cut (Err Busy) = ⊥

abbrev pub PieceRisen : {T : Type 0} → ℕ → Seen → Seen → Result T MarkFault → Type 0
PieceRisen number old new (Ok u) = Unit {0}
PieceRisen number old new (Err (Failed copy device)) = (copy ≡ number) × (device ≡ old.device) × Rose old.faults new.faults
PieceRisen number old new (Err PowerLost) = new.cut ≡ true
PieceRisen number old new (Err Busy) = ⊥

-- one piece of a copy is made to hold the bytes
pub record IsMendedOn {T : Type 0} (number : ℕ) (bytes : List ℕ) (old new : Seen) (result : Result T MarkFault) : Type 0 where
  pub kept : KeepsPiece old new
  pub holds : is_some old.told ≡ true → Holds bytes (told_or old.told 0) (told_or new.told 0) result
  pub cause : PieceRisen number old new result

-- each copy is made to hold the bytes, in turn, up to the first whose write fails
pub record IsMended {T : Type 0} (bytes : List ℕ) (old new : Copies) (result : Result T MarkFault) : Type 0 where
  pub kept : KeepsCopies old new
  pub holds : (n : ℕ) → copy_tells old n ≡ true → Holds bytes (held old n) (held new n) result
  pub cause : HasRisen (faults_at old) (faults_at new) (is_cut new) result

-- each copy holds the bytes, they are sure, and nothing is loose
pub record IsSettled (bytes : List ℕ) (old new : SectorSeen) : Type 0 where
  pub kept : KeepsSector old new
  pub holds : tells old.copies ≡ true → (n : ℕ) → held new.copies n ≡ bytes
  pub sure : new.sure ≡ bytes
  pub loose : new.loose ≡ zeros 512

-- each copy may have been made to hold the bytes; else it holds what it held
pub record MaySettle (bytes : List ℕ) (old new : SectorSeen) : Type 0 where
  pub kept : KeepsSector old new
  pub holds : tells old.copies ≡ true → (n : ℕ) → (held new.copies n ≡ held old.copies n) ⊎ (held new.copies n ≡ bytes)

-- what became of a sector that was to be made so
abbrev pub Settles : {T : Type 0} → List ℕ → SectorSeen → SectorSeen → Result T MarkFault → Type 0
Settles bytes old new (Ok u) = IsSettled bytes old new
Settles bytes old new (Err fault) = MaySettle bytes old new

-- the sectors of a page as they were read, by their maps
abbrev pub image_at : List (List ℕ) → ℕ → List ℕ
image_at images map = item_at [] images map

-- there is a sector of 512 bytes for each map
pub record AreImages (images : List (List ℕ)) : Type 0 where
  pub maps : length images ≡ 32
  pub whole : (map : ℕ) → map < 32 → length (image_at images map) ≡ 512

-- each image is what the copy holds of its map, if it tells
abbrev pub AreOfCopy : ℕ → List (List ℕ) → List SectorSeen → Type 0
AreOfCopy n images sectors = (map : ℕ) → map < length sectors → IsWhatIs (image_at images map) (copy_of (sector_at sectors map).copies n)

-- the copy that is named, if one is, is known to hold each image
abbrev pub AreKnownOn : Option ℕ → List (List ℕ) → List SectorSeen → Type 0
AreKnownOn None images sectors = Unit {0}
AreKnownOn (Some n) images sectors = AreOfCopy n images sectors

abbrev pub GiveCopy : {T : Type 0} → ℕ → List (List ℕ) → List SectorSeen → Result T MarkFault → Type 0
GiveCopy n images sectors (Ok u) = AreOfCopy n images sectors
GiveCopy n images sectors (Err fault) = Unit {0}

-- each sector was made what its image is, or each copy of each may have been
abbrev pub AreSettled : {T : Type 0} → List (List ℕ) → List SectorSeen → List SectorSeen → Result T MarkFault → Type 0
AreSettled images old new (Ok u) = EachSector (λ map. IsSettled (image_at images map)) old new
AreSettled images old new (Err fault) = EachSector (λ map. MaySettle (image_at images map)) old new

-- the copy is one of the sector's
abbrev pub IsCopyOf : ℕ → Copies → Type 0
IsCopyOf n c = n < copies_count c
