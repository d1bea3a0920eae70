-- What it is to load the maps of a volume from its copies.
use Rattle.std.specs.Prelude.{◌≡◌, ℕ, ◌%◌, ◌<◌, ◌≤◌, ◌&&◌, nat_lt, ◌-◌, ◌*◌, ◌⊎◌, Bool, true, false, is_some, List, [], length, map, Option, Some, None, MatchOption, Result, Ok, Err}
use Rattle.std.specs.Global.{Vec}
use Rattle.vx_base.specs.Counts.{Rose}
use Rattle.vx_mask.specs.Marks.{Marks}
use Rattle.vx_mapfmt.specs.declared.shape.DcoShape.{DcoShape}
use Rattle.vx_mapfmt.specs.Header.{maps_header}
use Rattle.vx_mapfmt.specs.Bits.{bit_in, marks}
use Rattle.vx_piece.specs.Seen.{Seen}
use Rattle.vx_runs.specs.Part.{told_or}
use Rattle.vx_runs.specs.Run.{RunTells, run_contents}
use Rattle.vx_marks.specs.Log.{LogSeen}
use Rattle.vx_marks.specs.declared.marker.MarkFault.{MarkFault}
use Rattle.vx_pages.specs.Images.{images_seen}
use Rattle.vx_pages.specs.Items.{EachItem, item_at}
use Rattle.vx_pages.specs.Sector.{SectorSeen, IsOpen, copy_of}
use Rattle.vx_pages.specs.Page.{AreAll, EachSector, sector_at}
use Rattle.vx_pages.specs.Reading.{AreImages, AreOfCopy, IsCopyOf, IsSettled, MaySettle, ReadsSector, image_at}
use Rattle.vx_maps.specs.declared.fault.StoreFault.{StoreFault}
use Rattle.vx_maps.specs.declared.fault.StoreFault.TheVariants.{OutOfMemory, NoCopy, Failed, PowerLost}
use Rattle.vx_maps.specs.Copies.{SameRuns}
use Rattle.vx_maps.specs.Creating.{AllBeginWith, AllTell, BeginsWith, copies_cut, head_tells}
use Rattle.vx_maps.specs.Narrowing.{AreNarrowed}
use Rattle.vx_maps.specs.Slots.{row_at}
use Rattle.vx_maps.specs.Wholes.{copy_faults}

-- ---- what is read of a copy

-- the images of each page
abbrev pub rows_seen : List (Vec (Vec ℕ)) → List (List (List ℕ))
rows_seen rows = map (λ (row : Vec (Vec ℕ)). images_seen row.items) rows

abbrev pub images_at : List (List (List ℕ)) → ℕ → List (List ℕ)
images_at rows page = item_at [] rows page

-- there are images for so many pages
pub record AreRows (pages : ℕ) (rows : List (List (List ℕ))) : Type 0 where
  pub count : length rows ≡ pages
  pub each : (i : ℕ) → i < pages → AreImages (images_at rows i)

-- Each image has the bits that the copy shows of the first so many regions of its page, and no others, if the copy tells. Where these are
-- all of the page, it is what the copy holds.
pub record AreClipped (n inside : ℕ) (images : List (List ℕ)) (sectors : List SectorSeen) : Type 0 where
  pub bits : (m : ℕ) → m < length sectors → is_some (copy_of (sector_at sectors m).copies n).told ≡ true →
      (region : ℕ) → bit_in (image_at images m) region ≡ (bit_in (told_or (copy_of (sector_at sectors m).copies n).told 0) region && nat_lt (region % 4096) inside)
  pub whole : 4096 ≤ inside → AreOfCopy n images sectors

abbrev pub GiveClipped : {T : Type 0} → ℕ → ℕ → List (List ℕ) → List SectorSeen → Result T MarkFault → Type 0
GiveClipped n inside images sectors (Ok u) = AreClipped n inside images sectors
GiveClipped n inside images sectors (Err fault) = Unit {0}

-- the copy is one of each sector's
abbrev pub AreCopied : ℕ → List (List SectorSeen) → Type 0
AreCopied n grid = (i : ℕ) → i < length grid → AreAll (λ s. IsCopyOf n s.copies) (row_at grid i)

-- the images of each page are what the copy shows of its regions
abbrev pub GiveRows : {T : Type 0} → ℕ → ℕ → List (List (List ℕ)) → List (List SectorSeen) → Result T MarkFault → Type 0
GiveRows n regions rows grid (Ok u) = (i : ℕ) → i < length grid → AreClipped n (regions - 4096 * i) (images_at rows i) (row_at grid i)
GiveRows n regions rows grid (Err fault) = Unit {0}

abbrev pub AreReadRows : ℕ → ℕ → List (List (List ℕ)) → List (List SectorSeen) → Type 0
AreReadRows n regions rows grid = GiveRows {T = Unit {0}} n regions rows grid (Ok tt)

-- no bit of a page was taken away of which so many regions are the volume's, and then the copy that was read is known to hold its images
abbrev pub IsKnownCopy : (chosen inside : ℕ) → Option ℕ → Type 0
IsKnownCopy chosen inside known = MatchOption known (Unit {0}) (λ n. (n ≡ chosen) × (4096 ≤ inside))

-- the sectors of each page were read
abbrev pub GridReads : List (List SectorSeen) → List (List SectorSeen) → Type 0
GridReads old new = EachItem [] (λ i. EachSector (λ m. ReadsSector)) old new

-- each sector of each page was made what its image is
abbrev pub GridSettled : List (List (List ℕ)) → List (List SectorSeen) → List (List SectorSeen) → Type 0
GridSettled rows old new = EachItem [] (λ i. EachSector (λ m. IsSettled (image_at (images_at rows i) m))) old new

-- ---- which copy is read

-- the header of the maps of a volume
abbrev pub header_of : DcoShape → List ℕ
header_of shape = maps_header shape.geometry.length shape.geometry.region shape.maps

abbrev pub copy_at : List (List Seen) → ℕ → List Seen
copy_at copies n = item_at [] copies n

-- a copy begins with the header, if it tells what its first sector holds
abbrev pub IsHeaded : List ℕ → List (List Seen) → ℕ → Type 0
IsHeaded header copies n = head_tells (copy_at copies n) ≡ true → BeginsWith header (copy_at copies n)

-- whether a copy begins with the header, if it tells what its first sector holds
abbrev pub IsHeadAs : Bool → ℕ → List ℕ → List (List Seen) → Type 0
IsHeadAs true n header copies = IsHeaded header copies n
IsHeadAs false n header copies = head_tells (copy_at copies n) ≡ true → BeginsWith header (copy_at copies n) → ⊥

-- the same, and where it does, the images are what it shows
abbrev pub IsReadAs : ℕ → List ℕ → ℕ → List (List Seen) → List (List (List ℕ)) → List (List SectorSeen) → Bool → Type 0
IsReadAs n header regions copies rows grid true = IsHeaded header copies n × GiveRows {T = Unit {0}} n regions rows grid (Ok tt)
IsReadAs n header regions copies rows grid false = IsHeadAs false n header copies

-- the counts of a copy's pieces on some device have risen, or it tells what its first sector holds, and that is not the header
abbrev pub IsPassedBy : List ℕ → (ℕ → ℕ → ℕ) → (ℕ → ℕ → ℕ) → List (List Seen) → ℕ → Type 0
IsPassedBy header old new copies n = ((device : ℕ) × Rose (old n device) (new n device)) ⊎ IsHeadAs false n header copies

-- a copy was read whole and begins with the header, or it was passed over, or the power went
abbrev pub IsTriedAs : ℕ → List ℕ → ℕ → (ℕ → ℕ → ℕ) → (ℕ → ℕ → ℕ) → Bool → List (List Seen) → List (List (List ℕ)) → List (List SectorSeen) → Result Bool StoreFault → Type 0
IsTriedAs n header regions old new cut copies rows grid (Ok true) = IsReadAs n header regions copies rows grid true
IsTriedAs n header regions old new cut copies rows grid (Ok false) = IsPassedBy header old new copies n
IsTriedAs n header regions old new cut copies rows grid (Err PowerLost) = cut ≡ true
IsTriedAs n header regions old new cut copies rows grid (Err OutOfMemory) = ⊥
IsTriedAs n header regions old new cut copies rows grid (Err NoCopy) = ⊥
IsTriedAs n header regions old new cut copies rows grid (Err (Failed copy device)) = ⊥

-- of the copies from one on, the first that is not passed over
pub record FoundAt (from n : ℕ) (header : List ℕ) (regions : ℕ) (old new : ℕ → ℕ → ℕ) (copies : List (List Seen)) (rows : List (List (List ℕ))) (grid : List (List SectorSeen)) : Type 0 where
  pub inside : n < length copies
  pub passed : (m : ℕ) → from ≤ m → m < n → IsPassedBy header old new copies m
  pub headed : IsHeaded header copies n
  pub gives : GiveRows {T = Unit {0}} n regions rows grid (Ok tt)

-- it was found, or there is none, or the power went
abbrev pub IsFoundFrom : ℕ → List ℕ → ℕ → (ℕ → ℕ → ℕ) → (ℕ → ℕ → ℕ) → Bool → List (List Seen) → List (List (List ℕ)) → List (List SectorSeen) → Result ℕ StoreFault → Type 0
IsFoundFrom from header regions old new cut copies rows grid (Ok n) = FoundAt from n header regions old new copies rows grid
IsFoundFrom from header regions old new cut copies rows grid (Err NoCopy) = (m : ℕ) → from ≤ m → m < length copies → IsPassedBy header old new copies m
IsFoundFrom from header regions old new cut copies rows grid (Err PowerLost) = cut ≡ true
IsFoundFrom from header regions old new cut copies rows grid (Err OutOfMemory) = ⊥
IsFoundFrom from header regions old new cut copies rows grid (Err (Failed copy device)) = ⊥

-- ---- what the copies are made

-- nothing is known of any sector
abbrev pub AreOpen : List (List SectorSeen) → Type 0
AreOpen grid = (i : ℕ) → i < length grid → AreAll IsOpen (row_at grid i)

-- each copy of each sector of each page may have been made what its image is
abbrev pub GridMaySettle : List (List (List ℕ)) → List (List SectorSeen) → List (List SectorSeen) → Type 0
GridMaySettle rows old new = EachItem [] (λ i. EachSector (λ m. MaySettle (image_at (images_at rows i) m))) old new

-- each sector was made what its image is, or each copy of each may have been
abbrev pub IsSettledAs : {T : Type 0} → List (List (List ℕ)) → List (List SectorSeen) → List (List SectorSeen) → Result T MarkFault → Type 0
IsSettledAs rows old new (Ok u) = GridSettled rows old new
IsSettledAs rows old new (Err fault) = GridMaySettle rows old new

-- ---- the whole

-- the marks are told: each copy shows what is claimed, and nothing is loose
abbrev pub AreClaims : ℕ → (ℕ → ℕ → Bool) → Option (ℕ → Marks) → Type 0
AreClaims copies claims None = ⊥
AreClaims copies claims (Some marks) = (region : ℕ) → ((n map : ℕ) → n < copies → (marks region).shows n map ≡ claims region map) × ((map : ℕ) → (marks region).loose map ≡ false)

-- What became of a store of which nothing was known, where it was to be filled: a copy was found and each made what it is; or none was
-- found; or one was found, and a write failed; or the power went.
pub record FilledAt (header : List ℕ) (regions : ℕ) (old new : ℕ → ℕ → ℕ) (copies copies' : List (List Seen)) (grid grid' : List (List SectorSeen)) : Type 0 where
  pub rows : List (List (List ℕ))
  pub copy : ℕ
  pub found : FoundAt 0 copy header regions old new copies rows grid
  pub settled : GridSettled rows grid grid'
  pub heads : AllBeginWith header copies'

-- a copy was taken, by what its pieces have counted
pub record TakenBy (header : List ℕ) (old new : ℕ → ℕ → ℕ) (copies : List (List Seen)) : Type 0 where
  pub copy : ℕ
  pub inside : copy < length copies
  pub passed : (n : ℕ) → n < copy → IsPassedBy header old new copies n
  pub headed : IsHeaded header copies copy

abbrev pub IsFilledAs : {T : Type 0} → List ℕ → ℕ → (ℕ → ℕ → ℕ) → (ℕ → ℕ → ℕ) → Bool → List (List Seen) → List (List Seen) → List (List SectorSeen) → List (List SectorSeen) → Result T StoreFault → Type 0
IsFilledAs header regions old new cut copies copies' grid grid' (Ok u) = FilledAt header regions old new copies copies' grid grid'
IsFilledAs header regions old new cut copies copies' grid grid' (Err NoCopy) = (n : ℕ) → n < length copies → IsPassedBy header old new copies n
IsFilledAs header regions old new cut copies copies' grid grid' (Err (Failed copy device)) = TakenBy header old new copies × Rose (old copy device) (new copy device)
IsFilledAs header regions old new cut copies copies' grid grid' (Err PowerLost) = cut ≡ true
IsFilledAs header regions old new cut copies copies' grid grid' (Err OutOfMemory) = ⊥

-- the same of copies that were given back
abbrev pub IsUnfilledAs : List ℕ → StoreFault → (ℕ → ℕ → ℕ) → List (List Seen) → List (List Seen) → Type 0
IsUnfilledAs header OutOfMemory old copies copies' = ⊥
IsUnfilledAs header NoCopy old copies copies' = (n : ℕ) → n < length copies → IsPassedBy header old (copy_faults copies') copies n
IsUnfilledAs header (Failed copy device) old copies copies' = TakenBy header old (copy_faults copies') copies × Rose (old copy device) (copy_faults copies' copy device)
IsUnfilledAs header PowerLost old copies copies' = copies_cut copies' ≡ true

-- A copy was passed over: the counts of its pieces on some device have risen, or it tells what it holds, and that does not begin with
-- the header.
abbrev pub IsPassed : List ℕ → (ℕ → ℕ → ℕ) → (ℕ → ℕ → ℕ) → List (List Seen) → ℕ → Type 0
IsPassed header old new copies n = ((device : ℕ) × Rose (old n device) (new n device)) ⊎ (RunTells (copy_at copies n) → run_contents (copy_at copies n) 0 ≡ header → ⊥)

-- the first copy that was not passed over: it begins with the header, if it tells what it holds
pub record IsTaken (header : List ℕ) (old new : ℕ → ℕ → ℕ) (copies : List (List Seen)) : Type 0 where
  pub copy : ℕ
  pub inside : copy < length copies
  pub passed : (n : ℕ) → n < copy → IsPassed header old new copies n
  pub headed : RunTells (copy_at copies copy) → run_contents (copy_at copies copy) 0 ≡ header

-- A store was loaded from copies: it claims what the first copy that was not passed over marks, each copy shows just that and begins with
-- the header, and nothing is loose. `counts` are what its pieces have counted since.
pub record IsLoaded (header : List ℕ) (regions : ℕ) (old : List (List Seen)) (counts : ℕ → ℕ → ℕ) (new : List (List Seen)) (log : LogSeen) : Type 0 where
  pub taken : IsTaken header (copy_faults old) counts old
  pub claims : RunTells (copy_at old taken.copy) → (region map : ℕ) → log.claims region map ≡ marks regions (run_contents (copy_at old taken.copy)) map region
  pub told : AllTell old → AreClaims log.copies log.claims log.told
  pub heads : AllBeginWith header new
  pub narrowed : AllTell old → AreNarrowed header regions old new

-- Why no store was loaded: `NoCopy` where each copy was passed over; `Failed` where one was taken, and then the count of that copy's
-- pieces on that device rose; `PowerLost` only where a piece is cut; and for want of memory, with each copy the same run.
abbrev pub IsNotLoaded : List ℕ → StoreFault → List (List Seen) → List (List Seen) → Type 0
IsNotLoaded header OutOfMemory old new = SameRuns old new
IsNotLoaded header NoCopy old new = (n : ℕ) → n < length old → IsPassed header (copy_faults old) (copy_faults new) old n
IsNotLoaded header (Failed copy device) old new = IsTaken header (copy_faults old) (copy_faults new) old × Rose (copy_faults old copy device) (copy_faults new copy device)
IsNotLoaded header PowerLost old new = copies_cut new ≡ true
