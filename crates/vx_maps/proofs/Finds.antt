-- Which copy is found, by what is found of each.
use Rattle.std.proofs.Common.{inl, inr, ℕ, zero, suc, ◌*◌, ◌-◌, ◌<◌, ◌≤◌, Bool, ◌∙◌, sym, ap, subst, arith, List, length, false, Option, Some, None, Result, Ok, Err}
use Rattle.std.specs.Prelude.{is_some, ◌&&◌, ◌%◌, nat_lt}
use Rattle.vx_base.specs.Counts.{Rose}
use Rattle.vx_mapfmt.specs.Bits.{bit_in}
use Rattle.vx_piece.specs.Seen.{Seen}
use Rattle.vx_runs.specs.Part.{told_or}
use Rattle.vx_pages.specs.Reading.{AreKnownOn, AreOfCopy, ReadsSector}
use Rattle.vx_pages.specs.Sector.{SectorSeen}
use Rattle.vx_pages.specs.Page.{EachSector}
use Rattle.vx_maps.specs.declared.fault.StoreFault.{StoreFault}
use Rattle.vx_maps.specs.declared.fault.StoreFault.TheVariants.{OutOfMemory, NoCopy, Failed, PowerLost}
use Rattle.vx_maps.specs.Copies.{copies_list}
use Rattle.vx_maps.specs.Going.{CopiesGo, ReadsPiece}
use Rattle.vx_maps.specs.Loading.{AreClipped, AreReadRows, GiveRows, GridReads, IsFoundFrom, IsHeadAs, IsHeaded, IsKnownCopy, IsPassedBy, images_at}
use Rattle.std.specs.Option.{option_map}
use Rattle.vx_maps.specs.Slots.{SheetsSeen, filled, row_at}
use Rattle.vx_maps.specs.Wholes.{whole_copies}
use Rattle.vx_maps.proofs.CopyLaws.{begins_back, begins_head, copies_count, copy_goes, tells_head}

pub copies_few : (first : List Seen) (second : Option (List Seen)) → length (copies_list first second) ≤ 2
copies_few first None = omega arith
copies_few first (Some x) = omega arith

pub whole_few : (size : ℕ) (grid : List (List SectorSeen)) (sheets : SheetsSeen) → length (whole_copies size grid sheets) ≤ 2
whole_few size grid sheets = copies_few (filled size 0 grid 0 sheets.first) (option_map (filled size 1 grid 0) sheets.second)

rose_on : (a b c d : ℕ) → a ≤ b → Rose b c → c ≤ d → Rose a d
rose_on a b c d le rose le' = omega arith

-- a copy that was passed over has been, whatever comes later
pub passed_later : (header : List ℕ) (old mid new : ℕ → ℕ → ℕ) (copies : List (List Seen)) (n : ℕ) → ((copy device : ℕ) → mid copy device ≤ new copy device) → IsPassedBy header old mid copies n → IsPassedBy header old new copies n
passed_later header old mid new copies n grown (inl rose) = inl (rose.0, rose_on _ _ _ _ (omega arith) rose.1 (grown n rose.0))
passed_later header old mid new copies n grown (inr bad) = inr bad

head_back : (header : List ℕ) (copies copies' : List (List Seen)) (n : ℕ) → CopiesGo ReadsPiece copies copies' → IsHeadAs false n header copies' → IsHeadAs false n header copies
head_back header copies copies' n go bad t h =
    let one = copy_goes ReadsPiece copies copies' n go in bad (tells_head _ _ one ∙ t) (begins_head header _ _ one h)

-- and whatever was read before
pub passed_before : (header : List ℕ) (old mid new : ℕ → ℕ → ℕ) (copies copies' : List (List Seen)) (n : ℕ) → ((copy device : ℕ) → old copy device ≤ mid copy device) → CopiesGo ReadsPiece copies copies' → IsPassedBy header mid new copies' n → IsPassedBy header old new copies n
passed_before header old mid new copies copies' n grown go (inl rose) = inl (rose.0, rose_on _ _ _ _ (grown n rose.0) rose.1 (omega arith))
passed_before header old mid new copies copies' n grown go (inr bad) = inr (head_back header copies copies' n go bad)

pub headed_back : (header : List ℕ) (copies copies' : List (List Seen)) (n : ℕ) → CopiesGo ReadsPiece copies copies' → IsHeaded header copies' n → IsHeaded header copies n
headed_back header copies copies' n go headed t =
    let one = copy_goes ReadsPiece copies copies' n go in begins_back header _ _ one (headed (tells_head _ _ one ∙ t))

clipped_back : (n inside : ℕ) (images : List (List ℕ)) (xs ys : List SectorSeen) → EachSector (λ m. ReadsSector) xs ys → AreClipped n inside images ys → AreClipped n inside images xs
clipped_back n inside images xs ys each clipped =
    record {
      bits = λ m lt told region.
          let same = (each.each m lt).copies.told n in
          clipped.bits m (let s = each.size in omega (arith, s, lt)) (ap (λ t. is_some t) same ∙ told) region
          ∙ ap (λ t. bit_in (told_or t 0) region && nat_lt (region % 4096) inside) same;
      whole = λ all m lt told.
          let same = (each.each m lt).copies.told n in
          clipped.whole all m (let s = each.size in omega (arith, s, lt)) (ap (λ t. is_some t) same ∙ told) ∙ ap (λ t. told_or t 0) same;
    }

clipped_on : (n inside : ℕ) (images : List (List ℕ)) (xs ys : List SectorSeen) → EachSector (λ m. ReadsSector) xs ys → AreClipped n inside images xs → AreClipped n inside images ys
clipped_on n inside images xs ys each clipped =
    record {
      bits = λ m lt told region.
          let at : m < length xs = let s = each.size in omega (arith, s, lt) in
          let same = (each.each m at).copies.told n in
          clipped.bits m at (ap (λ t. is_some t) (sym same) ∙ told) region ∙ ap (λ t. bit_in (told_or t 0) region && nat_lt (region % 4096) inside) (sym same);
      whole = λ all m lt told.
          let at : m < length xs = let s = each.size in omega (arith, s, lt) in
          let same = (each.each m at).copies.told n in
          clipped.whole all m at (ap (λ t. is_some t) (sym same) ∙ told) ∙ ap (λ t. told_or t 0) (sym same);
    }

rows_back : (n regions : ℕ) (rows : List (List (List ℕ))) (grid grid' : List (List SectorSeen)) → GridReads grid grid' → GiveRows {T = Unit {0}} n regions rows grid' (Ok tt) → GiveRows {T = Unit {0}} n regions rows grid (Ok tt)
rows_back n regions rows grid grid' go gives i lt = clipped_back n (regions - 4096 * i) (images_at rows i) (row_at grid i) (row_at grid' i) (go.each i lt) (gives i (let s = go.size in omega (arith, s, lt)))

-- a page of which nothing was taken away is known on the copy that was read
pub known_row : (chosen inside : ℕ) (images : List (List ℕ)) (row : List SectorSeen) (known : Option ℕ) → IsKnownCopy chosen inside known → AreClipped chosen inside images row → AreKnownOn known images row
known_row chosen inside images row None is clipped = tt
known_row chosen inside images row (Some n) is clipped = subst (λ (k : ℕ). AreOfCopy k images row) (sym is.0) (clipped.whole is.1)

pub rows_on : (n regions : ℕ) (rows : List (List (List ℕ))) (grid grid' : List (List SectorSeen)) → GridReads grid grid' → AreReadRows n regions rows grid → AreReadRows n regions rows grid'
rows_on n regions rows grid grid' go gives i lt =
    let at : i < length grid = let s = go.size in omega (arith, s, lt) in clipped_on n (regions - 4096 * i) (images_at rows i) (row_at grid i) (row_at grid' i) (go.each i at) (gives i at)

module _ (header : List ℕ) (regions : ℕ) (old mid new : ℕ → ℕ → ℕ) (copies copies' : List (List Seen)) (rows : List (List (List ℕ))) (grid grid' : List (List SectorSeen))
    (low : (copy device : ℕ) → old copy device ≤ mid copy device) (high : (copy device : ℕ) → mid copy device ≤ new copy device) (go : CopiesGo ReadsPiece copies copies') (reads : GridReads grid grid') (first : IsPassedBy header old mid copies 0) where
  all_passed : (n : ℕ) → ((m : ℕ) → 1 ≤ m → m < n → IsPassedBy header mid new copies' m) → (m : ℕ) → 0 ≤ m → m < n → IsPassedBy header old new copies m
  all_passed n behind zero le lt = passed_later header old mid new copies 0 high first
  all_passed n behind (suc m) le lt = passed_before header old mid new copies copies' (suc m) low go (behind (suc m) (omega arith) lt)

  -- what is found behind a first copy that was passed over, is found
  pub found_on : (cut : Bool) (result : Result ℕ StoreFault) → IsFoundFrom 1 header regions mid new cut copies' rows grid' result → IsFoundFrom 0 header regions old new cut copies rows grid result
  found_on cut (Ok n) found =
      let size = copies_count ReadsPiece copies copies' go in
      record {
        inside = (let i = found.inside in omega (arith, size, i));
        passed = all_passed n found.passed;
        headed = headed_back header copies copies' n go found.headed;
        gives = rows_back n regions rows grid grid' reads found.gives;
      }
  found_on cut (Err NoCopy) none = let size = copies_count ReadsPiece copies copies' go in all_passed (length copies) (λ m le lt. none m le (omega (arith, size, lt)))
  found_on cut (Err PowerLost) is = is
  found_on cut (Err OutOfMemory) h = h
  found_on cut (Err (Failed copy device)) h = h
