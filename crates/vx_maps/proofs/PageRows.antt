-- That a store whose pages stay in their places is still one of the same volume.
use Rattle.std.proofs.Common.{◌≡◌, ℕ, zero, suc, ◌<◌, ◌≤◌, Bool, refl, sym, ◌∙◌, ap, arith, List, [], ◌∷◌, length, get_or, set, true, false, Some, None, inl, inr, subst}
use Rattle.std.specs.Prelude.{is_some, ◌&&◌, if◌then◌else◌}
use Rattle.std.proofs.lemmas.Bool.{cases_order}
use Rattle.std.proofs.lemmas.List.{length-map}
use Rattle.vx_piece.specs.Seen.{Seen}
use Rattle.vx_marks.specs.Log.{LogSeen}
use Rattle.vx_pages.specs.declared.local_piece.LocalPiece.{Ghosts}
use Rattle.vx_pages.specs.declared.page.Page.{Page}
use Rattle.vx_pages.specs.Items.{item_at}
use Rattle.vx_pages.specs.Sectors.{sector_seen}
use Rattle.vx_pages.specs.Sector.{SectorSeen, KeepsPiece, faults_at, is_loose, is_sure, shown}
use Rattle.vx_pages.specs.Reading.{IsSettled, MaySettle, ReadsSector, image_at}
use Rattle.vx_pages.proofs.Settlement.{reads_none, settled_none}
use Rattle.vx_pages.specs.Page.{EachSector, AreAll, all_tell, cut_in, faults_in, has_region, page_log, sector_at}
use Rattle.vx_pages.specs.Pages.{SamePage, grid_seen, page_seen, sectors_of}
use Rattle.vx_maps.specs.Going.{GridGoes, PlaceOf, places_of}
use Rattle.vx_pages.specs.Pages.{RowGoes}
use Rattle.vx_pages.specs.Stays.{row_then}
use Rattle.vx_pages.proofs.Items.{at_is, at_set, at_other, set_size}
use Rattle.vx_maps.specs.Slots.{row_at}
use Rattle.vx_maps.specs.Store.{AreLogsOf, AreOnCopies, ArePages, page_at, pages_seen}

abbrev no_place : PlaceOf
no_place = record { index = 0; regions = 0 }

abbrev place_at : List PlaceOf → ℕ → PlaceOf
place_at places i = item_at no_place places i

-- a page as a log, by which regions it has
abbrev pub log_with : (ℕ → Bool) → List SectorSeen → LogSeen
log_with has sectors = record {
  there = true;
  has_region = has;
  maps = 32;
  copies = if is_some (sector_at sectors 0).copies.second then 2 else 1;
  lent = false;
  claims = λ region map. has region && is_sure (sector_at sectors map) region;
  told = if all_tell sectors then Some (λ region. record { shows = λ n map. has region && shown (sector_at sectors map).copies n region; loose = λ map. has region && is_loose (sector_at sectors map) region }) else None;
  faults = faults_in sectors;
  cut = cut_in sectors;
}

log_is : (i regions : ℕ) (row : List SectorSeen) → page_log i regions row ≡ log_with (has_region i regions) row
log_is i regions row = refl

module _ {P : Type 0} {ghosts : Ghosts P} where
  pub seen_size : (pages : List (Page P ghosts)) → length (pages_seen ghosts.seen pages) ≡ length pages
  seen_size pages = length-map pages (page_seen ghosts.seen)

  pub grid_size : (pages : List (Page P ghosts)) → length (grid_seen ghosts.seen pages) ≡ length pages
  grid_size pages = length-map pages (sectors_of ghosts.seen)

  places_size : (pages : List (Page P ghosts)) → length (places_of pages) ≡ length pages
  places_size pages = length-map pages (λ page. record { index = page.index; regions = page.regions })

  log_at : (pages : List (Page P ghosts)) (i : ℕ) → i < length pages → page_at (pages_seen ghosts.seen pages) i ≡ log_with (has_region (place_at (places_of pages) i).index (place_at (places_of pages) i).regions) (row_at (grid_seen ghosts.seen pages) i)
  log_at [] i lt = absurd (omega (arith, lt))
  log_at (p ∷ pages) zero lt = refl
  log_at (p ∷ pages) (suc i) lt = log_at pages i (omega (arith, lt))

  pub same_size : (ps qs : List (Page P ghosts)) → places_of qs ≡ places_of ps → length qs ≡ length ps
  same_size ps qs same = sym (places_size qs) ∙ ap (λ (x : List PlaceOf). length x) same ∙ places_size ps

  -- the page at an index has the regions that it had
  pub log_now : (ps qs : List (Page P ghosts)) (i : ℕ) → places_of qs ≡ places_of ps → i < length ps →
      page_at (pages_seen ghosts.seen qs) i ≡ log_with ((page_at (pages_seen ghosts.seen ps) i).has_region) (row_at (grid_seen ghosts.seen qs) i)
  log_now ps qs i same lt =
      log_at qs i (let e = same_size ps qs same in omega (arith, e, lt))
      ∙ ap (λ (places : List PlaceOf). log_with (has_region (place_at places i).index (place_at places i).regions) (row_at (grid_seen ghosts.seen qs) i)) same
      ∙ ap (λ (h : ℕ → Bool). log_with h (row_at (grid_seen ghosts.seen qs) i)) (sym (ap (λ (log : LogSeen). log.has_region) (log_at ps i lt)))

  pub pages_goes : (regions : ℕ) (ps qs : List (Page P ghosts)) → places_of qs ≡ places_of ps → ArePages regions (pages_seen ghosts.seen ps) → ArePages regions (pages_seen ghosts.seen qs)
  pages_goes regions ps qs same are =
      let size = seen_size qs ∙ same_size ps qs same in
      let back = seen_size ps in
      record {
        count = seen_size qs ∙ same_size ps qs same ∙ sym (seen_size ps) ∙ are.count;
        place = λ i region lt. ap (λ (log : LogSeen). log.has_region region) (log_now ps qs i same (omega (arith, size, lt))) ∙ are.place i region (omega (arith, size, back, lt));
        maps = λ i lt. ap (λ (log : LogSeen). log.maps) (log_now ps qs i same (omega (arith, size, lt)));
        there = λ i lt. ap (λ (log : LogSeen). log.there) (log_now ps qs i same (omega (arith, size, lt)));
        lent = λ i lt. ap (λ (log : LogSeen). log.lent) (log_now ps qs i same (omega (arith, size, lt)));
      }

  some_row : (pages : List (Page P ghosts)) (i : ℕ) → i < length pages → 0 < length (row_at (grid_seen ghosts.seen pages) i)
  some_row [] i lt = absurd (omega (arith, lt))
  some_row (p ∷ pages) zero lt = let e = length-map p.sectors.items (sector_seen ghosts.seen) in let m = p.maps in omega (arith, e, m)
  some_row (p ∷ pages) (suc i) lt = some_row pages i (omega (arith, lt))

  pub copied_goes : (rel : Seen → Seen → Type 0) (copies : ℕ) (ps qs : List (Page P ghosts)) → places_of qs ≡ places_of ps → GridGoes rel (grid_seen ghosts.seen ps) (grid_seen ghosts.seen qs) →
      AreOnCopies copies (pages_seen ghosts.seen ps) → AreOnCopies copies (pages_seen ghosts.seen qs)
  copied_goes rel copies ps qs same go on i lt =
      let size = seen_size qs ∙ same_size ps qs same in
      let inside : i < length ps = omega (arith, size, lt) in
      let long = grid_size ps in
      let back = seen_size ps in
      let row = go.each i (omega (arith, long, inside)) in
      let pair = (row.each 0 (some_row ps i inside)).pair in
      ap (λ (log : LogSeen). log.copies) (log_now ps qs i same inside) ∙ ap (λ (b : Bool). if b then 2 else 1) pair ∙ sym (ap (λ (log : LogSeen). log.copies) (log_at ps i inside)) ∙ on i (omega (arith, back, inside))

  -- the logs are still those of the pages
  pub logs_goes : (rel : Seen → Seen → Type 0) (regions : ℕ) (pair : Bool) (fact fact' : SectorSeen → Type 0) (ps qs : List (Page P ghosts)) → places_of qs ≡ places_of ps → GridGoes rel (grid_seen ghosts.seen ps) (grid_seen ghosts.seen qs) →
      ((i : ℕ) → i < length (grid_seen ghosts.seen ps) → AreAll fact' (row_at (grid_seen ghosts.seen qs) i)) →
      AreLogsOf regions pair fact (grid_seen ghosts.seen ps) (pages_seen ghosts.seen ps) → AreLogsOf regions pair fact' (grid_seen ghosts.seen qs) (pages_seen ghosts.seen qs)
  logs_goes rel regions pair fact fact' ps qs same go facts of =
      let n = same_size ps qs same in
      let a = grid_size ps in
      let b = grid_size qs in
      record {
        count = seen_size qs ∙ sym (grid_size qs);
        each = λ i lt.
            log_now ps qs i same (omega (arith, n, b, lt))
            ∙ ap (λ (h : ℕ → Bool). log_with h (row_at (grid_seen ghosts.seen qs) i)) (ap (λ (log : LogSeen). log.has_region) (of.each i (omega (arith, n, a, b, lt))));
        rows = λ i lt. let inside : i < length (grid_seen ghosts.seen ps) = omega (arith, n, a, b, lt) in (go.each i inside).size ∙ of.rows i inside;
        pairs = λ i lt m within.
            let inside : i < length (grid_seen ghosts.seen ps) = omega (arith, n, a, b, lt) in
            let row = go.each i inside in
            let s = row.size in
            let low : m < length (row_at (grid_seen ghosts.seen ps) i) = omega (arith, s, within) in
            (row.each m low).pair ∙ of.pairs i inside m low;
        facts = λ i lt. facts i (omega (arith, n, a, b, lt));
      }

  -- a page that stays one of the same place is put where it was
  pub places_set : (pages : List (Page P ghosts)) (i : ℕ) (p q : Page P ghosts) → p ≡ get_or pages i p → SamePage p q → places_of (set pages i q) ≡ places_of pages
  places_set [] i p q is same = refl
  places_set (x ∷ pages) zero p q is same =
      let e : p ≡ x = is in
      ap (λ place. place ∷ places_of pages) (ap (λ n. record { index = n; regions = q.regions }) same.index ∙ ap (λ n. record { index = p.index; regions = n }) same.regions ∙ ap (λ (page : Page P ghosts). record { index = page.index; regions = page.regions }) e)
  places_set (x ∷ pages) (suc i) p q is same = ap (λ places. record { index = x.index; regions = x.regions } ∷ places) (places_set pages i p q is same)

pub row_read_none : (xs : List SectorSeen) → EachSector (λ m. ReadsSector) xs xs
row_read_none xs = record { size = refl; each = λ m lt. reads_none _ }

pub row_settled_none : (images : List (List ℕ)) (xs : List SectorSeen) → EachSector (λ m. MaySettle (image_at images m)) xs xs
row_settled_none images xs = record { size = refl; each = λ m lt. settled_none (image_at images m) _ }

-- the counts of a page that was settled have not fallen
pub row_grows : (images : List (List ℕ)) (xs ys : List SectorSeen) → EachSector (λ m. IsSettled (image_at images m)) xs ys → (copy device : ℕ) → faults_in xs copy device ≤ faults_in ys copy device
row_grows images xs ys each copy device = go xs ys each.size (λ m lt. (each.each m lt).kept.faults copy device)
  where
    go : (xs ys : List SectorSeen) → length ys ≡ length xs → ((m : ℕ) → m < length xs → faults_at (sector_at xs m).copies copy device ≤ faults_at (sector_at ys m).copies copy device) → faults_in xs copy device ≤ faults_in ys copy device
    go [] ys size more = omega arith
    go (x ∷ xs) [] size more = absurd (omega (arith, size))
    go (x ∷ xs) (y ∷ ys) size more = let a = more 0 (omega arith) in let b = go xs ys (omega (arith, size)) (λ m lt. more (suc m) (omega (arith, lt))) in omega (arith, a, b)

module _ {P : Type 0} {ghosts : Ghosts P} where
  -- a page that keeps its pieces is put where it was
  pub grid_on : (old : List (List SectorSeen)) (pages : List (Page P ghosts)) (i : ℕ) (p q : Page P ghosts) → i < length pages → p ≡ get_or pages i p → GridGoes KeepsPiece old (grid_seen ghosts.seen pages) →
      RowGoes KeepsPiece (sectors_of ghosts.seen p) (sectors_of ghosts.seen q) → GridGoes KeepsPiece old (grid_seen ghosts.seen (set pages i q))
  grid_on old pages i p q lt is before step =
      record {
        size = set_size [] (sectors_of ghosts.seen) pages i q ∙ before.size;
        each = λ m inside.
            elim (cases_order m i) [
              | inl same ↦
                  subst (λ (k : ℕ). RowGoes KeepsPiece (row_at old k) (row_at (grid_seen ghosts.seen (set pages i q)) k)) (sym same)
                  (subst (λ (xs : List SectorSeen). RowGoes KeepsPiece (row_at old i) xs) (sym (at_set [] (sectors_of ghosts.seen) pages i q lt))
                  (row_then _ _ _ (subst (λ (xs : List SectorSeen). RowGoes KeepsPiece (row_at old i) xs) (at_is [] (sectors_of ghosts.seen) pages i p lt ∙ ap (sectors_of ghosts.seen) (sym is)) (before.each i (subst (λ (k : ℕ). k < length old) same inside))) step))
              | inr other ↦
                  subst (λ (xs : List SectorSeen). RowGoes KeepsPiece (row_at old m) xs)
                  (sym (at_other [] (sectors_of ghosts.seen) pages i m q (λ e. elim other [ inl low ↦ omega (arith, low, e) | inr high ↦ omega (arith, high, e) ]))) (before.each m inside)
            ];
      }
