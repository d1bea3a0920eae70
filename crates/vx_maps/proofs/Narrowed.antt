-- That copies come nearer to one another, as one of them is read and written to the others.
use Rattle.std.proofs.Common.{◌≡◌, ◌⊎◌, inl, inr, ℕ, zero, suc, ◌*◌, ◌-◌, ◌/◌, ◌%◌, ◌<◌, Bool, true, false, refl, sym, ◌∙◌, ap, subst, arith, List, [], ◌∷◌, length, Ok}
use Rattle.std.specs.Prelude.{nat_lt, ◌&&◌, if◌then◌else◌}
use Rattle.std.proofs.lemmas.Bool.{cases_lt, lt-ltb, le-ltb}
use Rattle.vx_mapfmt.specs.declared.shape.DcoShape.{DcoShape}
use Rattle.vx_mapfmt.specs.Bits.{bit_in, marks}
use Rattle.vx_mapfmt.specs.Sizes.{map_bytes_of, page_count, page_sector}
use Rattle.vx_mapfmt.proofs.SizeLemmas.{page_fits}
use Rattle.vx_piece.specs.Seen.{Seen}
use Rattle.vx_runs.specs.Part.{Tells, told_or}
use Rattle.vx_runs.specs.Run.{EachPiece, RunTells, run_contents}
use Rattle.vx_pages.specs.declared.local_piece.LocalPiece.{Ghosts}
use Rattle.vx_pages.specs.Pages.{grid_seen}
use Rattle.vx_pages.specs.Reading.{IsCopyOf, image_at}
use Rattle.vx_pages.specs.Sector.{KeepsPiece, held, tells}
use Rattle.vx_pages.specs.Stays.{piece_same}
use Rattle.vx_maps.specs.Copies.{SameRuns}
use Rattle.vx_maps.specs.Creating.{AllTell}
use Rattle.vx_maps.specs.Going.{CopiesGo, ReadsPiece, StoreGoes}
use Rattle.vx_maps.specs.Loading.{GiveRows, GridReads, IsHeaded, copy_at, header_of, images_at}
use Rattle.vx_maps.specs.Narrowing.{AreNarrowed, IsCounted, is_marked_on}
use Rattle.vx_maps.specs.Sheets.{sheets_seen}
use Rattle.vx_maps.specs.Slots.{copies_in, row_at}
use Rattle.vx_maps.specs.Wholes.{store_copies}
use Rattle.vx_maps.specs.Written.{AreWritten, AreWrittenFrom, GridTells, held_at, heads_of}
use Rattle.vx_maps.specs.declared.store.MapStore.{MapStore}
use Rattle.vx_maps.proofs.Cells.{sector_tells}
use Rattle.vx_maps.proofs.Claims.{contents_same, same_at, same_count}
use Rattle.vx_maps.proofs.Contents.{grid_count, store_begins, store_count, store_some, store_tells, tells_begin}
use Rattle.vx_maps.proofs.CopyLaws.{copies_count, copy_goes, store_goes}
use Rattle.vx_maps.proofs.FirstSectors.{begins_own, heads_count, tells_own}
use Rattle.vx_maps.proofs.PageRows.{grid_size}
use Rattle.vx_maps.proofs.Rows.{laid_holed, pairs_of, rows_of}
use Rattle.vx_maps.proofs.Shows.{bit}
use Rattle.vx_maps.proofs.Steps.{keeps_reads, reads_same, store_then}
use Rattle.vx_maps.proofs.Writings.{written_back}

-- ---- plain copies

-- One copy counted and counts. What a copy marks that counts now that one marked, or the copy itself, which counted.
record TakesFrom (header : List ℕ) (regions from : ℕ) (old new : List (List Seen)) : Type 0 where
  was : IsCounted header old from
  is : IsCounted header new from
  each : (n map region : ℕ) → IsCounted header new n →
      (is_marked_on regions new n map region ≡ is_marked_on regions old from map region) ⊎ (IsCounted header old n × (is_marked_on regions new n map region ≡ is_marked_on regions old n map region))

narrows : (header : List ℕ) (regions from : ℕ) (old new : List (List Seen)) → TakesFrom header regions from old new → AreNarrowed header regions old new
narrows header regions from old new t = record {
  stays = λ n counted. (from, t.is);
  stood = λ n counted. (from, t.was);
  all = λ map region each n counted. elim (t.each n map region counted) [ inl e ↦ e ∙ each from t.was | inr e ↦ e.1 ∙ each n e.0 ];
  some = λ map region some. elim (t.each some.0 map region some.1) [ inl e ↦ (from, t.was, sym e ∙ some.2) | inr e ↦ (some.0, e.0, sym e.1 ∙ some.2) ];
}

-- nothing was written
pub narrowed_none : (header : List ℕ) (regions : ℕ) (copies : List (List Seen)) → AreNarrowed header regions copies copies
narrowed_none header regions copies = record { stays = λ n counted. (n, counted); stood = λ n counted. (n, counted); all = λ map region each. each; some = λ map region some. some }

-- the copies hold the same
record SameContents (old new : List (List Seen)) : Type 0 where
  size : length new ≡ length old
  each : (n k : ℕ) → run_contents (copy_at new n) k ≡ run_contents (copy_at old n) k

narrowed_on : (header : List ℕ) (regions : ℕ) (a b c : List (List Seen)) → SameContents a b → AreNarrowed header regions b c → AreNarrowed header regions a c
narrowed_on header regions a b c same narrowed =
    record {
      stays = λ n counted. narrowed.stays n (on n counted);
      stood = λ n counted. let m = narrowed.stood n counted in (m.0, back m.0 m.1);
      all = λ map region each. narrowed.all map region (λ n counted. marked n map region ∙ each n (back n counted));
      some = λ map region some. let m = narrowed.some map region some in (m.0, back m.0 m.1, sym (marked m.0 map region) ∙ m.2);
    }
  where
    on : (n : ℕ) → IsCounted header a n → IsCounted header b n
    on n counted = record { inside = (let i = counted.inside in let s = same.size in omega (arith, i, s)); headed = same.each n 0 ∙ counted.headed }

    back : (n : ℕ) → IsCounted header b n → IsCounted header a n
    back n counted = record { inside = (let i = counted.inside in let s = same.size in omega (arith, i, s)); headed = sym (same.each n 0) ∙ counted.headed }

    marked : (n map region : ℕ) → is_marked_on regions b n map region ≡ is_marked_on regions a n map region
    marked n map region = ap (λ (x : List ℕ). (nat_lt region regions && nat_lt map 32) && bit_in x region) (same.each n (page_sector (map_bytes_of regions) map (region / 4096)))

-- the copies were cut
pub narrowed_cut : (header : List ℕ) (regions : ℕ) (a b c : List (List Seen)) → SameRuns a b → AreNarrowed header regions b c → AreNarrowed header regions a c
narrowed_cut header regions a b c same = narrowed_on header regions a b c (record { size = same_count a b same; each = λ n k. contents_same _ _ k (same_at a b n same) })

-- ---- copies that were only read

read_contents : (xs ys : List Seen) (k : ℕ) → EachPiece ReadsPiece xs ys → run_contents ys k ≡ run_contents xs k
read_contents [] [] k go = refl
read_contents [] (q ∷ qs) k go = absurd go
read_contents (p ∷ ps) [] k go = absurd go
read_contents (p ∷ ps) (q ∷ qs) k go =
    ap (λ (s : ℕ). if nat_lt k s then told_or q.told k else run_contents qs (k - s)) go.0.kept.kept.sectors
    ∙ ap (λ t. if nat_lt k p.sectors then told_or t k else run_contents qs (k - p.sectors)) go.0.told
    ∙ ap (λ (x : List ℕ). if nat_lt k p.sectors then told_or p.told k else x) (read_contents ps qs (k - p.sectors) go.1)

read_same : (xs ys : List (List Seen)) → CopiesGo ReadsPiece xs ys → SameContents xs ys
read_same xs ys go = record { size = copies_count ReadsPiece xs ys go; each = λ n k. read_contents _ _ k (copy_goes ReadsPiece xs ys n go) }

pub narrowed_read : (header : List ℕ) (regions : ℕ) (a b : List (List Seen)) → CopiesGo ReadsPiece a b → AreNarrowed header regions a b
narrowed_read header regions a b go = narrowed_on header regions a b b (read_same a b go) (narrowed_none header regions b)

run_tells : (xs ys : List Seen) → EachPiece ReadsPiece xs ys → RunTells xs → RunTells ys
run_tells [] [] go told = tt
run_tells [] (q ∷ qs) go told = absurd go
run_tells (p ∷ ps) [] go told = absurd go
run_tells (p ∷ ps) (q ∷ qs) go told = (subst Tells (sym go.0.told) told.0, run_tells ps qs go.1 told.1)

pub read_tell : (xs ys : List (List Seen)) → CopiesGo ReadsPiece xs ys → AllTell xs → AllTell ys
read_tell [] [] go told = tt
read_tell [] (y ∷ ys) go told = absurd go
read_tell (x ∷ xs) [] go told = absurd go
read_tell (x ∷ xs) (y ∷ ys) go told = (run_tells x y go.0 told.0, read_tell xs ys go.1 told.1)

tell_at : (xs : List (List Seen)) (n : ℕ) → AllTell xs → RunTells (copy_at xs n)
tell_at [] n told = tt
tell_at (x ∷ xs) zero told = told.0
tell_at (x ∷ xs) (suc n) told = tell_at xs n told.1

-- ---- a store

unmarked : (regions map region : ℕ) (y : Bool) → (nat_lt region regions && nat_lt map 32) ≡ false → ((nat_lt region regions && nat_lt map 32) && y) ≡ false
unmarked regions map region y out = rw out refl

second_false : (a b : Bool) → b ≡ false → (a && b) ≡ false
second_false true b e = e
second_false false b e = refl

and_true : (a b : Bool) → b ≡ true → (a && b) ≡ a
and_true true b e = e
and_true false b e = refl

module _ {P : Type 0} {ghosts : Ghosts P} (store : MapStore P ghosts) where
  head_holds : (n : ℕ) → n < copies_in (sheets_seen ghosts.seen store.base.sheets) → run_contents (copy_at (store_copies ghosts.seen store) n) 0 ≡ held (heads_of (sheets_seen ghosts.seen store.base.sheets)) n
  head_holds n lt =
      let sheets = sheets_seen ghosts.seen store.base.sheets in
      (store_begins store n lt (held (heads_of sheets) n)).0 (begins_own (store.base.shape.map_bytes / 512) (grid_seen ghosts.seen store.pages.items) sheets.first sheets.second n lt (store_some store n lt))

  pub heads_told : AllTell (store_copies ghosts.seen store) → tells (heads_of (sheets_seen ghosts.seen store.base.sheets)) ≡ true
  heads_told told =
      let sheets = sheets_seen ghosts.seen store.base.sheets in tells_own (store.base.shape.map_bytes / 512) (grid_seen ghosts.seen store.pages.items) sheets.first sheets.second (λ n lt. store_some store n lt) told

  pub grid_told : AllTell (store_copies ghosts.seen store) → GridTells (grid_seen ghosts.seen store.pages.items)
  grid_told told i m lt in' =
      let grid = grid_seen ghosts.seen store.pages.items in
      let sheets = sheets_seen ghosts.seen store.base.sheets in
      let total = grid_count store in
      let long = grid_size store.pages.items in
      let rows : (k : ℕ) → k < length grid → length (row_at grid k) ≡ 32 = λ k low. rows_of store.pages.items k (omega (arith, long, low)) in
      let row = rows i lt in
      let low : m < 32 = omega (arith, row, in') in
      sector_tells (store.base.shape.map_bytes / 512) grid sheets i m (laid_holed _ _ grid sheets store.base.laid rows total) low row (page_fits store.base.shape.regions store.base.shape.map_bytes i store.base.shape.map_sized (omega (arith, total, lt)))
      (pairs_of store.pages.items sheets store.copied i lt m in') told

  pub of_heads : (n : ℕ) → n < length (store_copies ghosts.seen store) → IsCopyOf n (heads_of (sheets_seen ghosts.seen store.base.sheets))
  of_heads n lt =
      let e = store_count store in
      let low : n < copies_in (sheets_seen ghosts.seen store.base.sheets) = omega (arith, e, lt) in subst (λ (t : Bool). n < (if t then 2 else 1)) (sym (heads_count (sheets_seen ghosts.seen store.base.sheets))) low

  mark_is : (n map region : ℕ) → n < copies_in (sheets_seen ghosts.seen store.base.sheets) → region < store.base.shape.regions → map < 32 →
      marks store.base.shape.regions (run_contents (copy_at (store_copies ghosts.seen store) n)) map region ≡ bit_in (held_at (grid_seen ghosts.seen store.pages.items) n (region / 4096) map) region
  mark_is n map region lt in' low =
      let page = page_sector (map_bytes_of store.base.shape.regions) map (region / 4096) in
      let bits = run_contents (copy_at (store_copies ghosts.seen store) n) page in
      ap (λ (b : Bool). (b && nat_lt map 32) && bit_in bits region) (lt-ltb region store.base.shape.regions in') ∙ ap (λ (b : Bool). (true && b) && bit_in bits region) (lt-ltb map 32 low) ∙ sym (bit store n lt region map in' low)

  -- a bit of an image is one of the copy that was read
  pub image_bit : (from : ℕ) (rows : List (List (List ℕ))) → from < copies_in (sheets_seen ghosts.seen store.base.sheets) → GiveRows {T = Unit {0}} from store.base.shape.regions rows (grid_seen ghosts.seen store.pages.items) (Ok tt) → RunTells (copy_at (store_copies ghosts.seen store) from) →
      (map region : ℕ) → region < store.base.shape.regions → map < 32 → bit_in (image_at (images_at rows (region / 4096)) map) region ≡ bit_in (held_at (grid_seen ghosts.seen store.pages.items) from (region / 4096) map) region
  image_bit from rows at gives tell map region in' low =
      let page : region / 4096 < page_count store.base.shape.regions = omega (arith, in') in
      let total = grid_count store in
      let size = grid_size store.pages.items in
      let lt : region / 4096 < length (grid_seen ghosts.seen store.pages.items) = omega (arith, total, page) in
      let row = rows_of store.pages.items (region / 4096) (omega (arith, size, lt)) in
      (gives (region / 4096) lt).bits map (omega (arith, row, low)) (store_tells store from (region / 4096) map at page low tell) region
      ∙ and_true _ _ (lt-ltb (region % 4096) (store.base.shape.regions - 4096 * (region / 4096)) (omega (arith, in')))

module _ {P : Type 0} {ghosts : Ghosts P} (old new : MapStore P ghosts) (go : StoreGoes ghosts.seen KeepsPiece old new) (header : List ℕ) (from : ℕ) (rows : List (List (List ℕ))) (inside : from < length (store_copies ghosts.seen old)) (headed : IsHeaded header (store_copies ghosts.seen old) from)
    (gives : GiveRows {T = Unit {0}} from old.base.shape.regions rows (grid_seen ghosts.seen old.pages.items) (Ok tt)) (tell : AllTell (store_copies ghosts.seen old))
    (written : AreWritten header from rows (heads_of (sheets_seen ghosts.seen old.base.sheets)) (heads_of (sheets_seen ghosts.seen new.base.sheets)) (grid_seen ghosts.seen old.pages.items) (grid_seen ghosts.seen new.pages.items)) where
  -- the copies are as many as before
  in_old : (n : ℕ) → n < length (store_copies ghosts.seen new) → n < length (store_copies ghosts.seen old)
  in_old n lt = let e = copies_count KeepsPiece _ _ (store_goes KeepsPiece piece_same old new go) in omega (arith, e, lt)

  in_new : (n : ℕ) → n < length (store_copies ghosts.seen old) → n < length (store_copies ghosts.seen new)
  in_new n lt = let e = copies_count KeepsPiece _ _ (store_goes KeepsPiece piece_same old new go) in omega (arith, e, lt)

  at_old : (n : ℕ) → n < length (store_copies ghosts.seen old) → n < copies_in (sheets_seen ghosts.seen old.base.sheets)
  at_old n lt = let e = store_count old in omega (arith, e, lt)

  at_new : (n : ℕ) → n < length (store_copies ghosts.seen new) → n < copies_in (sheets_seen ghosts.seen new.base.sheets)
  at_new n lt = let e = store_count new in omega (arith, e, lt)

  was : IsCounted header (store_copies ghosts.seen old) from
  was = record { inside = inside; headed = (store_begins old from (at_old from inside) header).0 (headed (tells_begin _ (tell_at _ from tell) (store_some old from (at_old from inside)))) }

  is : IsCounted header (store_copies ghosts.seen new) from
  is = record {
    inside = in_new from inside;
    headed = head_holds new from (at_new from (in_new from inside)) ∙ elim written.stands [ inl e ↦ e ∙ sym (head_holds old from (at_old from inside)) ∙ was.headed | inr e ↦ e ];
  }

  mark_old : (n map region : ℕ) → n < length (store_copies ghosts.seen old) → region < old.base.shape.regions → map < 32 →
      is_marked_on old.base.shape.regions (store_copies ghosts.seen old) n map region ≡ bit_in (held_at (grid_seen ghosts.seen old.pages.items) n (region / 4096) map) region
  mark_old n map region lt in' low = mark_is old n map region (at_old n lt) in' low

  mark_new : (n map region : ℕ) → n < length (store_copies ghosts.seen new) → region < old.base.shape.regions → map < 32 →
      is_marked_on old.base.shape.regions (store_copies ghosts.seen new) n map region ≡ bit_in (held_at (grid_seen ghosts.seen new.pages.items) n (region / 4096) map) region
  mark_new n map region lt in' low =
      ap (λ (shape : DcoShape). marks shape.regions (run_contents (copy_at (store_copies ghosts.seen new) n)) map region) (sym go.shape)
      ∙ mark_is new n map region (at_new n lt) (subst (λ (shape : DcoShape). region < shape.regions) (sym go.shape) in') low

  each : (n map region : ℕ) → IsCounted header (store_copies ghosts.seen new) n →
      (is_marked_on old.base.shape.regions (store_copies ghosts.seen new) n map region ≡ is_marked_on old.base.shape.regions (store_copies ghosts.seen old) from map region)
      ⊎ (IsCounted header (store_copies ghosts.seen old) n × (is_marked_on old.base.shape.regions (store_copies ghosts.seen new) n map region ≡ is_marked_on old.base.shape.regions (store_copies ghosts.seen old) n map region))
  each n map region counted =
      elim (cases_lt region old.base.shape.regions) [
        | inr high ↦ let out : (nat_lt region old.base.shape.regions && nat_lt map 32) ≡ false = ap (λ (b : Bool). b && nat_lt map 32) (le-ltb region old.base.shape.regions high) in inl (unmarked _ map region _ out ∙ sym (unmarked _ map region _ out))
        | inl in' ↦
            elim (cases_lt map 32) [
              | inr high ↦ let out = second_false (nat_lt region old.base.shape.regions) (nat_lt map 32) (le-ltb map 32 high) in inl (unmarked _ map region _ out ∙ sym (unmarked _ map region _ out))
              | inl low ↦ here in' low
            ]
      ]
    where
      here : region < old.base.shape.regions → map < 32 →
          (is_marked_on old.base.shape.regions (store_copies ghosts.seen new) n map region ≡ is_marked_on old.base.shape.regions (store_copies ghosts.seen old) from map region)
          ⊎ (IsCounted header (store_copies ghosts.seen old) n × (is_marked_on old.base.shape.regions (store_copies ghosts.seen new) n map region ≡ is_marked_on old.base.shape.regions (store_copies ghosts.seen old) n map region))
      here in' low =
          let page : region / 4096 < page_count old.base.shape.regions = omega (arith, in') in
          let total = grid_count old in
          let size = grid_size old.pages.items in
          let lt : region / 4096 < length (grid_seen ghosts.seen old.pages.items) = omega (arith, total, page) in
          let row = rows_of old.pages.items (region / 4096) (omega (arith, size, lt)) in
          let before = in_old n counted.inside in
          let now = mark_new n map region counted.inside in' low in
          elim (written.each n (region / 4096) map (of_heads old n before) (sym (head_holds new n (at_new n counted.inside)) ∙ counted.headed) lt (omega (arith, row, low))) [
            | inl e ↦ inl (now ∙ ap (λ (x : List ℕ). bit_in x region) e ∙ image_bit old from rows (at_old from inside) gives (tell_at _ from tell) map region in' low ∙ sym (mark_old from map region inside in' low))
            | inr e ↦
                inr (
                  record { inside = before; headed = head_holds old n (at_old n before) ∙ e.0 },
                  now ∙ ap (λ (x : List ℕ). bit_in x region) e.1 ∙ sym (mark_old n map region before in' low),
                )
          ]

  pub narrowed_written : AreNarrowed header old.base.shape.regions (store_copies ghosts.seen old) (store_copies ghosts.seen new)
  narrowed_written = narrows header old.base.shape.regions from _ _ (record { was = was; is = is; each = each })

-- a copy was found, and written to the others
pub narrowed_filled : {P : Type 0} {ghosts : Ghosts P} (old mid new : MapStore P ghosts) → StoreGoes ghosts.seen ReadsPiece old mid → GridReads (grid_seen ghosts.seen old.pages.items) (grid_seen ghosts.seen mid.pages.items) → StoreGoes ghosts.seen KeepsPiece mid new → (from : ℕ)
    (rows : List (List (List ℕ))) → from < length (store_copies ghosts.seen old) → IsHeaded (header_of old.base.shape) (store_copies ghosts.seen old) from → GiveRows {T = Unit {0}} from old.base.shape.regions rows (grid_seen ghosts.seen old.pages.items) (Ok tt) →
    AreWrittenFrom (header_of mid.base.shape) from rows (heads_of (sheets_seen ghosts.seen mid.base.sheets)) (heads_of (sheets_seen ghosts.seen new.base.sheets)) (grid_seen ghosts.seen mid.pages.items) (grid_seen ghosts.seen new.pages.items) →
    AllTell (store_copies ghosts.seen old) → AreNarrowed (header_of old.base.shape) old.base.shape.regions (store_copies ghosts.seen old) (store_copies ghosts.seen new)
narrowed_filled {ghosts = ghosts} old mid new read reads go from rows inside headed gives writes tell =
    let size = copies_count ReadsPiece _ _ (store_goes ReadsPiece reads_same old mid read) in
    let told = read_tell _ _ (store_goes ReadsPiece reads_same old mid read) tell in
    let written = writes (of_heads mid from (omega (arith, size, inside))) (heads_told mid told) (grid_told mid told) in
    narrowed_written old new (store_then ReadsPiece KeepsPiece KeepsPiece keeps_reads old mid new read go) (header_of old.base.shape) from rows inside headed gives tell
    (subst (λ (shape : DcoShape). AreWritten (header_of shape) from rows (heads_of (sheets_seen ghosts.seen old.base.sheets)) (heads_of (sheets_seen ghosts.seen new.base.sheets)) (grid_seen ghosts.seen old.pages.items) (grid_seen ghosts.seen new.pages.items)) read.shape
    (written_back (header_of mid.base.shape) from rows _ _ _ _ _ _ read.sheets reads written))
