-- That the marks which a store tells are the bits of its copies.
use Rattle.std.proofs.Common.{◌≡◌, inl, inr, ℕ, zero, suc, ◌/◌, ◌<◌, Bool, refl, sym, ◌∙◌, ap, arith, List, length, true, false, Some, None}
use Rattle.std.specs.Prelude.{is_some, nat_lt, ◌&&◌, if◌then◌else◌, IfSome}
use Rattle.std.proofs.lemmas.Bool.{cases_lt, le-ltb, lt-ltb, ltb-true}
use Rattle.vx_mask.specs.Marks.{Marks}
use Rattle.vx_mask.proofs.Tests.{not_both}
use Rattle.vx_mapfmt.specs.Bits.{bit_in, marks}
use Rattle.vx_mapfmt.specs.Sizes.{map_bytes_of, page_count, page_sector}
use Rattle.vx_runs.specs.Run.{run_contents}
use Rattle.vx_marks.specs.Log.{LogSeen}
use Rattle.vx_pages.specs.declared.local_piece.LocalPiece.{Ghosts}
use Rattle.vx_pages.specs.Page.{all_tell, no_sector, sector_at}
use Rattle.vx_pages.specs.Pages.{grid_seen}
use Rattle.vx_pages.specs.Sector.{SectorSeen, shown}
use Rattle.vx_pages.proofs.Bits.{empty_bit}
use Rattle.vx_pages.proofs.MarkSteps.{beyond}
use Rattle.vx_maps.specs.Loading.{copy_at}
use Rattle.vx_maps.specs.Sheets.{sheets_seen}
use Rattle.vx_maps.specs.Slots.{copies_in, row_at}
use Rattle.vx_maps.specs.Store.{marks_in, no_page, page_at, pages_seen, pages_tell}
use Rattle.vx_maps.specs.Stores.{store_seen}
use Rattle.vx_maps.specs.Wholes.{store_copies}
use Rattle.vx_maps.specs.declared.store.MapStore.{MapStore}
use Rattle.vx_maps.proofs.Claims.{here, past_end}
use Rattle.vx_maps.proofs.Contents.{store_holds}
use Rattle.vx_maps.proofs.PageRows.{log_now, seen_size}
use Rattle.vx_maps.proofs.Rows.{rows_of}
use Rattle.vx_maps.proofs.StoreChanges.{tells_page}

group : (a b x y : Bool) → (b ≡ true → x ≡ y) → (b ≡ false → x ≡ false) → (a && x) ≡ ((a && b) && y)
group true true x y same none = same refl
group true false x y same none = none refl
group false b x y same none = refl

none_shown : (n region : ℕ) → shown no_sector.copies n region ≡ false
none_shown zero region = empty_bit region
none_shown (suc n) region = empty_bit region

shows_if : (t : Bool) (a : ℕ → Marks) (region n map : ℕ) (b : Bool) → t ≡ true → (a region).shows n map ≡ b → (marks_in (if t then Some a else None) region).shows n map ≡ b
shows_if true a region n map b e h = h
shows_if false a region n map b e h = cc

told_if : (t : Bool) (a : ℕ → Marks) → is_some (if t then Some a else None) ≡ true → t ≡ true
told_if true a e = refl
told_if false a e = cc

module _ {P : Type 0} {ghosts : Ghosts P} (store : MapStore P ghosts) (n : ℕ) (lt : n < copies_in (sheets_seen ghosts.seen store.base.sheets)) where
  -- the bit of a region in its page of a map
  pub bit : (region map : ℕ) → region < store.base.shape.regions → map < 32 →
      shown (sector_at (row_at (grid_seen ghosts.seen store.pages.items) (region / 4096)) map).copies n region ≡ bit_in (run_contents (copy_at (store_copies ghosts.seen store) n) (page_sector (map_bytes_of store.base.shape.regions) map (region / 4096))) region
  bit region map in' low =
      let page : region / 4096 < page_count store.base.shape.regions = omega (arith, in') in
      ap (λ (x : List ℕ). bit_in x region) (sym (store_holds store n (region / 4096) map lt page low) ∙ ap (λ (b : ℕ). run_contents (copy_at (store_copies ghosts.seen store) n) (page_sector b map (region / 4096))) store.base.shape.map_sized)

  row_shows : (region map : ℕ) → region / 4096 < length store.pages.items →
      (nat_lt region store.base.shape.regions && shown (sector_at (row_at (grid_seen ghosts.seen store.pages.items) (region / 4096)) map).copies n region) ≡ marks store.base.shape.regions (run_contents (copy_at (store_copies ghosts.seen store) n)) map region
  row_shows region map page =
      elim (cases_lt region store.base.shape.regions) [
        | inl in' ↦
            group (nat_lt region store.base.shape.regions) (nat_lt map 32) _ _ (λ e. bit region map in' (ltb-true map 32 e))
            (λ e.
            elim (cases_lt map 32) [
              | inl low ↦ not_both (lt-ltb map 32 low) e
              | inr high ↦
                  let rows = rows_of store.pages.items (region / 4096) page in
                  ap (λ (s : SectorSeen). shown s.copies n region) (beyond (row_at (grid_seen ghosts.seen store.pages.items) (region / 4096)) map (omega (arith, rows, high))) ∙ none_shown n region
            ])
        | inr past ↦ both_false (nat_lt region store.base.shape.regions) _ (nat_lt map 32) _ (le-ltb region store.base.shape.regions past)
      ]
    where
      both_false : (a x b y : Bool) → a ≡ false → (a && x) ≡ ((a && b) && y)
      both_false true x b y e = cc
      both_false false x b y e = refl

  shows_at : (region map : ℕ) → pages_tell (pages_seen ghosts.seen store.pages.items) ≡ true →
      (marks_in (page_at (pages_seen ghosts.seen store.pages.items) (region / 4096)).told region).shows n map ≡ marks store.base.shape.regions (run_contents (copy_at (store_copies ghosts.seen store) n)) map region
  shows_at region map tell =
      let size = seen_size store.pages.items in
      elim (cases_lt (region / 4096) (length store.pages.items)) [
        | inl page ↦
            let low : region / 4096 < length (pages_seen ghosts.seen store.pages.items) = omega (arith, size, page) in
            let log = log_now store.pages.items store.pages.items (region / 4096) refl page in
            let told = sym (ap (λ (l : LogSeen). is_some l.told) log) ∙ tells_page (pages_seen ghosts.seen store.pages.items) (region / 4096) low tell in
            ap (λ (l : LogSeen). (marks_in l.told region).shows n map) log
            ∙ shows_if (all_tell (row_at (grid_seen ghosts.seen store.pages.items) (region / 4096))) _ region n map _ (told_if _ _ told)
            (ap (λ (b : Bool). b && shown (sector_at (row_at (grid_seen ghosts.seen store.pages.items) (region / 4096)) map).copies n region) (store.paged.place (region / 4096) region low ∙ here store.base.shape.regions region) ∙ row_shows region map page)
        | inr past ↦
            let count = store.paged.count in
            ap (λ (l : LogSeen). (marks_in l.told region).shows n map) (past_end no_page (pages_seen ghosts.seen store.pages.items) (region / 4096) (omega (arith, size, past)))
            ∙ sym (outside (nat_lt region store.base.shape.regions) (nat_lt map 32) _ (le-ltb region store.base.shape.regions (omega (arith, size, past, count))))
      ]
    where
      outside : (a b y : Bool) → a ≡ false → ((a && b) && y) ≡ false
      outside true b y e = cc
      outside false b y e = refl

pub marks_bits : {P : Type 0} {ghosts : Ghosts P} (store : MapStore P ghosts) → IfSome {T = ℕ → Marks} (store_seen ghosts.seen store).told (λ told. (n region map : ℕ) → n < copies_in (sheets_seen ghosts.seen store.base.sheets) →
    (told region).shows n map ≡ marks store.base.shape.regions (run_contents (copy_at (store_copies ghosts.seen store) n)) map region)
marks_bits {ghosts = ghosts} store = by (pages_tell (pages_seen ghosts.seen store.pages.items)) (λ tell n region map lt. shows_at store n lt region map tell)
  where
    by : (t : Bool) → (t ≡ true → (n region map : ℕ) → n < copies_in (sheets_seen ghosts.seen store.base.sheets) → (marks_in (page_at (pages_seen ghosts.seen store.pages.items) (region / 4096)).told region).shows n map ≡ marks store.base.shape.regions (run_contents (copy_at (store_copies ghosts.seen store) n)) map region) →
        IfSome {T = ℕ → Marks} (if t then Some (λ region. marks_in (page_at (pages_seen ghosts.seen store.pages.items) (region / 4096)).told region) else None) (λ told. (n region map : ℕ) → n < copies_in (sheets_seen ghosts.seen store.base.sheets) →
        (told region).shows n map ≡ marks store.base.shape.regions (run_contents (copy_at (store_copies ghosts.seen store) n)) map region)
    by true h = h refl
    by false h = tt
