-- That a store whose pieces are armed is the same log of marks.
use Rattle.std.proofs.Common.{◌≡◌, inl, inr, ℕ, zero, suc, ◌/◌, ◌<◌, ◌≤◌, Bool, refl, sym, ◌∙◌, ap, subst, arith, List, [], ◌∷◌, length, map, true, false, Option, Some, None}
use Rattle.std.specs.Prelude.{is_some, ◌&&◌, if◌then◌else◌}
use Rattle.std.specs.Option.{option_map}
use Rattle.std.proofs.lemmas.Bool.{cases_lt}
use Rattle.std.proofs.lemmas.List.{length-map}
use Rattle.vx_mask.specs.Marks.{Marks}
use Rattle.vx_mapfmt.specs.Bits.{bit_in}
use Rattle.vx_piece.specs.Seen.{Seen}
use Rattle.vx_runs.specs.Part.{told_or}
use Rattle.vx_runs.specs.Run.{IsArmed}
use Rattle.vx_marks.specs.Log.{LogSeen, OnMarks}
use Rattle.vx_pages.specs.declared.local_piece.LocalPiece.{Ghosts}
use Rattle.vx_pages.specs.declared.page.Page.{Page}
use Rattle.vx_pages.specs.Arming.{armed, armed_copies, armed_sector, armed_sectors}
use Rattle.vx_pages.specs.Page.{all_tell, sector_at}
use Rattle.vx_pages.specs.Pages.{PiecesGo, RowGoes, grid_seen}
use Rattle.vx_pages.specs.Sector.{Copies, SectorSeen, copy_of, is_loose, is_sure, shown, tells}
use Rattle.vx_pages.proofs.Settlement.{mapped_at, second_armed, told_if}
use Rattle.vx_maps.specs.Arming.{SameMarks, armed_grid, armed_sheets}
use Rattle.vx_maps.specs.Going.{GridGoes, SecondGoes, SheetsGo, SlotGoes, SlotsGo, places_of}
use Rattle.vx_maps.specs.Slots.{SheetsSeen, row_at, slot_at}
use Rattle.vx_maps.specs.Store.{marks_in, no_page, page_at, pages_seen, pages_tell, store_log}
use Rattle.vx_maps.proofs.Blank.{pages_told}
use Rattle.vx_maps.proofs.Claims.{past_end}
use Rattle.vx_maps.proofs.PageRows.{log_now, log_with, same_size, seen_size}
use Rattle.vx_maps.proofs.StoreChanges.{on_both, tells_page}

module _ (stop : Option ℕ) where
  -- ---- the pieces

  armed_slot : (x : Option Seen) → SlotGoes (IsArmed stop) x (option_map (armed stop) x)
  armed_slot None = tt
  armed_slot (Some p) = refl

  slot_armed : (xs : List (Option Seen)) (k : ℕ) → SlotGoes (IsArmed stop) (slot_at xs k) (slot_at (map (option_map (armed stop)) xs) k)
  slot_armed [] k = tt
  slot_armed (x ∷ xs) zero = armed_slot x
  slot_armed (x ∷ xs) (suc k) = slot_armed xs k

  slots_armed : (xs : List (Option Seen)) → SlotsGo (IsArmed stop) xs (map (option_map (armed stop)) xs)
  slots_armed xs = record { size = length-map xs (option_map (armed stop)); each = slot_armed xs }

  second_goes : (x : Option (List (Option Seen))) → SecondGoes (IsArmed stop) x (option_map (map (option_map (armed stop))) x)
  second_goes None = tt
  second_goes (Some xs) = slots_armed xs

  pub sheets_armed : (s : SheetsSeen) → SheetsGo (IsArmed stop) s (armed_sheets stop s)
  sheets_armed s = record { first = slots_armed s.first; second = second_goes s.second }

  copy_armed : (c : Copies) (n : ℕ) → copy_of (armed_copies stop c) n ≡ armed stop (copy_of c n)
  copy_armed c n = by c.first c.second n
    where
      by : (f : Seen) (s : Option Seen) (n : ℕ) → copy_of (armed_copies stop (record { first = f; second = s })) n ≡ armed stop (copy_of (record { first = f; second = s }) n)
      by f s zero = refl
      by f None (suc n) = refl
      by f (Some p) (suc n) = refl

  row_armed : (xs : List SectorSeen) → RowGoes (IsArmed stop) xs (armed_sectors stop xs)
  row_armed xs =
      record {
        size = length-map xs (armed_sector stop);
        each = λ m lt.
            subst (λ (s : SectorSeen). PiecesGo (IsArmed stop) (sector_at xs m).copies s.copies) (sym (mapped_at stop xs m lt)) (record { pair = second_armed stop (sector_at xs m).copies.second; each = λ n. copy_armed (sector_at xs m).copies n });
      }

  pub row_now : (g : List (List SectorSeen)) (i : ℕ) → row_at (armed_grid stop g) i ≡ armed_sectors stop (row_at g i)
  row_now [] i = refl
  row_now (x ∷ g) zero = refl
  row_now (x ∷ g) (suc i) = row_now g i

  pub grid_armed : (g : List (List SectorSeen)) → GridGoes (IsArmed stop) g (armed_grid stop g)
  grid_armed g = record { size = length-map g (armed_sectors stop); each = λ i lt. subst (λ (xs : List SectorSeen). RowGoes (IsArmed stop) (row_at g i) xs) (sym (row_now g i)) (row_armed (row_at g i)) }

  -- ---- what they show

  tells_armed : (c : Copies) → tells (armed_copies stop c) ≡ tells c
  tells_armed c = by c.first c.second
    where
      by : (f : Seen) (s : Option Seen) → tells (armed_copies stop (record { first = f; second = s })) ≡ tells (record { first = f; second = s })
      by f None = ap (λ t. is_some t && true) (told_if f.cut stop f)
      by f (Some p) = ap (λ t. is_some t && is_some (armed stop p).told) (told_if f.cut stop f) ∙ ap (λ t. is_some f.told && is_some t) (told_if p.cut stop p)

  row_tell : (xs : List SectorSeen) → all_tell (armed_sectors stop xs) ≡ all_tell xs
  row_tell [] = refl
  row_tell (x ∷ xs) = ap (λ (b : Bool). b && all_tell (armed_sectors stop xs)) (tells_armed x.copies) ∙ ap (λ (b : Bool). tells x.copies && b) (row_tell xs)

  sure_now : (xs : List SectorSeen) (m region : ℕ) → is_sure (sector_at (armed_sectors stop xs) m) region ≡ is_sure (sector_at xs m) region
  sure_now [] m region = refl
  sure_now (x ∷ xs) zero region = refl
  sure_now (x ∷ xs) (suc m) region = sure_now xs m region

  loose_now : (xs : List SectorSeen) (m region : ℕ) → is_loose (sector_at (armed_sectors stop xs) m) region ≡ is_loose (sector_at xs m) region
  loose_now [] m region = refl
  loose_now (x ∷ xs) zero region = refl
  loose_now (x ∷ xs) (suc m) region = loose_now xs m region

  shown_now : (xs : List SectorSeen) (m n region : ℕ) → shown (sector_at (armed_sectors stop xs) m).copies n region ≡ shown (sector_at xs m).copies n region
  shown_now [] m n region = refl
  shown_now (x ∷ xs) zero n region = ap (λ (p : Seen). bit_in (told_or p.told 0) region) (copy_armed x.copies n) ∙ ap (λ t. bit_in (told_or t 0) region) (told_if (copy_of x.copies n).cut stop (copy_of x.copies n))
  shown_now (x ∷ xs) (suc m) n region = shown_now xs m n region

  -- ---- the log of a page

  told_page : (has : ℕ → Bool) (xs : List SectorSeen) → is_some (log_with has (armed_sectors stop xs)).told ≡ is_some (log_with has xs).told
  told_page has xs = by _ _ (all_tell (armed_sectors stop xs)) (all_tell xs) (row_tell xs)
    where
      by : (a b : ℕ → Marks) (t u : Bool) → t ≡ u → is_some (if t then Some a else None) ≡ is_some (if u then Some b else None)
      by a b true true e = refl
      by a b true false e = cc
      by a b false true e = cc
      by a b false false e = refl

  marks_page : (has : ℕ → Bool) (xs : List SectorSeen) (region : ℕ) → ((n m : ℕ) → (marks_in (log_with has (armed_sectors stop xs)).told region).shows n m ≡ (marks_in (log_with has xs).told region).shows n m)
      × ((m : ℕ) → (marks_in (log_with has (armed_sectors stop xs)).told region).loose m ≡ (marks_in (log_with has xs).told region).loose m)
  marks_page has xs region =
      by (all_tell (armed_sectors stop xs)) (all_tell xs) (row_tell xs) _ _ (λ n m. ap (λ (b : Bool). has region && b) (shown_now xs m n region), λ m. ap (λ (b : Bool). has region && b) (loose_now xs m region))
    where
      by : (t u : Bool) → t ≡ u → (a b : ℕ → Marks) → ((n m : ℕ) → (a region).shows n m ≡ (b region).shows n m) × ((m : ℕ) → (a region).loose m ≡ (b region).loose m) →
          ((n m : ℕ) → (marks_in (if t then Some a else None) region).shows n m ≡ (marks_in (if u then Some b else None) region).shows n m) × ((m : ℕ) → (marks_in (if t then Some a else None) region).loose m ≡ (marks_in (if u then Some b else None) region).loose m)
      by true true e a b h = h
      by true false e a b h = cc
      by false true e a b h = cc
      by false false e a b h = (λ n m. refl, λ m. refl)

  -- ---- the store

  module _ {P : Type 0} {ghosts : Ghosts P} (ps qs : List (Page P ghosts)) (places : places_of qs ≡ places_of ps) (armed : grid_seen ghosts.seen qs ≡ armed_grid stop (grid_seen ghosts.seen ps)) where
    abbrev has_at : ℕ → ℕ → Bool
    has_at i = (page_at (pages_seen ghosts.seen ps) i).has_region

    old_log : (i : ℕ) → i < length ps → page_at (pages_seen ghosts.seen ps) i ≡ log_with (has_at i) (row_at (grid_seen ghosts.seen ps) i)
    old_log i lt = log_now ps ps i refl lt

    new_log : (i : ℕ) → i < length ps → page_at (pages_seen ghosts.seen qs) i ≡ log_with (has_at i) (armed_sectors stop (row_at (grid_seen ghosts.seen ps) i))
    new_log i lt = log_now ps qs i places lt ∙ ap (λ (xs : List SectorSeen). log_with (has_at i) xs) (ap (λ (g : List (List SectorSeen)). row_at g i) armed ∙ row_now (grid_seen ghosts.seen ps) i)

    both_past : (i : ℕ) → length ps ≤ i → page_at (pages_seen ghosts.seen qs) i ≡ page_at (pages_seen ghosts.seen ps) i
    both_past i le =
        let a = seen_size ps in
        let b = seen_size qs in
        let c = same_size ps qs places in
        past_end no_page (pages_seen ghosts.seen qs) i (omega (arith, b, c, le)) ∙ sym (past_end no_page (pages_seen ghosts.seen ps) i (omega (arith, a, le)))

    pub claims_armed : (regions region m : ℕ) → (store_log regions (pages_seen ghosts.seen qs)).claims region m ≡ (store_log regions (pages_seen ghosts.seen ps)).claims region m
    claims_armed regions region m =
        elim (cases_lt (region / 4096) (length ps)) [
          | inl lt ↦
              ap (λ (log : LogSeen). log.claims region m) (new_log (region / 4096) lt) ∙ ap (λ (b : Bool). has_at (region / 4096) region && b) (sure_now (row_at (grid_seen ghosts.seen ps) (region / 4096)) m region)
              ∙ sym (ap (λ (log : LogSeen). log.claims region m) (old_log (region / 4096) lt))
          | inr le ↦ ap (λ (log : LogSeen). log.claims region m) (both_past (region / 4096) le)
        ]

    all_told : pages_tell (pages_seen ghosts.seen ps) ≡ true → pages_tell (pages_seen ghosts.seen qs) ≡ true
    all_told tell =
        pages_told (pages_seen ghosts.seen qs)
        (λ i lt.
        let a = seen_size ps in
        let b = seen_size qs in
        let c = same_size ps qs places in
        let in' : i < length ps = omega (arith, b, c, lt) in
        ap (λ (log : LogSeen). is_some log.told) (new_log i in') ∙ told_page (has_at i) (row_at (grid_seen ghosts.seen ps) i) ∙ sym (ap (λ (log : LogSeen). is_some log.told) (old_log i in'))
        ∙ tells_page (pages_seen ghosts.seen ps) i (omega (arith, a, in')) tell)

    marks_same : SameMarks (λ region. marks_in (page_at (pages_seen ghosts.seen ps) (region / 4096)).told region) (λ region. marks_in (page_at (pages_seen ghosts.seen qs) (region / 4096)).told region)
    marks_same region =
        elim (cases_lt (region / 4096) (length ps)) [
          | inl lt ↦
              let same = marks_page (has_at (region / 4096)) (row_at (grid_seen ghosts.seen ps) (region / 4096)) region in
              let a = new_log (region / 4096) lt in
              let b = old_log (region / 4096) lt in (
                λ n m. ap (λ (log : LogSeen). (marks_in log.told region).shows n m) a ∙ same.0 n m ∙ sym (ap (λ (log : LogSeen). (marks_in log.told region).shows n m) b),
                λ m. ap (λ (log : LogSeen). (marks_in log.told region).loose m) a ∙ same.1 m ∙ sym (ap (λ (log : LogSeen). (marks_in log.told region).loose m) b),
              )
          | inr le ↦
              let e = both_past (region / 4096) le in (λ n m. ap (λ (log : LogSeen). (marks_in log.told region).shows n m) e, λ m. ap (λ (log : LogSeen). (marks_in log.told region).loose m) e)
        ]

    pub told_armed : (regions : ℕ) → OnMarks SameMarks (store_log regions (pages_seen ghosts.seen ps)).told (store_log regions (pages_seen ghosts.seen qs)).told
    told_armed regions = on_both SameMarks _ _ _ _ (λ tell. (all_told tell, marks_same))
