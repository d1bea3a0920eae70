-- What a store on one copy alone is as a log of marks, by the store on two that it was.
use Rattle.std.proofs.Common.{◌≡◌, inl, inr, ℕ, zero, suc, ◌/◌, ◌<◌, ◌≤◌, Bool, true, false, refl, sym, ◌∙◌, ap, subst, arith, List, [], ◌∷◌, length, Option, Some, None}
use Rattle.std.specs.Prelude.{is_some, ◌&&◌, ◌||◌, if◌then◌else◌}
use Rattle.std.proofs.lemmas.Bool.{cases_lt}
use Rattle.vx_mask.specs.Marks.{Marks}
use Rattle.vx_mask.proofs.Tests.{both_parts}
use Rattle.vx_piece.specs.Seen.{Seen}
use Rattle.vx_marks.specs.Log.{LogSeen, OnMarks}
use Rattle.vx_pages.specs.declared.local_piece.LocalPiece.{Ghosts}
use Rattle.vx_pages.specs.declared.page.Page.{Page}
use Rattle.vx_pages.specs.Page.{ArePaired, all_tell, cut_in, faults_in, no_sector, sector_at}
use Rattle.vx_pages.specs.Pages.{grid_seen}
use Rattle.vx_pages.specs.Parting.{only_of, only_sectors}
use Rattle.vx_pages.specs.Sector.{Copies, SectorSeen, copy_of, is_cut, is_loose, is_sure, shown, tells}
use Rattle.vx_pages.proofs.Telling.{each_tells}
use Rattle.vx_maps.specs.Going.{places_of}
use Rattle.vx_maps.specs.Parting.{AreOnly, only_grid}
use Rattle.vx_maps.specs.Slots.{ArePairedRows, grid_faults, row_at}
use Rattle.vx_maps.specs.Store.{AreOnCopies, marks_in, no_page, page_at, pages_cut, pages_faults, pages_seen, pages_tell, store_log}
use Rattle.vx_maps.proofs.Blank.{pages_told}
use Rattle.vx_maps.proofs.Claims.{past_end}
use Rattle.vx_maps.proofs.PageRows.{log_now, log_with, same_size, seen_size}
use Rattle.vx_maps.proofs.Partings.{two_counts}
use Rattle.vx_maps.proofs.Refusals.{grid_pages}
use Rattle.vx_maps.proofs.StoreChanges.{on_both, tells_page}

module _ (kept : ℕ) where
  pub row_now : (g : List (List SectorSeen)) (i : ℕ) → row_at (only_grid kept g) i ≡ only_sectors kept (row_at g i)
  row_now [] i = refl
  row_now (x ∷ g) zero = refl
  row_now (x ∷ g) (suc i) = row_now g i

  -- ---- a row

  only_tell : (c : Copies) → tells c ≡ true → tells (only_of kept c) ≡ true
  only_tell c t = both _ (each_tells c t kept)
    where
      both : (b : Bool) → b ≡ true → (b && true) ≡ true
      both b e = rw e refl

  row_tell : (xs : List SectorSeen) → all_tell xs ≡ true → all_tell (only_sectors kept xs) ≡ true
  row_tell [] t = refl
  row_tell (x ∷ xs) t = both _ _ (only_tell x.copies (both_parts _ _ t).0) (row_tell xs (both_parts _ _ t).1)
    where
      both : (a b : Bool) → a ≡ true → b ≡ true → (a && b) ≡ true
      both a b e f = rw (e, f) refl

  sure_now : (xs : List SectorSeen) (m region : ℕ) → is_sure (sector_at (only_sectors kept xs) m) region ≡ is_sure (sector_at xs m) region
  sure_now [] m region = refl
  sure_now (x ∷ xs) zero region = refl
  sure_now (x ∷ xs) (suc m) region = sure_now xs m region

  loose_now : (xs : List SectorSeen) (m region : ℕ) → is_loose (sector_at (only_sectors kept xs) m) region ≡ is_loose (sector_at xs m) region
  loose_now [] m region = refl
  loose_now (x ∷ xs) zero region = refl
  loose_now (x ∷ xs) (suc m) region = loose_now xs m region

  none_shown : (n k region : ℕ) → shown no_sector.copies n region ≡ shown no_sector.copies k region
  none_shown zero zero region = refl
  none_shown zero (suc k) region = refl
  none_shown (suc n) zero region = refl
  none_shown (suc n) (suc k) region = refl

  only_shown : (c : Copies) (n region : ℕ) → shown (only_of kept c) n region ≡ shown c kept region
  only_shown c zero region = refl
  only_shown c (suc n) region = refl

  shown_now : (xs : List SectorSeen) (m n region : ℕ) → shown (sector_at (only_sectors kept xs) m).copies n region ≡ shown (sector_at xs m).copies kept region
  shown_now [] m n region = none_shown n kept region
  shown_now (x ∷ xs) zero n region = only_shown x.copies n region
  shown_now (x ∷ xs) (suc m) n region = shown_now xs m n region

  pub pair_now : (xs : List SectorSeen) (m : ℕ) → is_some (sector_at (only_sectors kept xs) m).copies.second ≡ false
  pair_now [] m = refl
  pair_now (x ∷ xs) zero = refl
  pair_now (x ∷ xs) (suc m) = pair_now xs m

  row_gone : (xs : List SectorSeen) (n device : ℕ) → faults_in (only_sectors kept xs) (suc n) device ≡ 0
  row_gone [] n device = refl
  row_gone (x ∷ xs) zero device = let e = row_gone xs zero device in omega (arith, e)
  row_gone (x ∷ xs) (suc n) device = let e = row_gone xs (suc n) device in omega (arith, e)

  or_each : (a b a' b' : Bool) → (a ≡ true → a' ≡ true) → (b ≡ true → b' ≡ true) → (a || b) ≡ true → (a' || b') ≡ true
  or_each true b a' b' first last is = rw (first refl) refl
  or_each false b true b' first last is = refl
  or_each false b false b' first last is = last is

  only_cut : (c : Copies) → is_cut (only_of kept c) ≡ true → is_cut c ≡ true
  only_cut c cut = by kept c.first c.second (of_or _ cut)
    where
      of_or : (b : Bool) → (b || false) ≡ true → b ≡ true
      of_or true e = refl
      of_or false e = e

      or_right : (a b : Bool) → b ≡ true → (a || b) ≡ true
      or_right true b e = refl
      or_right false b e = e

      or_left : (a b : Bool) → a ≡ true → (a || b) ≡ true
      or_left a b e = rw e refl

      by : (n : ℕ) (first : Seen) (second : Option Seen) → (copy_of (record { first = first; second = second }) n).cut ≡ true → is_cut (record { first = first; second = second }) ≡ true
      by zero first second e = or_left _ _ e
      by (suc n) first None e = or_left _ _ e
      by (suc n) first (Some p) e = or_right _ _ e

  row_cut : (xs : List SectorSeen) → cut_in (only_sectors kept xs) ≡ true → cut_in xs ≡ true
  row_cut [] cut = cut
  row_cut (x ∷ xs) cut = or_each _ _ _ _ (only_cut x.copies) (row_cut xs) cut

  -- ---- the log of a page

  marks_page : (has : ℕ → Bool) (xs : List SectorSeen) → all_tell xs ≡ true → (region : ℕ) → AreOnly kept (marks_in (log_with has xs).told region) (marks_in (log_with has (only_sectors kept xs)).told region)
  marks_page has xs t region =
      by (all_tell xs) (all_tell (only_sectors kept xs)) t (row_tell xs t) _ _ (record { shows = λ n m. ap (λ (b : Bool). has region && b) (shown_now xs m n region); loose = λ m. ap (λ (b : Bool). has region && b) (loose_now xs m region) })
    where
      by : (t u : Bool) → t ≡ true → u ≡ true → (a b : ℕ → Marks) → AreOnly kept (a region) (b region) → AreOnly kept (marks_in (if t then Some a else None) region) (marks_in (if u then Some b else None) region)
      by true true e f a b h = h
      by true false e f a b h = cc
      by false u e f a b h = cc

  -- ---- the store

  module _ {P : Type 0} {ghosts : Ghosts P} (ps qs : List (Page P ghosts)) (places : places_of qs ≡ places_of ps) (left : grid_seen ghosts.seen qs ≡ only_grid kept (grid_seen ghosts.seen ps)) where
    abbrev has_at : ℕ → ℕ → Bool
    has_at i = (page_at (pages_seen ghosts.seen ps) i).has_region

    old_log : (i : ℕ) → i < length ps → page_at (pages_seen ghosts.seen ps) i ≡ log_with (has_at i) (row_at (grid_seen ghosts.seen ps) i)
    old_log i lt = log_now ps ps i refl lt

    new_log : (i : ℕ) → i < length ps → page_at (pages_seen ghosts.seen qs) i ≡ log_with (has_at i) (only_sectors kept (row_at (grid_seen ghosts.seen ps) i))
    new_log i lt = log_now ps qs i places lt ∙ ap (λ (xs : List SectorSeen). log_with (has_at i) xs) (ap (λ (g : List (List SectorSeen)). row_at g i) left ∙ row_now (grid_seen ghosts.seen ps) i)

    both_past : (i : ℕ) → length ps ≤ i → (page_at (pages_seen ghosts.seen qs) i ≡ no_page) × (page_at (pages_seen ghosts.seen ps) i ≡ no_page)
    both_past i le =
        let a = seen_size ps in
        let b = seen_size qs in
        let c = same_size ps qs places in
        (past_end no_page (pages_seen ghosts.seen qs) i (omega (arith, b, c, le)), past_end no_page (pages_seen ghosts.seen ps) i (omega (arith, a, le)))

    pub one_copy : AreOnCopies 1 (pages_seen ghosts.seen qs)
    one_copy i lt =
        let b = seen_size qs in
        let c = same_size ps qs places in
        ap (λ (log : LogSeen). log.copies) (new_log i (omega (arith, b, c, lt))) ∙ ap (λ (b : Bool). if b then 2 else 1) (pair_now (row_at (grid_seen ghosts.seen ps) i) 0)

    pub claims_only : (regions region m : ℕ) → (store_log regions (pages_seen ghosts.seen qs)).claims region m ≡ (store_log regions (pages_seen ghosts.seen ps)).claims region m
    claims_only regions region m =
        elim (cases_lt (region / 4096) (length ps)) [
          | inl lt ↦
              ap (λ (log : LogSeen). log.claims region m) (new_log (region / 4096) lt) ∙ ap (λ (b : Bool). has_at (region / 4096) region && b) (sure_now (row_at (grid_seen ghosts.seen ps) (region / 4096)) m region)
              ∙ sym (ap (λ (log : LogSeen). log.claims region m) (old_log (region / 4096) lt))
          | inr le ↦ let e = both_past (region / 4096) le in ap (λ (log : LogSeen). log.claims region m) (e.0 ∙ sym e.1)
        ]

    row_told : pages_tell (pages_seen ghosts.seen ps) ≡ true → (i : ℕ) → i < length ps → all_tell (row_at (grid_seen ghosts.seen ps) i) ≡ true
    row_told tell i lt =
        let a = seen_size ps in
        by (all_tell (row_at (grid_seen ghosts.seen ps) i)) _ (ap (λ (log : LogSeen). is_some log.told) (sym (old_log i lt)) ∙ tells_page (pages_seen ghosts.seen ps) i (omega (arith, a, lt)) tell)
      where
        by : (t : Bool) (marks : ℕ → Marks) → is_some (if t then Some marks else None) ≡ true → t ≡ true
        by true marks e = refl
        by false marks e = cc

    all_told : pages_tell (pages_seen ghosts.seen ps) ≡ true → pages_tell (pages_seen ghosts.seen qs) ≡ true
    all_told tell =
        pages_told (pages_seen ghosts.seen qs)
        (λ i lt.
        let b = seen_size qs in
        let c = same_size ps qs places in
        let in' : i < length ps = omega (arith, b, c, lt) in
        ap (λ (log : LogSeen). is_some log.told) (new_log i in') ∙ by (all_tell (only_sectors kept (row_at (grid_seen ghosts.seen ps) i))) _ (row_tell (row_at (grid_seen ghosts.seen ps) i) (row_told tell i in')))
      where
        by : (t : Bool) (marks : ℕ → Marks) → t ≡ true → is_some (if t then Some marks else None) ≡ true
        by true marks e = refl
        by false marks e = cc

    marks_only : pages_tell (pages_seen ghosts.seen ps) ≡ true → (region : ℕ) → AreOnly kept (marks_in (page_at (pages_seen ghosts.seen ps) (region / 4096)).told region) (marks_in (page_at (pages_seen ghosts.seen qs) (region / 4096)).told region)
    marks_only tell region =
        elim (cases_lt (region / 4096) (length ps)) [
          | inl lt ↦
              subst (λ (log : LogSeen). AreOnly kept (marks_in log.told region) (marks_in (page_at (pages_seen ghosts.seen qs) (region / 4096)).told region)) (sym (old_log (region / 4096) lt))
              (subst (λ (log : LogSeen). AreOnly kept (marks_in (log_with (has_at (region / 4096)) (row_at (grid_seen ghosts.seen ps) (region / 4096))).told region) (marks_in log.told region)) (sym (new_log (region / 4096) lt))
              (marks_page (has_at (region / 4096)) (row_at (grid_seen ghosts.seen ps) (region / 4096)) (row_told tell (region / 4096) lt) region))
          | inr le ↦
              let e = both_past (region / 4096) le in
              subst (λ (log : LogSeen). AreOnly kept (marks_in log.told region) (marks_in (page_at (pages_seen ghosts.seen qs) (region / 4096)).told region)) (sym e.1)
              (subst (λ (log : LogSeen). AreOnly kept (marks_in no_page.told region) (marks_in log.told region)) (sym e.0) (record { shows = λ n m. refl; loose = λ m. refl }))
        ]

    pub told_only : (regions : ℕ) → OnMarks (λ was is. (region : ℕ) → AreOnly kept (was region) (is region)) (store_log regions (pages_seen ghosts.seen ps)).told (store_log regions (pages_seen ghosts.seen qs)).told
    told_only regions = on_both (λ was is. (region : ℕ) → AreOnly kept (was region) (is region)) _ _ _ _ (λ tell. (all_told tell, marks_only tell))

-- ---- what is counted, and what is cut

row_counts : (kept : ℕ) → kept < 2 → (xs : List SectorSeen) → ArePaired true xs → (device : ℕ) → faults_in (only_sectors kept xs) 0 device ≡ faults_in xs kept device
row_counts kept some [] pairs device = refl
row_counts kept some (x ∷ xs) pairs device =
    let a = two_counts kept x some (pairs 0 (omega arith)) device in
    let b = row_counts kept some xs (λ m lt. pairs (suc m) (omega (arith, lt))) device in
    omega (arith, a, b)

grid_counts : (kept : ℕ) → kept < 2 → (grid : List (List SectorSeen)) → ArePairedRows true grid → (device : ℕ) → grid_faults 0 device (only_grid kept grid) ≡ grid_faults kept device grid
grid_counts kept some [] pairs device = refl
grid_counts kept some (x ∷ grid) pairs device =
    let a = row_counts kept some x (pairs 0 (omega arith)) device in
    let b = grid_counts kept some grid (λ i lt. pairs (suc i) (omega (arith, lt))) device in
    omega (arith, a, b)

grid_gone : (kept : ℕ) (grid : List (List SectorSeen)) (n device : ℕ) → grid_faults (suc n) device (only_grid kept grid) ≡ 0
grid_gone kept [] n device = refl
grid_gone kept (x ∷ grid) n device = let a = row_gone kept x n device in let b = grid_gone kept grid n device in omega (arith, a, b)

abbrev rows_cut : List (List SectorSeen) → Bool
rows_cut [] = false
rows_cut (x ∷ grid) = cut_in x || rows_cut grid

grid_cut : (kept : ℕ) (grid : List (List SectorSeen)) → rows_cut (only_grid kept grid) ≡ true → rows_cut grid ≡ true
grid_cut kept [] cut = cut
grid_cut kept (x ∷ grid) cut = or_each kept _ _ _ _ (row_cut kept x) (grid_cut kept grid) cut

module _ {P : Type 0} {ghosts : Ghosts P} where
  cut_is : (pages : List (Page P ghosts)) → pages_cut (pages_seen ghosts.seen pages) ≡ rows_cut (grid_seen ghosts.seen pages)
  cut_is [] = refl
  cut_is (p ∷ pages) = ap (λ (b : Bool). cut_in (row_at (grid_seen ghosts.seen (p ∷ pages)) 0) || b) (cut_is pages)

  module _ (kept : ℕ) (ps qs : List (Page P ghosts)) (left : grid_seen ghosts.seen qs ≡ only_grid kept (grid_seen ghosts.seen ps)) where
    pub faults_only : kept < 2 → ArePairedRows true (grid_seen ghosts.seen ps) → (device : ℕ) → pages_faults (pages_seen ghosts.seen qs) 0 device ≡ pages_faults (pages_seen ghosts.seen ps) kept device
    faults_only some pairs device = sym (grid_pages qs 0 device) ∙ ap (grid_faults 0 device) left ∙ grid_counts kept some (grid_seen ghosts.seen ps) pairs device ∙ grid_pages ps kept device

    pub faults_gone : (n device : ℕ) → pages_faults (pages_seen ghosts.seen qs) (suc n) device ≡ 0
    faults_gone n device = sym (grid_pages qs (suc n) device) ∙ ap (grid_faults (suc n) device) left ∙ grid_gone kept (grid_seen ghosts.seen ps) n device

    pub cut_only : pages_cut (pages_seen ghosts.seen qs) ≡ true → pages_cut (pages_seen ghosts.seen ps) ≡ true
    cut_only cut = cut_is ps ∙ grid_cut kept (grid_seen ghosts.seen ps) (sym (ap rows_cut left) ∙ sym (cut_is qs) ∙ cut)
