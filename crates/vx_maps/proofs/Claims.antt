-- What a store claims that was loaded from its copies.
use Rattle.std.proofs.Common.{◌≡◌, inl, inr, ℕ, zero, suc, ◌/◌, ◌-◌, ◌<◌, ◌≤◌, Bool, refl, sym, ◌∙◌, ap, subst, arith, List, [], ◌∷◌, length, true, false, Option, Some, None}
use Rattle.std.specs.Prelude.{is_some, nat_lt, ◌&&◌, if◌then◌else◌}
use Rattle.std.proofs.lemmas.Bool.{cases_lt, lt-ltb, le-ltb, eq-eqb}
use Rattle.vx_base.specs.Blocks.{Contents}
use Rattle.vx_mapfmt.specs.Bits.{bit_in}
use Rattle.vx_mapfmt.specs.Sizes.{page_count}
use Rattle.vx_piece.specs.Seen.{Seen}
use Rattle.vx_runs.specs.Part.{told_or}
use Rattle.vx_runs.specs.Run.{run_contents}
use Rattle.vx_cut.specs.Same.{SameRun, run_at, sector_in}
use Rattle.vx_cut.specs.Same.{SectorSeen as CutSector}
use Rattle.vx_cut.proofs.Same.{same_refl}
use Rattle.vx_marks.specs.Log.{LogSeen}
use Rattle.vx_pages.specs.Items.{item_at}
use Rattle.vx_pages.specs.Reading.{image_at}
use Rattle.vx_pages.specs.Sector.{SectorSeen, is_loose, is_sure, shown, tells}
use Rattle.vx_pages.specs.Page.{all_tell, has_region, marks_of, no_sector, page_log, sector_at}
use Rattle.vx_pages.proofs.Bits.{empty_bit, no_bit}
use Rattle.vx_pages.proofs.MarkSteps.{beyond}
use Rattle.vx_maps.specs.Copies.{SameRuns}
use Rattle.vx_maps.specs.Loading.{AreClaims, GridSettled, copy_at, images_at}
use Rattle.vx_maps.specs.Slots.{row_at}
use Rattle.vx_maps.specs.Store.{AreLogsOf, marks_in, no_page, page_at, pages_tell, store_log}
use Rattle.vx_maps.proofs.Blank.{log_told, pages_told}
use Rattle.vx_maps.proofs.Cells.{row_tells}

-- ---- the same run holds the same

value : Option CutSector → List ℕ
value None = []
value (Some s) = or_none s.holds
  where
    or_none : Option (List ℕ) → List ℕ
    or_none None = []
    or_none (Some b) = b

told_value : (t : Option Contents) (q : Seen) (k : ℕ) → q.told ≡ t → told_or t k ≡ value (Some (sector_in q k))
unfolding value
told_value None q k e = rw e refl
told_value (Some c) q k e = rw e refl

pick_value : (b : Bool) (x y : List ℕ) (r s : Option CutSector) → x ≡ value r → y ≡ value s → (if b then x else y) ≡ value (if b then r else s)
pick_value true x y r s e f = e
pick_value false x y r s e f = f

run_value : (ps : List Seen) (k : ℕ) → run_contents ps k ≡ value (run_at ps k)
unfolding value
run_value [] k = refl
run_value (p ∷ ps) k = pick_value (nat_lt k p.sectors) _ _ (Some (sector_in p k)) (run_at ps (k - p.sectors)) (told_value p.told p k refl) (run_value ps (k - p.sectors))

pub contents_same : (xs ys : List Seen) (k : ℕ) → SameRun xs ys → run_contents ys k ≡ run_contents xs k
contents_same xs ys k same = run_value ys k ∙ ap value (same.each k) ∙ sym (run_value xs k)

pub same_at : (xs ys : List (List Seen)) (n : ℕ) → SameRuns xs ys → SameRun (copy_at xs n) (copy_at ys n)
same_at [] [] n same = same_refl []
same_at [] (y ∷ ys) n same = absurd same
same_at (x ∷ xs) [] n same = absurd same
same_at (x ∷ xs) (y ∷ ys) zero same = same.0
same_at (x ∷ xs) (y ∷ ys) (suc n) same = same_at xs ys n same.1

pub same_count : (xs ys : List (List Seen)) → SameRuns xs ys → length ys ≡ length xs
same_count [] [] same = refl
same_count [] (y ∷ ys) same = absurd same
same_count (x ∷ xs) [] same = absurd same
same_count (x ∷ xs) (y ∷ ys) same = ap (λ (n : ℕ). suc n) (same_count xs ys same.1)

-- ---- what is claimed

both_true : (a b : Bool) → a ≡ true → b ≡ true → (a && b) ≡ true
both_true a b e f = rw (e, f) refl

first_false : (a b : Bool) → a ≡ false → (a && b) ≡ false
first_false a b e = rw e refl

second_false : (a b : Bool) → b ≡ false → (a && b) ≡ false
second_false true b e = e
second_false false b e = refl

pub past_end : {A : Type 0} (none : A) (xs : List A) (i : ℕ) → length xs ≤ i → item_at none xs i ≡ none
past_end none [] i le = refl
past_end none (x ∷ xs) zero le = absurd (omega (arith, le))
past_end none (x ∷ xs) (suc i) le = past_end none xs i (omega (arith, le))

behind_last : (regions region : ℕ) → page_count regions ≤ region / 4096 → regions ≤ region
behind_last regions region le = omega arith

pub here : (regions region : ℕ) → has_region (region / 4096) regions region ≡ nat_lt region regions
here regions region = ap (λ (b : Bool). b && nat_lt region regions) (eq-eqb (region / 4096) (region / 4096) refl)

module _ (regions : ℕ) (pair : Bool) (fact : SectorSeen → Type 0) (rows : List (List (List ℕ))) (grid grid' : List (List SectorSeen)) (logs : List LogSeen) (of : AreLogsOf regions pair fact grid' logs) (count : length grid' ≡ page_count regions)
    (settled : GridSettled rows grid grid') where
  -- the bit of a region in the image of a map
  abbrev pub in_image : ℕ → ℕ → Bool
  in_image region map = (nat_lt region regions && nat_lt map 32) && bit_in (image_at (images_at rows (region / 4096)) map) region

  long : (i : ℕ) → i < length grid' → length (row_at grid' i) ≡ 32
  long i lt = of.rows i lt

  sure_at : (i region map : ℕ) → i < length grid' → is_sure (sector_at (row_at grid' i) map) region ≡ (nat_lt map 32 && bit_in (image_at (images_at rows i) map) region)
  sure_at i region map lt =
      let size = settled.size in
      let row = settled.each i (omega (arith, size, lt)) in
      let n = long i lt in
      let s = row.size in
      elim (cases_lt map 32) [
        | inl low ↦
            ap (λ (x : List ℕ). bit_in x region) (row.each map (omega (arith, n, s, low))).sure ∙ sym (ap (λ (b : Bool). b && bit_in (image_at (images_at rows i) map) region) (lt-ltb map 32 low))
        | inr high ↦
            ap (λ (s : SectorSeen). is_sure s region) (beyond (row_at grid' i) map (omega (arith, n, high))) ∙ empty_bit region ∙ sym (first_false (nat_lt map 32) (bit_in (image_at (images_at rows i) map) region) (le-ltb map 32 high))
      ]

  pub claims_at : (region map : ℕ) → (store_log regions logs).claims region map ≡ in_image region map
  claims_at region map =
      elim (cases_lt (region / 4096) (length grid')) [
        | inl lt ↦
            ap (λ (log : LogSeen). log.claims region map) (of.each (region / 4096) lt)
            ∙ ap (λ (b : Bool). b && is_sure (sector_at (row_at grid' (region / 4096)) map) region) (here regions region)
            ∙ ap (λ (b : Bool). nat_lt region regions && b) (sure_at (region / 4096) region map lt) ∙ group (nat_lt region regions) (nat_lt map 32) (bit_in (image_at (images_at rows (region / 4096)) map) region)
        | inr le ↦
            ap (λ (log : LogSeen). log.claims region map) (past_end no_page logs (region / 4096) (let e = of.count in omega (arith, e, le)))
            ∙ sym (first_false (nat_lt region regions && nat_lt map 32) _ (first_false (nat_lt region regions) (nat_lt map 32) (le-ltb region regions (behind_last regions region (omega (arith, count, le))))))
      ]
    where
      group : (a b c : Bool) → (a && (b && c)) ≡ ((a && b) && c)
      group true b c = refl
      group false b c = refl

  module _ (tell : (i m : ℕ) → i < length grid' → m < 32 → tells (sector_at (row_at grid i) m).copies ≡ true) where
    tell_now : (i m : ℕ) → i < length grid' → m < 32 → tells (sector_at (row_at grid' i) m).copies ≡ true
    tell_now i m lt low =
        let size = settled.size in
        let row = settled.each i (omega (arith, size, lt)) in
        let n = long i lt in
        let s = row.size in
        (row.each m (omega (arith, n, s, low))).kept.tells ∙ tell i m lt low

    row_told : (i : ℕ) → i < length grid' → all_tell (row_at grid' i) ≡ true
    row_told i lt = row_tells (row_at grid' i) (λ m in'. let n = long i lt in tell_now i m lt (omega (arith, n, in')))

    all_told : pages_tell logs ≡ true
    all_told = pages_told logs (λ i lt. let e = of.count in let in' : i < length grid' = omega (arith, e, lt) in ap (λ (log : LogSeen). is_some log.told) (of.each i in') ∙ log_told i regions (row_at grid' i) (row_told i in'))

    shows_sure : (i n region map : ℕ) → i < length grid' → shown (sector_at (row_at grid' i) map).copies n region ≡ is_sure (sector_at (row_at grid' i) map) region
    shows_sure i n region map lt =
        let size = settled.size in
        let row = settled.each i (omega (arith, size, lt)) in
        let r = long i lt in
        let s = row.size in
        elim (cases_lt map 32) [
          | inl low ↦
              let here = row.each map (omega (arith, r, s, low)) in
              ap (λ (x : List ℕ). bit_in x region) (here.holds (tell i map lt low) n) ∙ sym (ap (λ (x : List ℕ). bit_in x region) here.sure)
          | inr high ↦
              let e = beyond (row_at grid' i) map (omega (arith, r, high)) in
              ap (λ (s : SectorSeen). shown s.copies n region) e ∙ none n ∙ sym (ap (λ (s : SectorSeen). is_sure s region) e ∙ empty_bit region)
        ]
      where
        none : (n : ℕ) → shown no_sector.copies n region ≡ false
        none zero = empty_bit region
        none (suc n) = empty_bit region

    none_loose : (i region map : ℕ) → i < length grid' → is_loose (sector_at (row_at grid' i) map) region ≡ false
    none_loose i region map lt =
        let size = settled.size in
        let row = settled.each i (omega (arith, size, lt)) in
        let r = long i lt in
        let s = row.size in
        elim (cases_lt map 32) [
          | inl low ↦ ap (λ (x : List ℕ). bit_in x region) (row.each map (omega (arith, r, s, low))).loose ∙ no_bit region
          | inr high ↦ ap (λ (s : SectorSeen). is_loose s region) (beyond (row_at grid' i) map (omega (arith, r, high))) ∙ empty_bit region
        ]

    -- the marks of a page
    page_marks : (i region : ℕ) → i < length grid' → ((n map : ℕ) → (marks_in (page_log i regions (row_at grid' i)).told region).shows n map ≡ (page_log i regions (row_at grid' i)).claims region map) × ((map : ℕ) → (marks_in (page_log i regions (row_at grid' i)).told region).loose map ≡ false)
    page_marks i region lt = by (all_tell (row_at grid' i)) (row_told i lt)
      where
        by : (t : Bool) → t ≡ true → ((n map : ℕ) → (marks_in (if t then Some (marks_of i regions (row_at grid' i)) else None) region).shows n map ≡ (page_log i regions (row_at grid' i)).claims region map)
            × ((map : ℕ) → (marks_in (if t then Some (marks_of i regions (row_at grid' i)) else None) region).loose map ≡ false)
        by true e = (λ n map. ap (λ (b : Bool). has_region i regions region && b) (shows_sure i n region map lt), λ map. second_false _ _ (none_loose i region map lt))
        by false e = cc

    marks_at : (region : ℕ) → ((n map : ℕ) → (marks_in (page_at logs (region / 4096)).told region).shows n map ≡ (store_log regions logs).claims region map) × ((map : ℕ) → (marks_in (page_at logs (region / 4096)).told region).loose map ≡ false)
    marks_at region =
        elim (cases_lt (region / 4096) (length grid')) [
          | inl lt ↦
              subst (λ (log : LogSeen). ((n map : ℕ) → (marks_in log.told region).shows n map ≡ log.claims region map) × ((map : ℕ) → (marks_in log.told region).loose map ≡ false)) (sym (of.each (region / 4096) lt)) (page_marks (region / 4096) region lt)
          | inr le ↦
              subst (λ (log : LogSeen). ((n map : ℕ) → (marks_in log.told region).shows n map ≡ log.claims region map) × ((map : ℕ) → (marks_in log.told region).loose map ≡ false))
              (sym (past_end no_page logs (region / 4096) (let e = of.count in omega (arith, e, le)))) (λ n map. refl, λ map. refl)
        ]

    pub claims_told : AreClaims (store_log regions logs).copies (store_log regions logs).claims (store_log regions logs).told
    claims_told = by (pages_tell logs) all_told
      where
        by : (t : Bool) → t ≡ true → AreClaims (store_log regions logs).copies (store_log regions logs).claims (if t then Some (λ region. marks_in (page_at logs (region / 4096)).told region) else None)
        by true e = λ region. let m = marks_at region in (λ n map lt. m.0 n map, m.1)
        by false e = cc
