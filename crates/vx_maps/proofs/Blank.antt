-- A store of which nothing is known, once it is firm, has no marks.
use Rattle.std.proofs.Common.{◌≡◌, inl, inr, ℕ, zero, suc, ◌/◌, ◌<◌, ◌≤◌, Bool, true, false, refl, ◌∙◌, ap, arith, List, [], ◌∷◌, length, Option, Some, None, Ok}
use Rattle.std.specs.Prelude.{is_some, not, ◌&&◌, if◌then◌else◌}
use Rattle.std.proofs.lemmas.Bool.{cases_lt}
use Rattle.vx_mask.specs.Mask.{has}
use Rattle.vx_mask.specs.Marks.{Marks}
use Rattle.vx_mask.proofs.MaskLemmas.{has-zero}
use Rattle.vx_marks.specs.Log.{LogSeen, OnMarks}
use Rattle.vx_mapfmt.specs.Bits.{bit_in}
use Rattle.vx_pages.specs.Firm.{FirmsStore}
use Rattle.vx_pages.specs.Items.{item_at}
use Rattle.vx_pages.specs.Sector.{SectorSeen, is_loose, is_sure, shown}
use Rattle.vx_pages.specs.Page.{all_tell, has_region, marks_of, no_sector, page_log, sector_at}
use Rattle.vx_maps.specs.Store.{AreLogsOf, marks_in, no_page, page_at, pages_tell, store_log}
use Rattle.vx_pages.specs.Page.{AreAll}
use Rattle.vx_maps.specs.Slots.{IsOpen, row_at}
use Rattle.vx_maps.specs.Creating.{AreBlank}
use Rattle.vx_pages.proofs.Bits.{no_bit}
use Rattle.vx_pages.proofs.OpenBits.{full_bit}

item_none : {A : Type 0} (none : A) (xs : List A) (i : ℕ) → length xs ≤ i → item_at none xs i ≡ none
item_none none [] i le = refl
item_none none (x ∷ xs) zero le = absurd (omega (arith, le))
item_none none (x ∷ xs) (suc i) le = item_none none xs i (omega (arith, le))

no_bits : (region : ℕ) → bit_in [] region ≡ false
no_bits region = has-zero _

and_false : (a b : Bool) → b ≡ false → (a && b) ≡ false
and_false true b e = e
and_false false b e = refl

-- nothing is sure of a sector
unsure : (row : List SectorSeen) (map region : ℕ) → AreAll IsOpen row → is_sure (sector_at row map) region ≡ false
unsure row map region are =
    elim (cases_lt map (length row)) [
      | inl lt ↦ ap (λ (bytes : List ℕ). bit_in bytes region) (are map lt).0 ∙ no_bit region
      | inr le ↦ ap (λ (s : SectorSeen). is_sure s region) (item_none no_sector row map le) ∙ no_bits region
    ]

-- what a sector shows is loose
all_loose : (row : List SectorSeen) (copy map region : ℕ) → AreAll IsOpen row → (shown (sector_at row map).copies copy region && not (is_loose (sector_at row map) region)) ≡ false
all_loose row copy map region are =
    elim (cases_lt map (length row)) [
      | inl lt ↦ and_false (shown (sector_at row map).copies copy region) _ (ap (λ (b : Bool). not b) (ap (λ (bytes : List ℕ). bit_in bytes region) (are map lt).1 ∙ full_bit region))
      | inr le ↦ ap (λ (s : SectorSeen). shown s.copies copy region && not (is_loose s region)) (item_none no_sector row map le) ∙ none copy
    ]
  where
    none : (copy : ℕ) → (shown no_sector.copies copy region && not (is_loose no_sector region)) ≡ false
    none zero = ap (λ (b : Bool). b && not (is_loose no_sector region)) (no_bits region)
    none (suc copy) = ap (λ (b : Bool). b && not (is_loose no_sector region)) (no_bits region)

module _ (regions : ℕ) (pair : Bool) (grid : List (List SectorSeen)) (logs : List LogSeen) (of : AreLogsOf regions pair IsOpen grid logs) where
  pub claims_none : (region map : ℕ) → (page_at logs (region / 4096)).claims region map ≡ false
  claims_none region map =
      elim (cases_lt (region / 4096) (length grid)) [
        | inl lt ↦ ap (λ (log : LogSeen). log.claims region map) (of.each (region / 4096) lt) ∙ and_false (has_region (region / 4096) regions region) _ (unsure (row_at grid (region / 4096)) map region (of.facts (region / 4096) lt))
        | inr le ↦ let count = of.count in ap (λ (log : LogSeen). log.claims region map) (item_none no_page logs (region / 4096) (omega (arith, count, le)))
      ]

  told_row : (i region copy map : ℕ) (row : List SectorSeen) → AreAll IsOpen row → ((marks_in (page_log i regions row).told region).shows copy map && not ((marks_in (page_log i regions row).told region).loose map)) ≡ false
  told_row i region copy map row are = by (all_tell row)
    where
      both : (h a b : Bool) → (a && not b) ≡ false → ((h && a) && not (h && b)) ≡ false
      both true a b e = e
      both false a b e = refl

      by : (t : Bool) → ((marks_in (if t then Some (marks_of i regions row) else None) region).shows copy map && not ((marks_in (if t then Some (marks_of i regions row) else None) region).loose map)) ≡ false
      by true = both (has_region i regions region) (shown (sector_at row map).copies copy region) (is_loose (sector_at row map) region) (all_loose row copy map region are)
      by false = refl

  shown_loose : (region copy map : ℕ) → ((marks_in (page_at logs (region / 4096)).told region).shows copy map && not ((marks_in (page_at logs (region / 4096)).told region).loose map)) ≡ false
  shown_loose region copy map =
      elim (cases_lt (region / 4096) (length grid)) [
        | inl lt ↦ ap (λ (log : LogSeen). (marks_in log.told region).shows copy map && not ((marks_in log.told region).loose map)) (of.each (region / 4096) lt) ∙ told_row (region / 4096) region copy map (row_at grid (region / 4096)) (of.facts (region / 4096) lt)
        | inr le ↦ let count = of.count in ap (λ (log : LogSeen). (marks_in log.told region).shows copy map && not ((marks_in log.told region).loose map)) (item_none no_page logs (region / 4096) (omega (arith, count, le)))
      ]

  firm_blank : (t : Bool) → t ≡ true → (f : ℕ → Marks) (new : Option (ℕ → Marks)) → ((region copy map : ℕ) → ((f region).shows copy map && not ((f region).loose map)) ≡ false) → OnMarks (FirmsStore {T = Unit {0}} (Ok tt)) (if t then Some f else None) new → AreBlank new
  firm_blank true e f None none firm = absurd firm
  firm_blank true e f (Some n) none firm = λ region copy map.
      ((firm region).shows copy map ∙ ap (λ (b : Bool). b && not (has 0 map)) (none region copy map), (firm region).loose map)
  firm_blank false e f new none firm = cc

  pub blank : (new : Option (ℕ → Marks)) → pages_tell logs ≡ true → OnMarks (FirmsStore {T = Unit {0}} (Ok tt)) (store_log regions logs).told new → AreBlank new
  blank new told firm = firm_blank (pages_tell logs) told (λ region. marks_in (page_at logs (region / 4096)).told region) new shown_loose firm

-- the pages tell where their sectors do
pub pages_told : (logs : List LogSeen) → ((i : ℕ) → i < length logs → is_some (page_at logs i).told ≡ true) → pages_tell logs ≡ true
pages_told [] each = refl
pages_told (x ∷ logs) each = both _ _ (each 0 (omega arith)) (pages_told logs (λ i lt. each (suc i) (omega (arith, lt))))
  where
    both : (a b : Bool) → a ≡ true → b ≡ true → (a && b) ≡ true
    both a b e f = rw (e, f) refl

pub log_told : (i regions : ℕ) (row : List SectorSeen) → all_tell row ≡ true → is_some (page_log i regions row).told ≡ true
log_told i regions row e = ap (λ (t : Bool). is_some (if t then Some (marks_of i regions row) else None)) e
