-- A header's sector says the header, and a sector that says something is a header's.
use Rattle.std.proofs.Common.{◌≡◌, ℕ, ◌+◌, ◌-◌, ◌^◌, ◌<◌, ◌≤◌, true, false, cond, Bool, List, length, take, drop, get_or, Option, Some, None, arith, refl, sym, ◌∙◌, ap, inl, inr, IsTrue}
use Rattle.std.specs.Prelude.{◌&&◌, ◌==◌, nat_lt, nat_le, codes}
use Rattle.std.specs.List.{position_or_len, list_all}
use Rattle.std.specs.Int.{w64, from_be_bytes}
use Rattle.std.specs.Str.{bytes_eq}
use Rattle.std.proofs.lemmas.Bool.{and_parts, and_from, cond-true, ltb-true, leb-true, lt-ltb, le-leb, cases_eq, eq-eqb, ne_eqb, both_ways}
use Rattle.std.proofs.lemmas.List.{take_at}
use Rattle.std.proofs.lemmas.List.Folds.{list_all_at}
use Rattle.std.proofs.lemmas.List.Sums.{position_or_len_is}
use Rattle.std.proofs.lemmas.Nat.{from_be_bytes-to_be_bytes_8}
use Rattle.std.proofs.lemmas.Slice.Eq.{bytes_eq-Decides}
use Rattle.vx_names.specs.Form.{is_name_byte}
use Rattle.vx_base.specs.Named.{Word}
use Rattle.vx_sector.specs.Fields.{zeros, eight_bytes}
use Rattle.vx_sector.proofs.FieldLemmas.{length-eight_bytes}
use Rattle.vx_header.specs.Named.{Label, label_of, name_in, label_in, is_label, sector_naming, named_by, header_of}
use Rattle.vx_header.specs.Places.{IsFirstBad, is_header_place, header_end}
use Rattle.vx_header.specs.Sectors.{is_short_name, name_field}
use Rattle.vx_header.specs.Spelled.{sector_of_header, IsHeader}
use Rattle.vx_header.specs.declared.header.Header.{Header}
use Rattle.vx_header.proofs.HeaderPlaces.{length-header, header_group, header_disk, header_slot, header_sectors}
use Rattle.vx_header.proofs.HeaderFields.{mark_of_header}
use Rattle.vx_header.proofs.NameLemmas.{length-name_field, length_of_short, name_of_short, field_in, field_past}
use Rattle.vx_header.proofs.Windows.{same_field}

tells_eight : (n : ℕ) → n < 2 ^ 64 → from_be_bytes w64 (eight_bytes n) ≡ n
unfolding eight_bytes
tells_eight n fits = from_be_bytes-to_be_bytes_8 n fits

-- what a header says, in its ranges
pub record Fits (l : Label) : Type 0 where
  pub group : IsTrue (is_short_name l.group)
  pub disk : IsTrue (is_short_name l.disk)
  pub slot : l.slot < 32
  pub public : 2048 < l.sectors
  pub at_most : l.sectors ≤ 2 ^ 40

pub fits_from : (l : Label) → is_label l ≡ true → Fits l
fits_from l e =
    let a = and_parts (is_short_name l.group && is_short_name l.disk && nat_lt l.slot 32 && nat_lt 2048 l.sectors) (nat_le l.sectors (2 ^ 40)) e in
    let b = and_parts (is_short_name l.group && is_short_name l.disk && nat_lt l.slot 32) (nat_lt 2048 l.sectors) a.0 in
    let c = and_parts (is_short_name l.group && is_short_name l.disk) (nat_lt l.slot 32) b.0 in
    let d = and_parts (is_short_name l.group) (is_short_name l.disk) c.0 in
    record { group = d.0; disk = d.1; slot = ltb-true _ _ c.1; public = ltb-true _ _ b.1; at_most = leb-true _ _ a.1 }

pub fits_is : (l : Label) → Fits l → is_label l ≡ true
fits_is l f = and_from _ _ (and_from _ _ (and_from _ _ (and_from _ _ f.group f.disk) (lt-ltb _ _ f.slot)) (lt-ltb _ _ f.public)) (le-leb _ _ f.at_most)

-- the name of its field
name_back : (name : Word) → IsTrue (is_short_name name) → name_in (name_field name) ≡ name
name_back name short = ap (λ n. take n (name_field name)) place ∙ take_at name (zeros (32 - length name)) (length name) refl
  where
    few : length name ≤ 24
    few = length_of_short name short

    no_zero : (i : ℕ) → i < length name → (get_or name i 0 == 0) ≡ false
    no_zero i lt = elim (cases_eq (get_or name i 0) 0) [
      | inr other ↦ ne_eqb _ _ other
      | inl zero ↦
          let all : list_all is_name_byte name ≡ true = (and_parts _ (list_all is_name_byte name) (name_of_short name short)).1 in
          absurd (both_ways (list_all is_name_byte name) (list_all_at is_name_byte name i 0 lt (ap is_name_byte zero)) all)
    ]

    place : position_or_len (λ b. b == 0) (name_field name) ≡ length name
    place = position_or_len_is (λ b. b == 0) (name_field name) (length name) 0 (omega (arith, length-name_field name short, few))
        (λ k lt. ap (λ b. b == 0) (field_in name k lt) ∙ no_zero k lt) (λ lt. eq-eqb _ _ (field_past name (length name) (omega arith)))

same_label : (l m : Label) → l.group ≡ m.group → l.disk ≡ m.disk → l.slot ≡ m.slot → l.sectors ≡ m.sectors → l ≡ m
same_label l m a b c d = λ i. record { group = a i; disk = b i; slot = c i; sectors = d i }

module _ (l : Label) (f : Fits l) where
  size : length (sector_naming l) ≡ 512
  size = length-header l.group l.disk l.slot l.sectors f.group f.disk

  field_group : take 32 (drop 8 (sector_naming l)) ≡ name_field l.group
  field_group = sym (same_field (sector_naming l) (name_field l.group) 8 32 (length-name_field l.group f.group) (omega (arith, size))
      (λ i lt. let place : 8 + i - 8 ≡ i = omega arith in
      header_group l.group l.disk l.slot l.sectors f.group f.disk (8 + i) (omega arith) (omega (arith, lt)) ∙ ap (λ (j : ℕ). get_or (name_field l.group) j 0) place))

  field_disk : take 32 (drop 40 (sector_naming l)) ≡ name_field l.disk
  field_disk = sym (same_field (sector_naming l) (name_field l.disk) 40 32 (length-name_field l.disk f.disk) (omega (arith, size))
      (λ i lt. let place : 40 + i - 40 ≡ i = omega arith in
      header_disk l.group l.disk l.slot l.sectors f.group f.disk (40 + i) (omega arith) (omega (arith, lt)) ∙ ap (λ (j : ℕ). get_or (name_field l.disk) j 0) place))

  field_sectors : take 8 (drop 80 (sector_naming l)) ≡ eight_bytes l.sectors
  field_sectors = sym (same_field (sector_naming l) (eight_bytes l.sectors) 80 8 (length-eight_bytes l.sectors) (omega (arith, size))
      (λ i lt. let place : 80 + i - 80 ≡ i = omega arith in
      header_sectors l.group l.disk l.slot l.sectors f.group f.disk (80 + i) (omega arith) (omega (arith, lt)) ∙ ap (λ (j : ℕ). get_or (eight_bytes l.sectors) j 0) place))

  label_back : label_in (sector_naming l) ≡ l
  unfolding label_in
  label_back = same_label _ l
      (ap name_in field_group ∙ name_back l.group f.group)
      (ap name_in field_disk ∙ name_back l.disk f.disk)
      (header_slot l.group l.disk l.slot l.sectors f.group f.disk)
      (ap (from_be_bytes w64) field_sectors ∙ tells_eight l.sectors (omega (arith, f.at_most)))

  pub header_back : header_of (sector_naming l) ≡ Some l
  unfolding header_of
  header_back = ap (λ m. named_by m (sector_naming l)) label_back ∙ cond-true _ _ _ (and_from _ _ (fits_is l f) ((bytes_eq-Decides (sector_naming l) (sector_naming l)).1 refl))

-- what a sector says it spells, in the ranges
pub record Spells (sector : List ℕ) (l : Label) : Type 0 where
  pub fits : Fits l
  pub spelled : sector ≡ sector_naming l

some_same : (l m : Label) → Some l ≡ Some m → l ≡ m
some_same l m e = cc

named_where : (b : Bool) (l m : Label) → cond b (Some l) None ≡ Some m → (b ≡ true) × (l ≡ m)
named_where true l m e = (refl, some_same l m e)
named_where false l m e = cc

pub header_spells : (sector : List ℕ) (l : Label) → header_of sector ≡ Some l → Spells sector l
unfolding header_of
header_spells sector l e =
    let where_named = named_where _ (label_in sector) l e in
    let parts = and_parts (is_label (label_in sector)) (bytes_eq sector (sector_naming (label_in sector))) where_named.0 in
    let fits : is_label l ≡ true = ap is_label (sym where_named.1) ∙ parts.0 in
    record { fits = fits_from l fits; spelled = (bytes_eq-Decides sector (sector_naming (label_in sector))).0 parts.1 ∙ ap sector_naming where_named.1 }

-- a header's own sector says it
pub header_said : (h : Header) (sector : List ℕ) → sector ≡ sector_of_header h → header_of sector ≡ Some (label_of h)
header_said h sector is = ap header_of is ∙ header_back (label_of h) (record { group = h.group_short; disk = h.disk_short; slot = h.slot_below; public = h.public; at_most = h.at_most })

module _ (sector : List ℕ) where
  -- what says something is a header's sector
  pub header_is : (l : Label) → header_of sector ≡ Some l → IsHeader sector
  header_is l e =
      let spells = header_spells sector l e in
      (record { group = l.group; disk = l.disk; slot = l.slot; sectors = l.sectors; group_short = spells.fits.group; disk_short = spells.fits.disk; slot_below = spells.fits.slot; public = spells.fits.public; at_most = spells.fits.at_most }, spells.spelled)

  -- a sector of another mark, or that no header goes on as, says nothing
  pub unmarked_says : (take 8 sector ≡ codes "vxprv001" → ⊥) → header_of sector ≡ None
  unmarked_says other = by (header_of sector) refl
    where
      by : (o : Option Label) → header_of sector ≡ o → o ≡ None
      by None e = refl
      by (Some l) e = let is = header_is l e in absurd (other (mark_of_header is.0 sector is.1))

  pub bad_header_says : (byte : ℕ) → IsFirstBad IsHeader is_header_place header_end sector byte → header_of sector ≡ None
  bad_header_says byte bad = by (header_of sector) refl
    where
      by : (o : Option Label) → header_of sector ≡ o → o ≡ None
      by None e = refl
      by (Some l) e = absurd (bad.here (sector, header_is l e, refl))
