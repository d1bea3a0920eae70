-- A toggle's sector says the toggle, and a sector that says something is a toggle's.
use Rattle.std.proofs.Common.{◌≡◌, ℕ, ◌+◌, ◌-◌, ◌^◌, ◌<◌, ◌≤◌, true, false, cond, Bool, List, take, drop, get_or, Option, Some, None, arith, refl, sym, ◌∙◌, ap}
use Rattle.std.specs.Prelude.{◌&&◌, nat_lt, nat_le}
use Rattle.std.specs.Int.{w32, w64, from_be_bytes}
use Rattle.std.specs.Str.{bytes_eq}
use Rattle.std.proofs.lemmas.Bool.{and_parts, and_from, cond-true, ltb-true, leb-true, lt-ltb, le-leb}
use Rattle.std.proofs.lemmas.Nat.{from_be_bytes-to_be_bytes_4, from_be_bytes-to_be_bytes_8}
use Rattle.std.proofs.lemmas.Slice.Eq.{bytes_eq-Decides}
use Rattle.vx_sector.specs.Fields.{zeros, eight_bytes, four_bytes}
use Rattle.vx_sector.proofs.FieldLemmas.{length-eight_bytes, length-four_bytes, get_or-zeros}
use Rattle.vx_header.specs.Said.{Said, fields_of, is_said, sector_saying, said_by, said_of, toggle_of}
use Rattle.vx_header.specs.Places.{IsFirstBad, is_toggle_place, toggle_end}
use Rattle.vx_header.specs.Spelled.{sector_of_toggle, IsToggle}
use Rattle.vx_header.specs.declared.toggle.Toggle.{Toggle}
use Rattle.vx_header.proofs.TogglePlaces.{length-toggle, toggle_mark, toggle_sequence, toggle_half, toggle_text, toggle_good}
use Rattle.vx_header.proofs.Windows.{same_field}

tells_eight : (n : ℕ) → n < 2 ^ 64 → from_be_bytes w64 (eight_bytes n) ≡ n
unfolding eight_bytes
tells_eight n fits = from_be_bytes-to_be_bytes_8 n fits

tells_four : (n : ℕ) → n < 2 ^ 32 → from_be_bytes w32 (four_bytes n) ≡ n
unfolding four_bytes
tells_four n fits = from_be_bytes-to_be_bytes_4 n fits

-- the numbers in their ranges
pub record Fits (s : Said) : Type 0 where
  pub some : 0 < s.sequence
  pub sequence : s.sequence < 2 ^ 64
  pub half : s.half < 2
  pub text : s.length ≤ 522240
  pub good : s.good < 2 ^ 32

pub fits_from : (s : Said) → is_said s ≡ true → Fits s
fits_from s e =
    let a = and_parts (nat_lt 0 s.sequence && nat_lt s.sequence (2 ^ 64) && nat_lt s.half 2 && nat_le s.length 522240) (nat_lt s.good (2 ^ 32)) e in
    let b = and_parts (nat_lt 0 s.sequence && nat_lt s.sequence (2 ^ 64) && nat_lt s.half 2) (nat_le s.length 522240) a.0 in
    let c = and_parts (nat_lt 0 s.sequence && nat_lt s.sequence (2 ^ 64)) (nat_lt s.half 2) b.0 in
    let d = and_parts (nat_lt 0 s.sequence) (nat_lt s.sequence (2 ^ 64)) c.0 in
    record { some = ltb-true _ _ d.0; sequence = ltb-true _ _ d.1; half = ltb-true _ _ c.1; text = leb-true _ _ b.1; good = ltb-true _ _ a.1 }

pub fits_is : (s : Said) → Fits s → is_said s ≡ true
fits_is s f = and_from _ _ (and_from _ _ (and_from _ _ (and_from _ _ (lt-ltb _ _ f.some) (lt-ltb _ _ f.sequence)) (lt-ltb _ _ f.half)) (le-leb _ _ f.text)) (lt-ltb _ _ f.good)

same_said : (s t : Said) → s.sequence ≡ t.sequence → s.half ≡ t.half → s.length ≡ t.length → s.good ≡ t.good → s ≡ t
same_said s t a b c d = λ i. record { sequence = a i; half = b i; length = c i; good = d i }

module _ (s : Said) (f : Fits s) where
  field_sequence : take 8 (drop 8 (sector_saying s)) ≡ eight_bytes s.sequence
  field_sequence = sym (same_field (sector_saying s) (eight_bytes s.sequence) 8 8 (length-eight_bytes s.sequence) (omega (arith, length-toggle s.sequence s.half s.length s.good))
      (λ i lt. let place : 8 + i - 8 ≡ i = omega arith in
      toggle_sequence s.sequence s.half s.length s.good (8 + i) (omega arith) (omega (arith, lt)) ∙ ap (λ (j : ℕ). get_or (eight_bytes s.sequence) j 0) place))

  field_text : take 4 (drop 20 (sector_saying s)) ≡ four_bytes s.length
  field_text = sym (same_field (sector_saying s) (four_bytes s.length) 20 4 (length-four_bytes s.length) (omega (arith, length-toggle s.sequence s.half s.length s.good))
      (λ i lt. let place : 20 + i - 20 ≡ i = omega arith in
      toggle_text s.sequence s.half s.length s.good (20 + i) (omega arith) (omega (arith, lt)) ∙ ap (λ (j : ℕ). get_or (four_bytes s.length) j 0) place))

  field_good : take 4 (drop 24 (sector_saying s)) ≡ four_bytes s.good
  field_good = sym (same_field (sector_saying s) (four_bytes s.good) 24 4 (length-four_bytes s.good) (omega (arith, length-toggle s.sequence s.half s.length s.good))
      (λ i lt. let place : 24 + i - 24 ≡ i = omega arith in
      toggle_good s.sequence s.half s.length s.good (24 + i) (omega arith) (omega (arith, lt)) ∙ ap (λ (j : ℕ). get_or (four_bytes s.good) j 0) place))

  fields_back : fields_of (sector_saying s) ≡ s
  unfolding fields_of
  fields_back = same_said _ s
      (ap (from_be_bytes w64) field_sequence ∙ tells_eight s.sequence f.sequence)
      (toggle_half s.sequence s.half s.length s.good)
      (ap (from_be_bytes w32) field_text ∙ tells_four s.length (omega (arith, f.text)))
      (ap (from_be_bytes w32) field_good ∙ tells_four s.good f.good)

  pub said_back : toggle_of (sector_saying s) ≡ Some s
  unfolding toggle_of
  said_back = ap (λ t. said_by t (sector_saying s)) fields_back ∙ cond-true _ _ _ (and_from _ _ (fits_is s f) ((bytes_eq-Decides (sector_saying s) (sector_saying s)).1 refl))

-- what a sector says it spells, in the ranges
pub record Spells (sector : List ℕ) (s : Said) : Type 0 where
  pub fits : Fits s
  pub spelled : sector ≡ sector_saying s

some_same : (s t : Said) → Some s ≡ Some t → s ≡ t
some_same s t e = cc

said_where : (b : Bool) (s t : Said) → cond b (Some s) None ≡ Some t → (b ≡ true) × (s ≡ t)
said_where true s t e = (refl, some_same s t e)
said_where false s t e = cc

pub said_spells : (sector : List ℕ) (s : Said) → toggle_of sector ≡ Some s → Spells sector s
unfolding toggle_of
said_spells sector s e =
    let where_said = said_where _ (fields_of sector) s e in
    let parts = and_parts (is_said (fields_of sector)) (bytes_eq sector (sector_saying (fields_of sector))) where_said.0 in
    let fits : is_said s ≡ true = ap is_said (sym where_said.1) ∙ parts.0 in
    record { fits = fits_from s fits; spelled = (bytes_eq-Decides sector (sector_saying (fields_of sector))).0 parts.1 ∙ ap sector_saying where_said.1 }

-- a toggle's own sector says it
pub toggle_said : (t : Toggle) (sector : List ℕ) → sector ≡ sector_of_toggle t → toggle_of sector ≡ Some (said_of t)
toggle_said t sector is = ap toggle_of is ∙ said_back (said_of t) (record { some = t.some; sequence = t.sequence_fits; half = t.half_below; text = t.text_fits; good = t.good_fits })

-- zeros say nothing
pub zeros_say : (n : ℕ) → toggle_of (zeros n) ≡ None
zeros_say n = by (toggle_of (zeros n)) refl
  where
    by : (o : Option Said) → toggle_of (zeros n) ≡ o → o ≡ None
    by None e = refl
    by (Some s) e =
        let spells = said_spells (zeros n) s e in
        let byte : 118 ≡ 0 = sym (toggle_mark s.sequence s.half s.length s.good 0 (omega arith)) ∙ ap (λ (xs : List ℕ). get_or xs 0 0) (sym spells.spelled) ∙ get_or-zeros n 0 in
        absurd (omega (arith, byte))

module _ (sector : List ℕ) where
  -- what says something is a toggle's sector
  pub said_is : (s : Said) → toggle_of sector ≡ Some s → IsToggle sector
  said_is s e =
      let spells = said_spells sector s e in
      (record { sequence = s.sequence; half = s.half; length = s.length; good = s.good; some = spells.fits.some; sequence_fits = spells.fits.sequence; half_below = spells.fits.half; text_fits = spells.fits.text; good_fits = spells.fits.good }, spells.spelled)

  -- a sector that no toggle goes on as says nothing
  pub bad_says : (byte : ℕ) → IsFirstBad IsToggle is_toggle_place toggle_end sector byte → toggle_of sector ≡ None
  bad_says byte bad = by (toggle_of sector) refl
    where
      by : (o : Option Said) → toggle_of sector ≡ o → o ≡ None
      by None e = refl
      by (Some s) e = absurd (bad.here (sector, said_is s e, refl))
