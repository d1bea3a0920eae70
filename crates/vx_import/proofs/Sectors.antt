-- What the sectors of a header and a toggle say, and the bytes of a text.
use Rattle.std.proofs.Common.{◌≡◌, ℕ, ◌+◌, ◌-◌, ◌*◌, ◌<◌, ◌≤◌, List, length, take, Option, Some, None, Result, Ok, Err, sym, ap, ◌∙◌, subst, arith}
use Rattle.std.specs.Prelude.{MatchResult, IfSome, IfErr, OnOk, option_map}
use Rattle.std.proofs.lemmas.List.{take_all}
use Rattle.vx_sector.specs.Fields.{zeros}
use Rattle.vx_base.specs.Blocks.{Contents, block_at, AreBlocks}
use Rattle.vx_piece.specs.Seen.{Seen, IsInside}
use Rattle.vx_header.specs.Said.{said_of, toggle_of}
use Rattle.vx_header.specs.Places.{IsFirstBad, is_toggle_place, toggle_end}
use Rattle.vx_header.specs.Spelled.{IsToggle, IsToggleFault}
use Rattle.vx_header.specs.declared.toggle.Toggle.{Toggle}
use Rattle.vx_header.specs.declared.fault.HeaderFault.{HeaderFault}
use Rattle.vx_header.specs.declared.fault.HeaderFault.TheVariants.{BadHeader}
use Rattle.vx_copies.specs.Image.{text_in, sectors_for, half_start}
use Rattle.vx_copies.proofs.Halves.{blocks_are, one_sector, few_sectors}
use Rattle.vx_import.specs.Looks.{IsReading}
use Rattle.vx_import.specs.declared.device.Reading.TheVariants.{Damaged}

sector_is : (sector : List ℕ) (c : Contents) (at : ℕ) → length sector ≡ 512 → AreBlocks sector c at → sector ≡ c at
sector_is sector c at size are =
    let whole : block_at sector 0 ≡ sector = take_all 512 sector (omega (arith, size)) in
    let here : at + 0 ≡ at = omega arith in
    sym whole ∙ are 0 (omega (arith, size)) ∙ ap c here

-- what holds of the sector that was read holds of the one that is told
pub sector_told : (told : Option Contents) (sector : List ℕ) (at : ℕ) → length sector ≡ 512 → IfSome told (λ c. AreBlocks sector c at) → (Q : List ℕ → Type 0) → Q sector → IfSome told (λ c. Q (c at))
sector_told None sector at size are Q is = are
sector_told (Some c) sector at size are Q is = subst Q (sector_is sector c at size are) is

pub bad_reading : (r : Result (Option Toggle) HeaderFault) (sector : List ℕ) (byte : ℕ) → r ≡ Err (BadHeader byte) → MatchResult r (λ read. toggle_of sector ≡ option_map said_of read) (λ fault. toggle_of sector ≡ None) → IfErr r (IsToggleFault sector) → (sector ≡ zeros 512 → r ≡ Ok None) → IsReading (Damaged (512 + byte)) sector
bad_reading r sector byte e said fault none =
    let back : 512 + byte - 512 ≡ byte = omega arith in
    record {
      said = subst (λ x. MatchResult x (λ read. toggle_of sector ≡ option_map said_of read) (λ fault. toggle_of sector ≡ None)) e said;
      form = (omega arith, subst (IsFirstBad IsToggle is_toggle_place toggle_end sector) (sym back) (subst (λ x. IfErr x (IsToggleFault sector)) e fault), λ zero. let h : r ≡ Ok None = none zero in cc);
    }

text_read : (half len : ℕ) (buffer : List ℕ) (c : Contents) → length buffer ≡ 512 * sectors_for len → AreBlocks buffer c (half_start half) → text_in half len c ≡ take len buffer
unfolding text_in
text_read half len buffer c size are = ap (take len) (blocks_are 512 (sectors_for len) (half_start half) buffer c size (λ k lt. sym (are k (omega (arith, size, lt)))))

pub text_told : {T E : Type 0} (r : Result T E) (told : Option Contents) (half len : ℕ) (buffer : List ℕ) → length buffer ≡ 512 * sectors_for len → OnOk r (IfSome told (λ c. AreBlocks buffer c (half_start half))) → OnOk r (IfSome told (λ c. text_in half len c ≡ take len buffer))
text_told (Ok u) None half len buffer size are = are
text_told (Ok u) (Some c) half len buffer size are = text_read half len buffer c size are
text_told (Err e) told half len buffer size are = tt

pub text_inside : (piece : Seen) (half len n : ℕ) → half < 2 → len ≤ 522240 → 2048 ≤ piece.sectors → n ≡ 512 * sectors_for len → IsInside piece (half_start half) n
text_inside piece half len n lt fits size is = record {
  some = omega (arith, is, one_sector len);
  whole = omega (arith, is);
  inside = omega (arith, is, few_sectors len fits, size, lt);
}
