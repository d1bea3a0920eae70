-- A sector of which nothing is known.
use Rattle.std.proofs.Common.{◌≡◌, ℕ, zero, suc, ◌<◌, Bool, true, false, refl, sym, ◌∙◌, ap, arith, List, length}
use Rattle.std.specs.Prelude.{◌&&◌, not, replicate, slice_index_or, ◌/◌, ◌%◌}
use Rattle.vx_mapfmt.specs.Bits.{bit_in}
use Rattle.vx_mask.specs.Mask.{has}
use Rattle.vx_sector.specs.Fields.{zeros}
use Rattle.vx_pages.specs.Bytes.{full}
use Rattle.vx_pages.specs.Sector.{Copies, AreSectors, IsFormed, shown}
use Rattle.vx_pages.proofs.Bits.{no_bit}

full_at : (b n k : ℕ) → k < n → slice_index_or (replicate n b) k 0 ≡ b
full_at b zero k lt = absurd (omega (arith, lt))
full_at b (suc n) zero lt = refl
full_at b (suc n) (suc k) lt = full_at b n k (omega (arith, lt))

has_full : (k : ℕ) → k < 8 → has 255 k ≡ true
unfolding has
has_full zero lt = refl
has_full (suc zero) lt = refl
has_full (suc (suc zero)) lt = refl
has_full (suc (suc (suc zero))) lt = refl
has_full (suc (suc (suc (suc zero)))) lt = refl
has_full (suc (suc (suc (suc (suc zero))))) lt = refl
has_full (suc (suc (suc (suc (suc (suc zero)))))) lt = refl
has_full (suc (suc (suc (suc (suc (suc (suc zero))))))) lt = refl
has_full (suc (suc (suc (suc (suc (suc (suc (suc k)))))))) lt = absurd (omega (arith, lt))

pub full_bit : (region : ℕ) → bit_in (full 512) region ≡ true
unfolding full
full_bit region = ap (λ (byte : ℕ). has byte (region % 8)) (full_at 255 512 (region % 4096 / 8) (omega arith)) ∙ has_full (region % 8) (omega arith)

and_none : (a : Bool) → (a && not true) ≡ false
and_none true = refl
and_none false = refl

pub full_size : length (full 512) ≡ 512
unfolding full
full_size = refl

pub zero_size : length (zeros 512) ≡ 512
unfolding zeros
zero_size = refl

pub open_formed : (c : Copies) (sure loose : List ℕ) → AreSectors c → sure ≡ zeros 512 → loose ≡ full 512 → IsFormed (record { copies = c; sure = sure; loose = loose })
open_formed c sure loose sectors none all = record {
  sectors = sectors;
  sure = ap (λ (bytes : List ℕ). length bytes) none ∙ zero_size;
  loose = ap (λ (bytes : List ℕ). length bytes) all ∙ full_size;
  shows = λ n told region.
      ap (λ (b : Bool). shown c n region && not b) (ap (λ (bytes : List ℕ). bit_in bytes region) all ∙ full_bit region) ∙ and_none (shown c n region) ∙ sym (ap (λ (bytes : List ℕ). bit_in bytes region) none ∙ no_bit region);
}
