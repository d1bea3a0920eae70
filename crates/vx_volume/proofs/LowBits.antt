-- The lowest bits of a byte, and the bytes of a page.
use Rattle.std.proofs.Common.{arith, ◌≡◌, inl, inr, ℕ, ◌+◌, ◌-◌, ◌*◌, ◌/◌, ◌%◌, ◌<◌, ◌^◌, Bool, sym, ◌∙◌, ap, List, length, get_or, set}
use Rattle.std.specs.Prelude.{◌&&◌, bit_and, nat_lt}
use Rattle.std.proofs.lemmas.Bool.{cases_lt, cases_order, le-ltb, lt-ltb}
use Rattle.std.proofs.lemmas.List.{get_or-set_same, get_or-set_other}
use Rattle.std.proofs.lemmas.Nat.{pow_below, pow_pos}
use Rattle.std.proofs.lemmas.Nat.Bits.{bit_at_above, bit_at_ones}
use Rattle.vx_mask.specs.Mask.{has}
use Rattle.vx_pages.proofs.Differences.{has-and}

has-ones : (n k : ℕ) → has (2 ^ n - 1) k ≡ nat_lt k n
unfolding has
has-ones n k =
    elim (cases_lt k n) [
      | inl lt ↦ rw (bit_at_ones n k lt) (sym (lt-ltb k n lt))
      | inr le ↦ let some = pow_pos n in rw (bit_at_above (2 ^ n - 1) n k (omega (arith, some)) le) (sym (le-ltb k n le))
    ]

pub power_is : (n : ℕ) → n < 8 → 1 * 2 ^ n % 256 ≡ 2 ^ n
power_is n low = let small : 2 ^ n < 256 = pow_below n 8 low in omega arith

pub low_part : (byte n k : ℕ) → n < 8 → has (bit_and byte (1 * 2 ^ n % 256 - 1)) k ≡ (has byte k && nat_lt k n)
low_part byte n k low = ap (λ (m : ℕ). has (bit_and byte (m - 1)) k) (power_is n low) ∙ has-and byte (2 ^ n - 1) k ∙ ap (λ (b : Bool). has byte k && b) (has-ones n k)

-- the next byte of a page
pub byte_on : (want : ℕ → ℕ → Bool) (image : List ℕ) (place byte : ℕ) → place < length image → ((j k : ℕ) → j < place → k < 8 → has (get_or image j 0) k ≡ want j k) → ((k : ℕ) → k < 8 → has byte k ≡ want place k) → (j k : ℕ) →
    j < place + 1 → k < 8 → has (get_or (set image place byte) j 0) k ≡ want j k
byte_on want image place byte inside before here j k lt low =
    elim (cases_order j place) [
      | inl same ↦
          ap (λ (b : ℕ). has b k) (ap (λ (n : ℕ). get_or (set image place byte) n 0) same ∙ get_or-set_same image place byte 0 inside) ∙ here k low ∙ ap (λ (n : ℕ). want n k) (sym same)
      | inr (inl less) ↦ ap (λ (b : ℕ). has b k) (get_or-set_other image place j byte 0 (λ e. absurd (omega (arith, less, e)))) ∙ before j k less low
      | inr (inr more) ↦ absurd (omega (arith, lt, more))
    ]

-- the bit of a region in the bytes of its page
pub page_bit : (bytes : List ℕ) (page regions region : ℕ) → region / 4096 ≡ page →
    (has (get_or bytes (512 * page + region % 4096 / 8) 0) (region % 8) && nat_lt (region % 8) (regions - 8 * (512 * page + region % 4096 / 8))) ≡ (has (get_or bytes (region / 8) 0) (region % 8) && nat_lt region regions)
page_bit bytes page regions region same =
    let at : 512 * page + region % 4096 / 8 ≡ region / 8 = omega (arith, same) in
    ap (λ (n : ℕ). has (get_or bytes n 0) (region % 8) && nat_lt (region % 8) (regions - 8 * n)) at
    ∙ ap (λ (b : Bool). has (get_or bytes (region / 8) 0) (region % 8) && b)
    (elim (cases_lt region regions) [
      | inl lt ↦ lt-ltb (region % 8) (regions - 8 * (region / 8)) (omega (arith, lt)) ∙ sym (lt-ltb region regions lt)
      | inr le ↦ le-ltb (region % 8) (regions - 8 * (region / 8)) (omega (arith, le)) ∙ sym (le-ltb region regions le)
    ])
