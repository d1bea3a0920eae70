-- How the marks of a map are listed.
use Rattle.std.proofs.Common.{arith, ◌≡◌, inl, inr, ℕ, ◌+◌, ◌*◌, ◌/◌, ◌%◌, ◌<◌, ◌≤◌, Bool, false, sym, ◌∙◌, ap, List, length, get_or}
use Rattle.std.proofs.lemmas.Bool.{cases_lt}
use Rattle.std.proofs.lemmas.List.{get_or_past}
use Rattle.vx_mask.specs.Mask.{has}
use Rattle.vx_mask.proofs.MaskLemmas.{has-zero}

-- the bit of a region, of which there is none behind the last byte
pub bit_at_region : (on : ℕ → Bool) (bytes : List ℕ) (place region : ℕ) → length bytes ≡ place → ((j k : ℕ) → j < place → k < 8 → has (get_or bytes j 0) k ≡ on (8 * j + k)) → ((n : ℕ) → 8 * place ≤ n → on n ≡ false) →
    has (get_or bytes (region / 8) 0) (region % 8) ≡ on region
bit_at_region on bytes place region size bits none =
    elim (cases_lt (region / 8) place) [
      | inl lt ↦ bits (region / 8) (region % 8) lt (omega arith) ∙ ap on (omega arith)
      | inr le ↦ ap (λ (b : ℕ). has b (region % 8)) (get_or_past bytes (region / 8) 0 (omega (arith, size, le))) ∙ has-zero (region % 8) ∙ sym (none region (omega (arith, le)))
    ]
