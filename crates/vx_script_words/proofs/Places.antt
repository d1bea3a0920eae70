-- The first byte of a kind, found by a loop.
use Rattle.std.proofs.Common.{◌≡◌, ℕ, ◌<◌, ◌≤◌, Bool, true, false, List, length, get_or, arith, sym}
use Rattle.std.specs.List.{position_or_len}
use Rattle.std.proofs.lemmas.List.Sums.{position_or_len_is}

pub place_here : (p : ℕ → Bool) (xs : List ℕ) (i : ℕ) → i < length xs → ((k : ℕ) → k < i → p (get_or xs k 0) ≡ false) → p (get_or xs i 0) ≡ true → i ≡ position_or_len p xs
place_here p xs i inside before here = sym (position_or_len_is p xs i 0 (omega arith) before (λ _. here))

pub place_end : (p : ℕ → Bool) (xs : List ℕ) (i : ℕ) → i ≤ length xs → length xs ≤ i → ((k : ℕ) → k < i → p (get_or xs k 0) ≡ false) → length xs ≡ position_or_len p xs
place_end p xs i below above before =
    let e : length xs ≡ i = omega arith in
    sym (position_or_len_is p xs (length xs) 0 (omega arith) (λ k h. before k (omega arith)) (λ h. absurd (omega arith)))
