-- The masks of a region with a log, from what is tested of them.
use Rattle.std.proofs.Common.{◌≡◌, ◌≢◌, ℕ, ◌^◌, ◌<◌, ◌≤◌, Bool, true, false, refl, sym, ◌∙◌, ap, inl, inr, ◌⊎◌, arith}
use Rattle.std.specs.Prelude.{◌==◌, not}
use Rattle.std.proofs.lemmas.Bool.{cases_lt}
use Rattle.std.proofs.lemmas.Nat.Bits.{bit_at_above}
use Rattle.vx_mask.specs.Mask.{has, union, without, lowest}
use Rattle.vx_mask.proofs.MaskLemmas.{has-union, has-without, has-lowest, without-lt, some_from_test}
use Rattle.vx_mask.proofs.Tests.{not_both, true_or_false, or_from_left, or_from_right, or_cases, and_not_parts}
use Rattle.vx_store_rows.specs.Ready.{FitMaps}

above : (mask n k : ℕ) → mask < 2 ^ n → n ≤ k → has mask k ≡ false
unfolding has
above mask n k fits high = rw (bit_at_above mask n k fits high) refl

pub map_below : (mask n k : ℕ) → mask < 2 ^ n → has mask k ≡ true → k < n
map_below mask n k fits there = elim (cases_lt k n) [ inl lt ↦ lt | inr high ↦ not_both there (above mask n k fits high) ]

-- a map of a mask that is the same without another one is not of the other one
apart : (a b k : ℕ) → without a b ≡ a → has a k ≡ true → has b k ≡ false
apart a b k same there =
    elim (true_or_false (has b k)) [
      | inl of_b ↦ not_both there (ap (λ m. has m k) (sym same) ∙ has-without a b k ∙ (rw (there, of_b) refl))
      | inr not_b ↦ not_b
    ]

in_first : (on off maps k : ℕ) → union on off ≡ maps → has on k ≡ true → has maps k ≡ true
in_first on off maps k e h = ap (λ m. has m k) (sym e) ∙ has-union on off k ∙ or_from_left (has on k) (has off k) h

in_second : (on off maps k : ℕ) → union on off ≡ maps → has off k ≡ true → has maps k ≡ true
in_second on off maps k e h = ap (λ m. has m k) (sym e) ∙ has-union on off k ∙ or_from_right (has on k) (has off k) h

in_either : (on off maps k : ℕ) → union on off ≡ maps → has maps k ≡ true → (has on k ≡ true) ⊎ (has off k ≡ true)
in_either on off maps k e h = or_cases (has on k) (has off k) (sym (has-union on off k) ∙ ap (λ m. has m k) e ∙ h)

not_thirty : (maps : ℕ) → ((k : ℕ) → has maps k ≡ true → k < 30) → has maps 30 ≡ false
not_thirty maps below = elim (true_or_false (has maps 30)) [ inl h ↦ absurd (omega (arith, below 30 h)) | inr h ↦ h ]

pub some_from_not : (n : ℕ) → not (n == 0) ≡ true → n ≢ 0
some_from_not n h = some_from_test n (not_false (n == 0) h)
  where
    not_false : (b : Bool) → not b ≡ true → b ≡ false
    not_false true e = cc
    not_false false e = refl

pub fitting : (on off snaps bits maps all sole others current : ℕ) → on < 2 ^ 64 → off < 2 ^ 64 → snaps < 2 ^ 64 → bits < 2 ^ 64 →
    all ≡ union on off → all ≡ maps → sole ≡ without on off → sole ≡ on → others ≡ without snaps maps → others ≡ snaps → snaps < 2 ^ 30 → current ≡ without on bits → current ≢ 0 →
    ((k : ℕ) → has maps k ≡ true → k < 30) → FitMaps on off snaps bits maps
fitting on off snaps bits maps all sole others current on_fits off_fits snaps_fit bits_fit all_is all_maps sole_is sole_on others_is others_snaps small current_is some below =
    let all_in : union on off ≡ maps = sym all_is ∙ all_maps in
    let off_apart : without on off ≡ on = sym sole_is ∙ sole_on in
    let snaps_apart : without snaps maps ≡ snaps = sym others_is ∙ others_snaps in
    let not_empty : without on bits ≢ 0 = λ e. some (current_is ∙ e) in
    let snaps_not : (k : ℕ) → has maps k ≡ true → has snaps k ≡ false = λ k there. elim (true_or_false (has snaps k)) [
      | inl h ↦ not_both there (apart snaps maps k snaps_apart h)
      | inr h ↦ h
    ] in
    let read : has (without on bits) (lowest (without on bits)) ≡ true = has-lowest (without on bits) not_empty (without-lt on bits on_fits) in
    let parts : (has on (lowest (without on bits)) ≡ true) × (has bits (lowest (without on bits)) ≡ false) = and_not_parts _ _ (sym (has-without on bits (lowest (without on bits))) ∙ read) in
    record {
      masks = record {
        on_fits = on_fits;
        off_fits = off_fits;
        snaps_fit = snaps_fit;
        bits_fit = bits_fit;
        off_apart = λ k h. apart on off k off_apart h;
        snaps_apart = λ k h. snaps_not k (in_first on off maps k all_in h);
        off_snaps = λ k h. snaps_not k (in_second on off maps k all_in h);
        dirty_apart = (not_thirty on (λ k h. below k (in_first on off maps k all_in h)), not_thirty off (λ k h. below k (in_second on off maps k all_in h)), above snaps 30 30 small (omega arith));
        held_on = λ k h. in_first on off maps k all_in h;
        plexes = λ k h. in_either on off maps k all_in h;
        alone = λ e. cc;
        unlogged = λ e. cc;
      };
      readable = (lowest (without on bits), parts.0, parts.1);
      small = λ k h. elim (or_cases (has (union on off) k) (has snaps k) (sym (has-union (union on off) snaps k) ∙ h)) [
        | inl there ↦ let lt : k < 30 = below k (ap (λ m. has m k) (sym all_in) ∙ there) in omega (arith, lt)
        | inr there ↦ let lt : k < 30 = map_below snaps 30 k small there in omega (arith, lt)
      ];
    }
