-- The toggle that is nearest to a sector, against any toggle that agrees with the sector up to some place.
use Rattle.std.proofs.Common.{◌≡◌, ℕ, ◌+◌, ◌-◌, ◌<◌, ◌≤◌, true, List, length, take, get_or, arith, refl, sym, ◌∙◌, ap, inl, inr}
use Rattle.std.proofs.lemmas.Bool.{cases_lt}
use Rattle.std.proofs.lemmas.Bool.Decides.{nat_tests}
use Rattle.std.proofs.lemmas.List.{take-take}
use Rattle.vx_sector.specs.Fields.{zeros, eight_bytes, four_bytes, IsFirstDifference}
use Rattle.vx_sector.proofs.FieldLemmas.{get_or-zeros, length-eight_bytes, length-four_bytes}
use Rattle.vx_header.specs.declared.toggle.Toggle.{Toggle}
use Rattle.vx_header.specs.Places.{IsFirstBad, is_toggle_place, toggle_end, toggle_place}
use Rattle.vx_header.specs.Spelled.{sector_of_toggle, IsToggle, SameToggle}
use Rattle.vx_header.specs.Nearest.{IsNearestToggle}
use Rattle.vx_header.proofs.Windows.{same_front, same_field}
use Rattle.vx_header.proofs.TogglePlaces.{toggle_mark, toggle_sequence, toggle_half, toggle_gap, toggle_text, toggle_good, toggle_rest}

place_is_one : (k : ℕ) → is_toggle_place (toggle_place k) ≡ true
place_is_one k = grind (arith, nat_tests)

place_below : (k : ℕ) → toggle_place k ≤ k
place_below k = grind (arith, nat_tests)

end_above : (k : ℕ) → k < toggle_end (toggle_place k)
end_above k = grind (arith, nat_tests)

end_of_sequence : (k : ℕ) → 8 ≤ k → k < 16 → 16 ≤ toggle_end (toggle_place k)
end_of_sequence k le lt = grind (arith, nat_tests)

end_of_text : (k : ℕ) → 20 ≤ k → k < 24 → 24 ≤ toggle_end (toggle_place k)
end_of_text k le lt = grind (arith, nat_tests)

end_of_good : (k : ℕ) → 24 ≤ k → k < 28 → 28 ≤ toggle_end (toggle_place k)
end_of_good k le lt = grind (arith, nat_tests)

module _ (sector : List ℕ) (near t : Toggle) (e : ℕ) (size : length sector ≡ 512) (nearest : IsNearestToggle sector near.sequence near.half near.length near.good)
    (agree : (i : ℕ) → i < e → get_or sector i 0 ≡ get_or (sector_of_toggle t) i 0) where
  same_sequence : 16 ≤ e → near.sequence ≡ t.sequence
  same_sequence le =
      nearest.of_sequence t.sequence t.some t.sequence_fits
      (same_field sector (eight_bytes t.sequence) 8 8 (length-eight_bytes t.sequence) (omega (arith, size))
      (λ i lt. let place : 8 + i - 8 ≡ i = omega arith in
      agree (8 + i) (omega arith) ∙ toggle_sequence t.sequence t.half t.length t.good (8 + i) (omega arith) (omega arith)
      ∙ ap (λ (j : ℕ). get_or (eight_bytes t.sequence) j 0) place))

  same_half : 17 ≤ e → near.half ≡ t.half
  same_half le =
      let there : get_or sector 16 0 ≡ t.half = agree 16 (omega arith) ∙ toggle_half t.sequence t.half t.length t.good in
      nearest.of_half (omega (arith, there, t.half_below)) ∙ there

  same_text : 24 ≤ e → near.length ≡ t.length
  same_text le =
      nearest.of_text t.length t.text_fits
      (same_field sector (four_bytes t.length) 20 4 (length-four_bytes t.length) (omega (arith, size))
      (λ i lt. let place : 20 + i - 20 ≡ i = omega arith in
      agree (20 + i) (omega arith) ∙ toggle_text t.sequence t.half t.length t.good (20 + i) (omega arith) (omega arith)
      ∙ ap (λ (j : ℕ). get_or (four_bytes t.length) j 0) place))

  same_good : 28 ≤ e → near.good ≡ t.good
  same_good le =
      nearest.of_good t.good t.good_fits
      (same_field sector (four_bytes t.good) 24 4 (length-four_bytes t.good) (omega (arith, size))
      (λ i lt. let place : 24 + i - 24 ≡ i = omega arith in
      agree (24 + i) (omega arith) ∙ toggle_good t.sequence t.half t.length t.good (24 + i) (omega arith) (omega arith)
      ∙ ap (λ (j : ℕ). get_or (four_bytes t.good) j 0) place))

  half_agrees : 17 ≤ e → get_or sector 16 0 ≡ get_or (sector_of_toggle near) 16 0
  half_agrees le =
      agree 16 (omega arith) ∙ toggle_half t.sequence t.half t.length t.good ∙ sym (same_half le)
      ∙ sym (toggle_half near.sequence near.half near.length near.good)

  -- the fields behind the half
  tail_agrees : (k : ℕ) → k < e → (20 ≤ k → k < 24 → 24 ≤ e) → (24 ≤ k → k < 28 → 28 ≤ e) → 17 ≤ k → get_or sector k 0 ≡ get_or (sector_of_toggle near) k 0
  tail_agrees k lt whole whole' le =
      elim (cases_lt k 20) [
        | inl a ↦ agree k lt ∙ toggle_gap t.sequence t.half t.length t.good k le a ∙ sym (toggle_gap near.sequence near.half near.length near.good k le a)
        | inr from20 ↦ elim (cases_lt k 24) [
          | inl a ↦ agree k lt ∙ toggle_text t.sequence t.half t.length t.good k from20 a
              ∙ ap (λ (n : ℕ). get_or (four_bytes n) (k - 20) 0) (sym (same_text (whole from20 a)))
              ∙ sym (toggle_text near.sequence near.half near.length near.good k from20 a)
          | inr from24 ↦ elim (cases_lt k 28) [
            | inl a ↦ agree k lt ∙ toggle_good t.sequence t.half t.length t.good k from24 a
                ∙ ap (λ (n : ℕ). get_or (four_bytes n) (k - 24) 0) (sym (same_good (whole' from24 a)))
                ∙ sym (toggle_good near.sequence near.half near.length near.good k from24 a)
            | inr from28 ↦ agree k lt ∙ toggle_rest t.sequence t.half t.length t.good k from28
                ∙ sym (toggle_rest near.sequence near.half near.length near.good k from28)
          ]
        ]
      ]

  -- where the sector agrees with a toggle at a byte, it agrees there with the nearest
  nearest_agrees : (k : ℕ) → k < e → (8 ≤ k → k < 16 → 16 ≤ e) → (20 ≤ k → k < 24 → 24 ≤ e) → (24 ≤ k → k < 28 → 28 ≤ e) →
      get_or sector k 0 ≡ get_or (sector_of_toggle near) k 0
  nearest_agrees k lt whole whole' whole'' =
      elim (cases_lt k 8) [
        | inl a ↦ agree k lt ∙ toggle_mark t.sequence t.half t.length t.good k a ∙ sym (toggle_mark near.sequence near.half near.length near.good k a)
        | inr from8 ↦ elim (cases_lt k 16) [
          | inl a ↦ agree k lt ∙ toggle_sequence t.sequence t.half t.length t.good k from8 a
              ∙ ap (λ (n : ℕ). get_or (eight_bytes n) (k - 8) 0) (sym (same_sequence (whole from8 a)))
              ∙ sym (toggle_sequence near.sequence near.half near.length near.good k from8 a)
          | inr from16 ↦ elim (cases_lt 16 k) [
            | inl a ↦ tail_agrees k lt whole' whole'' (omega arith)
            | inr at ↦
                let here : k ≡ 16 = omega arith in
                ap (λ (j : ℕ). get_or sector j 0) here ∙ half_agrees (omega arith) ∙ ap (λ (j : ℕ). get_or (sector_of_toggle near) j 0) (sym here)
          ]
        ]
      ]

  -- where it agrees to the end, they are the same
  nearest_is_it : 28 ≤ e → SameToggle t near
  nearest_is_it le = (sym (same_sequence (omega arith)), sym (same_half (omega arith)), sym (same_text (omega arith)), sym (same_good (omega arith)))

module _ (sector : List ℕ) (near : Toggle) (size : length sector ≡ 512) (nearest : IsNearestToggle sector near.sequence near.half near.length near.good) where
  -- a toggle's own sector
  pub toggle_of_sector : (t : Toggle) → sector ≡ sector_of_toggle t → SameToggle t near
  toggle_of_sector t is = nearest_is_it sector near t 512 size nearest (λ i lt. ap (λ (xs : List ℕ). get_or xs i 0) is) (omega arith)

  -- it differs nowhere from that of the nearest
  pub toggle_not_refused : (t : Toggle) (k : ℕ) → sector ≡ sector_of_toggle t → IsFirstDifference sector (sector_of_toggle near) k → ⊥
  toggle_not_refused t k is difference =
      difference.here (nearest_agrees sector near t 512 size nearest (λ i lt. ap (λ (xs : List ℕ). get_or xs i 0) is) k (omega (arith, size, difference.inside)) (λ _ _. omega arith) (λ _ _. omega arith) (λ _ _. omega arith))

  -- the first byte that differs from the nearest is read where no toggle goes on
  pub toggle_first_bad : (k : ℕ) → IsFirstDifference sector (sector_of_toggle near) k → IsFirstBad IsToggle is_toggle_place toggle_end sector (toggle_place k)
  toggle_first_bad k difference =
      let below : toggle_place k ≤ k = place_below k in
      record {
        place = place_is_one k;
        before = (
          sector_of_toggle near,
          (near, refl),
          sym (sym (take-take (toggle_place k) k sector below) ∙ ap (take (toggle_place k)) difference.before ∙ take-take (toggle_place k) k (sector_of_toggle near) below),
        );
        here = λ goes.
            let same = ap (take (toggle_end (toggle_place k))) (sym goes.1.1) ∙ goes.2 in
            difference.here (nearest_agrees sector near goes.1.0 (toggle_end (toggle_place k)) size nearest
            (λ i lt. same_front sector (sector_of_toggle goes.1.0) (toggle_end (toggle_place k)) i same lt)
            k (end_above k) (end_of_sequence k) (end_of_text k) (end_of_good k));
      }

-- a toggle's sector is not all zeros
pub toggle_not_zero : (t : Toggle) (sector : List ℕ) (n : ℕ) → sector ≡ sector_of_toggle t → sector ≡ zeros n → ⊥
toggle_not_zero t sector n is zero =
    let byte : 118 ≡ 0 = sym (toggle_mark t.sequence t.half t.length t.good 0 (omega arith)) ∙ ap (λ (xs : List ℕ). get_or xs 0 0) (sym is ∙ zero) ∙ get_or-zeros n 0 in
    omega (arith, byte)
