-- The header that is nearest to a sector, against any header that agrees with the sector up to some place.
use Rattle.std.proofs.Common.{◌≡◌, ℕ, ◌+◌, ◌-◌, ◌<◌, ◌≤◌, true, List, length, take, drop, get_or, arith, refl, sym, ◌∙◌, ap, inl, inr}
use Rattle.std.specs.Prelude.{codes}
use Rattle.std.proofs.lemmas.Bool.{cases_lt}
use Rattle.std.proofs.lemmas.Bool.Decides.{nat_tests}
use Rattle.std.proofs.lemmas.List.{take-take, get_or-drop, length-drop}
use Rattle.vx_sector.specs.Fields.{eight_bytes, IsFirstDifference}
use Rattle.vx_sector.proofs.FieldLemmas.{length-eight_bytes}
use Rattle.vx_header.specs.declared.header.Header.{Header}
use Rattle.vx_header.specs.Sectors.{name_field, header_sector}
use Rattle.vx_header.specs.Places.{IsFirstBad, is_header_place, header_end, header_place}
use Rattle.vx_header.specs.Spelled.{sector_of_header, IsHeader, SameHeader}
use Rattle.vx_header.specs.Nearest.{IsNearestHeader}
use Rattle.vx_header.proofs.NameLemmas.{longest_agrees, longest_is_name, length_of_short}
use Rattle.vx_header.proofs.Windows.{same_front, same_field}
use Rattle.vx_header.proofs.HeaderPlaces.{header_mark, header_group, header_disk, header_slot, header_gap, header_sectors, header_private, header_rest}

place_is_one : (k : ℕ) → is_header_place (header_place k) ≡ true
place_is_one k = grind (arith, nat_tests)

place_below : (k : ℕ) → header_place k ≤ k
place_below k = grind (arith, nat_tests)

end_above : (k : ℕ) → k < header_end (header_place k)
end_above k = grind (arith, nat_tests)

end_of_number : (k : ℕ) → 80 ≤ k → k < 88 → 88 ≤ header_end (header_place k)
end_of_number k le lt = grind (arith, nat_tests)

module _ (sector : List ℕ) (near h : Header) (e : ℕ) (size : length sector ≡ 512) (nearest : IsNearestHeader sector near.group near.disk near.slot near.sectors)
    (agree : (i : ℕ) → i < e → get_or sector i 0 ≡ get_or (sector_of_header h) i 0) where
  -- the bytes of the header's two names
  group_at : (i : ℕ) → i < 32 → 8 + i < e → get_or (drop 8 sector) i 0 ≡ get_or (name_field h.group) i 0
  group_at i lt inside =
      let place : 8 + i - 8 ≡ i = omega arith in
      get_or-drop 8 sector i 0 ∙ agree (8 + i) inside ∙ header_group h.group h.disk h.slot h.sectors h.group_short h.disk_short (8 + i) (omega arith) (omega arith)
      ∙ ap (λ (j : ℕ). get_or (name_field h.group) j 0) place

  disk_at : (i : ℕ) → i < 32 → 40 + i < e → get_or (drop 40 sector) i 0 ≡ get_or (name_field h.disk) i 0
  disk_at i lt inside =
      let place : 40 + i - 40 ≡ i = omega arith in
      get_or-drop 40 sector i 0 ∙ agree (40 + i) inside ∙ header_disk h.group h.disk h.slot h.sectors h.group_short h.disk_short (40 + i) (omega arith) (omega arith)
      ∙ ap (λ (j : ℕ). get_or (name_field h.disk) j 0) place

  same_slot : 73 ≤ e → near.slot ≡ h.slot
  same_slot le =
      let there : get_or sector 72 0 ≡ h.slot = agree 72 (omega arith) ∙ header_slot h.group h.disk h.slot h.sectors h.group_short h.disk_short in
      nearest.of_slot (omega (arith, there, h.slot_below)) ∙ there

  same_sectors : 88 ≤ e → near.sectors ≡ h.sectors
  same_sectors le =
      nearest.of_sectors h.sectors h.public h.at_most
      (same_field sector (eight_bytes h.sectors) 80 8 (length-eight_bytes h.sectors) (omega (arith, size))
      (λ i lt. let place : 80 + i - 80 ≡ i = omega arith in
      agree (80 + i) (omega arith) ∙ header_sectors h.group h.disk h.slot h.sectors h.group_short h.disk_short (80 + i) (omega arith) (omega arith)
      ∙ ap (λ (j : ℕ). get_or (eight_bytes h.sectors) j 0) place))

  -- the group's field, and the disk's
  group_agrees : (k : ℕ) → k < e → 8 ≤ k → k < 40 → get_or sector k 0 ≡ get_or (sector_of_header near) k 0
  group_agrees k lt le below =
      let place : 8 + (k - 8) ≡ k = omega arith in
      let here : get_or (drop 8 sector) (k - 8) 0 ≡ get_or (name_field near.group) (k - 8) 0 =
      longest_agrees (drop 8 sector) near.group h.group (k - 8) (omega (arith, size, length-drop 8 sector)) h.group_short near.group_short nearest.of_group
      (λ i up. group_at i (omega arith) (omega arith)) in
      ap (λ (j : ℕ). get_or sector j 0) (sym place) ∙ sym (get_or-drop 8 sector (k - 8) 0) ∙ here
      ∙ sym (header_group near.group near.disk near.slot near.sectors near.group_short near.disk_short k le below)

  disk_agrees : (k : ℕ) → k < e → 40 ≤ k → k < 72 → get_or sector k 0 ≡ get_or (sector_of_header near) k 0
  disk_agrees k lt le below =
      let place : 40 + (k - 40) ≡ k = omega arith in
      let here : get_or (drop 40 sector) (k - 40) 0 ≡ get_or (name_field near.disk) (k - 40) 0 =
      longest_agrees (drop 40 sector) near.disk h.disk (k - 40) (omega (arith, size, length-drop 40 sector)) h.disk_short near.disk_short nearest.of_disk
      (λ i up. disk_at i (omega arith) (omega arith)) in
      ap (λ (j : ℕ). get_or sector j 0) (sym place) ∙ sym (get_or-drop 40 sector (k - 40) 0) ∙ here
      ∙ sym (header_disk near.group near.disk near.slot near.sectors near.group_short near.disk_short k le below)

  -- the fields behind the names
  tail_agrees : (k : ℕ) → k < e → (80 ≤ k → k < 88 → 88 ≤ e) → 73 ≤ k → get_or sector k 0 ≡ get_or (sector_of_header near) k 0
  tail_agrees k lt whole le =
      elim (cases_lt k 80) [
        | inl a ↦ agree k lt ∙ header_gap h.group h.disk h.slot h.sectors h.group_short h.disk_short k le a
            ∙ sym (header_gap near.group near.disk near.slot near.sectors near.group_short near.disk_short k le a)
        | inr from80 ↦ elim (cases_lt k 88) [
          | inl a ↦ agree k lt ∙ header_sectors h.group h.disk h.slot h.sectors h.group_short h.disk_short k from80 a
              ∙ ap (λ (n : ℕ). get_or (eight_bytes n) (k - 80) 0) (sym (same_sectors (whole from80 a)))
              ∙ sym (header_sectors near.group near.disk near.slot near.sectors near.group_short near.disk_short k from80 a)
          | inr from88 ↦ elim (cases_lt k 96) [
            | inl a ↦ agree k lt ∙ header_private h.group h.disk h.slot h.sectors h.group_short h.disk_short k from88 a
                ∙ sym (header_private near.group near.disk near.slot near.sectors near.group_short near.disk_short k from88 a)
            | inr from96 ↦ agree k lt ∙ header_rest h.group h.disk h.slot h.sectors h.group_short h.disk_short k from96
                ∙ sym (header_rest near.group near.disk near.slot near.sectors near.group_short near.disk_short k from96)
          ]
        ]
      ]

  slot_agrees : 73 ≤ e → get_or sector 72 0 ≡ get_or (sector_of_header near) 72 0
  slot_agrees le =
      agree 72 (omega arith) ∙ header_slot h.group h.disk h.slot h.sectors h.group_short h.disk_short ∙ sym (same_slot le)
      ∙ sym (header_slot near.group near.disk near.slot near.sectors near.group_short near.disk_short)

  -- where the sector agrees with a header at a byte, it agrees there with the nearest
  nearest_agrees : (k : ℕ) → k < e → (80 ≤ k → k < 88 → 88 ≤ e) → get_or sector k 0 ≡ get_or (sector_of_header near) k 0
  nearest_agrees k lt whole =
      elim (cases_lt k 8) [
        | inl a ↦ agree k lt ∙ header_mark h.group h.disk h.slot h.sectors h.group_short h.disk_short k a
            ∙ sym (header_mark near.group near.disk near.slot near.sectors near.group_short near.disk_short k a)
        | inr from8 ↦ elim (cases_lt k 40) [
          | inl a ↦ group_agrees k lt from8 a
          | inr from40 ↦ elim (cases_lt k 72) [
            | inl a ↦ disk_agrees k lt from40 a
            | inr from72 ↦ elim (cases_lt 72 k) [
              | inl a ↦ tail_agrees k lt whole (omega arith)
              | inr at ↦
                  let here : k ≡ 72 = omega arith in
                  ap (λ (j : ℕ). get_or sector j 0) here ∙ slot_agrees (omega arith) ∙ ap (λ (j : ℕ). get_or (sector_of_header near) j 0) (sym here)
            ]
          ]
        ]
      ]

  -- where it agrees to the end, they are the same
  pub nearest_is_it : 96 ≤ e → SameHeader h near
  nearest_is_it le = (
    sym (longest_is_name (drop 8 sector) near.group h.group 31 (omega (arith, size, length-drop 8 sector)) h.group_short near.group_short nearest.of_group
        (λ i up. group_at i (omega arith) (omega arith)) (omega (arith, length_of_short h.group h.group_short))),
    sym (longest_is_name (drop 40 sector) near.disk h.disk 31 (omega (arith, size, length-drop 40 sector)) h.disk_short near.disk_short nearest.of_disk
        (λ i up. disk_at i (omega arith) (omega arith)) (omega (arith, length_of_short h.disk h.disk_short))),
    sym (same_slot (omega arith)),
    sym (same_sectors (omega arith)),
  )

module _ (sector : List ℕ) (near : Header) (size : length sector ≡ 512) (nearest : IsNearestHeader sector near.group near.disk near.slot near.sectors) where
  -- a header's own sector
  pub header_of_sector : (h : Header) → sector ≡ sector_of_header h → SameHeader h near
  header_of_sector h is = nearest_is_it sector near h 512 size nearest (λ i lt. ap (λ (xs : List ℕ). get_or xs i 0) is) (omega arith)

  -- it differs nowhere from that of the nearest
  pub header_not_refused : (h : Header) (k : ℕ) → sector ≡ sector_of_header h → IsFirstDifference sector (sector_of_header near) k → ⊥
  header_not_refused h k is difference =
      difference.here (nearest_agrees sector near h 512 size nearest (λ i lt. ap (λ (xs : List ℕ). get_or xs i 0) is) k (omega (arith, size, difference.inside)) (λ _ _. omega arith))

  -- the first byte that differs from the nearest is read where no header goes on
  pub header_first_bad : (k : ℕ) → IsFirstDifference sector (sector_of_header near) k → IsFirstBad IsHeader is_header_place header_end sector (header_place k)
  header_first_bad k difference =
      let below : header_place k ≤ k = place_below k in
      record {
        place = place_is_one k;
        before = (
          sector_of_header near,
          (near, refl),
          sym (sym (take-take (header_place k) k sector below) ∙ ap (take (header_place k)) difference.before ∙ take-take (header_place k) k (sector_of_header near) below),
        );
        here = λ goes.
            let same = ap (take (header_end (header_place k))) (sym goes.1.1) ∙ goes.2 in
            difference.here (nearest_agrees sector near goes.1.0 (header_end (header_place k)) size nearest
            (λ i lt. same_front sector (sector_of_header goes.1.0) (header_end (header_place k)) i same lt)
            k (end_above k) (end_of_number k));
      }

-- the mark of a header's sector
pub mark_of_header : (h : Header) (sector : List ℕ) → sector ≡ sector_of_header h → take 8 sector ≡ codes "vxprv001"
unfolding header_sector
mark_of_header h sector is = ap (take 8) is
