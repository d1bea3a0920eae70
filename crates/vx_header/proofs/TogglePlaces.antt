-- What stands at each byte of a toggle's sector.
use Rattle.std.proofs.Common.{◌≡◌, ℕ, ◌-◌, ◌<◌, ◌≤◌, List, [], ◌∷◌, ◌++◌, length, get_or, arith, refl, ◌∙◌}
use Rattle.std.specs.Prelude.{codes}
use Rattle.vx_sector.specs.Fields.{zeros, eight_bytes, four_bytes}
use Rattle.vx_sector.proofs.FieldLemmas.{length-zeros, get_or-zeros, length-eight_bytes, length-four_bytes}
use Rattle.vx_header.specs.Sectors.{toggle_sector}
use Rattle.vx_header.proofs.HeaderPlaces.{in_front, in_back, longer_by}

abbrev front2 : ℕ → List ℕ
front2 sequence = codes "vxtog001" ++ eight_bytes sequence

abbrev front3 : ℕ → ℕ → List ℕ
front3 sequence half = front2 sequence ++ half ∷ []

abbrev front4 : ℕ → ℕ → List ℕ
front4 sequence half = front3 sequence half ++ zeros 3

abbrev front5 : ℕ → ℕ → ℕ → List ℕ
front5 sequence half text = front4 sequence half ++ four_bytes text

abbrev front6 : ℕ → ℕ → ℕ → ℕ → List ℕ
front6 sequence half text good = front5 sequence half text ++ four_bytes good

module _ (sequence half text good : ℕ) where
  len2 : length (front2 sequence) ≡ 16
  len2 = longer_by (codes "vxtog001") (eight_bytes sequence) 8 8 16 refl (length-eight_bytes sequence) refl

  len3 : length (front3 sequence half) ≡ 17
  len3 = longer_by (front2 sequence) (half ∷ []) 16 1 17 len2 refl refl

  len4 : length (front4 sequence half) ≡ 20
  len4 = longer_by (front3 sequence half) (zeros 3) 17 3 20 len3 (length-zeros 3) refl

  len5 : length (front5 sequence half text) ≡ 24
  len5 = longer_by (front4 sequence half) (four_bytes text) 20 4 24 len4 (length-four_bytes text) refl

  len6 : length (front6 sequence half text good) ≡ 28
  len6 = longer_by (front5 sequence half text) (four_bytes good) 24 4 28 len5 (length-four_bytes good) refl

  pub length-toggle : length (toggle_sector sequence half text good) ≡ 512
  unfolding toggle_sector
  length-toggle = longer_by (front6 sequence half text good) (zeros 484) 28 484 512 len6 (length-zeros 484) refl

  at6 : (k : ℕ) → k < 28 → get_or (toggle_sector sequence half text good) k 0 ≡ get_or (front6 sequence half text good) k 0
  unfolding toggle_sector
  at6 k lt = in_front (front6 sequence half text good) (zeros 484) 28 k len6 lt

  at5 : (k : ℕ) → k < 24 → get_or (toggle_sector sequence half text good) k 0 ≡ get_or (front5 sequence half text) k 0
  at5 k lt = at6 k (omega arith) ∙ in_front (front5 sequence half text) (four_bytes good) 24 k len5 lt

  at4 : (k : ℕ) → k < 20 → get_or (toggle_sector sequence half text good) k 0 ≡ get_or (front4 sequence half) k 0
  at4 k lt = at5 k (omega arith) ∙ in_front (front4 sequence half) (four_bytes text) 20 k len4 lt

  at3 : (k : ℕ) → k < 17 → get_or (toggle_sector sequence half text good) k 0 ≡ get_or (front3 sequence half) k 0
  at3 k lt = at4 k (omega arith) ∙ in_front (front3 sequence half) (zeros 3) 17 k len3 lt

  at2 : (k : ℕ) → k < 16 → get_or (toggle_sector sequence half text good) k 0 ≡ get_or (front2 sequence) k 0
  at2 k lt = at3 k (omega arith) ∙ in_front (front2 sequence) (half ∷ []) 16 k len2 lt

  pub toggle_mark : (k : ℕ) → k < 8 → get_or (toggle_sector sequence half text good) k 0 ≡ get_or (codes "vxtog001") k 0
  toggle_mark k lt = at2 k (omega arith) ∙ in_front (codes "vxtog001") (eight_bytes sequence) 8 k refl lt

  pub toggle_sequence : (k : ℕ) → 8 ≤ k → k < 16 → get_or (toggle_sector sequence half text good) k 0 ≡ get_or (eight_bytes sequence) (k - 8) 0
  toggle_sequence k le lt = at2 k lt ∙ in_back (codes "vxtog001") (eight_bytes sequence) 8 k refl le

  pub toggle_half : get_or (toggle_sector sequence half text good) 16 0 ≡ half
  toggle_half = at3 16 (omega arith) ∙ in_back (front2 sequence) (half ∷ []) 16 16 len2 (omega arith)

  pub toggle_gap : (k : ℕ) → 17 ≤ k → k < 20 → get_or (toggle_sector sequence half text good) k 0 ≡ 0
  toggle_gap k le lt = at4 k lt ∙ in_back (front3 sequence half) (zeros 3) 17 k len3 le ∙ get_or-zeros 3 (k - 17)

  pub toggle_text : (k : ℕ) → 20 ≤ k → k < 24 → get_or (toggle_sector sequence half text good) k 0 ≡ get_or (four_bytes text) (k - 20) 0
  toggle_text k le lt = at5 k lt ∙ in_back (front4 sequence half) (four_bytes text) 20 k len4 le

  pub toggle_good : (k : ℕ) → 24 ≤ k → k < 28 → get_or (toggle_sector sequence half text good) k 0 ≡ get_or (four_bytes good) (k - 24) 0
  toggle_good k le lt = at6 k lt ∙ in_back (front5 sequence half text) (four_bytes good) 24 k len5 le

  pub toggle_rest : (k : ℕ) → 28 ≤ k → get_or (toggle_sector sequence half text good) k 0 ≡ 0
  unfolding toggle_sector
  toggle_rest k le = in_back (front6 sequence half text good) (zeros 484) 28 k len6 le ∙ get_or-zeros 484 (k - 28)
