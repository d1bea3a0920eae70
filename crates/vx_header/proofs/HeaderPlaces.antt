-- What stands at each byte of a header's sector.
use Rattle.std.proofs.Common.{◌≡◌, ℕ, ◌+◌, ◌-◌, ◌<◌, ◌≤◌, List, [], ◌∷◌, ◌++◌, length, get_or, arith, refl, ◌∙◌, IsTrue}
use Rattle.std.specs.Prelude.{codes}
use Rattle.std.proofs.lemmas.List.{length-append, get_or_append_left, get_or-append_right}
use Rattle.vx_sector.specs.Fields.{zeros, eight_bytes}
use Rattle.vx_sector.proofs.FieldLemmas.{length-zeros, get_or-zeros, length-eight_bytes}
use Rattle.vx_header.specs.Sectors.{is_short_name, name_field, header_sector}
use Rattle.vx_header.proofs.NameLemmas.{length-name_field}

-- in front of a list, and behind one of so many bytes
pub in_front : (xs ys : List ℕ) (n k : ℕ) → length xs ≡ n → k < n → get_or (xs ++ ys) k 0 ≡ get_or xs k 0
in_front xs ys n k len lt = get_or_append_left xs ys 0 k (omega arith)

pub in_back : (xs ys : List ℕ) (n k : ℕ) → length xs ≡ n → n ≤ k → get_or (xs ++ ys) k 0 ≡ get_or ys (k - n) 0
in_back xs ys n k len le = get_or-append_right xs ys n k 0 len le

-- one field more
pub longer_by : (xs ys : List ℕ) (m n p : ℕ) → length xs ≡ m → length ys ≡ n → m + n ≡ p → length (xs ++ ys) ≡ p
longer_by xs ys m n p e f sum = length-append xs ys ∙ omega (arith, e, f, sum)

abbrev front2 : List ℕ → List ℕ
front2 group = codes "vxprv001" ++ name_field group

abbrev front3 : List ℕ → List ℕ → List ℕ
front3 group disk = front2 group ++ name_field disk

abbrev front4 : List ℕ → List ℕ → ℕ → List ℕ
front4 group disk slot = front3 group disk ++ slot ∷ []

abbrev front5 : List ℕ → List ℕ → ℕ → List ℕ
front5 group disk slot = front4 group disk slot ++ zeros 7

abbrev front6 : List ℕ → List ℕ → ℕ → ℕ → List ℕ
front6 group disk slot sectors = front5 group disk slot ++ eight_bytes sectors

abbrev front7 : List ℕ → List ℕ → ℕ → ℕ → List ℕ
front7 group disk slot sectors = front6 group disk slot sectors ++ eight_bytes 2048

module _ (group disk : List ℕ) (slot sectors : ℕ) (short : IsTrue (is_short_name group)) (short' : IsTrue (is_short_name disk)) where
  len2 : length (front2 group) ≡ 40
  len2 = longer_by (codes "vxprv001") (name_field group) 8 32 40 refl (length-name_field group short) refl

  len3 : length (front3 group disk) ≡ 72
  len3 = longer_by (front2 group) (name_field disk) 40 32 72 len2 (length-name_field disk short') refl

  len4 : length (front4 group disk slot) ≡ 73
  len4 = longer_by (front3 group disk) (slot ∷ []) 72 1 73 len3 refl refl

  len5 : length (front5 group disk slot) ≡ 80
  len5 = longer_by (front4 group disk slot) (zeros 7) 73 7 80 len4 (length-zeros 7) refl

  len6 : length (front6 group disk slot sectors) ≡ 88
  len6 = longer_by (front5 group disk slot) (eight_bytes sectors) 80 8 88 len5 (length-eight_bytes sectors) refl

  len7 : length (front7 group disk slot sectors) ≡ 96
  len7 = longer_by (front6 group disk slot sectors) (eight_bytes 2048) 88 8 96 len6 (length-eight_bytes 2048) refl

  pub length-header : length (header_sector group disk slot sectors) ≡ 512
  unfolding header_sector
  length-header = longer_by (front7 group disk slot sectors) (zeros 416) 96 416 512 len7 (length-zeros 416) refl

  at7 : (k : ℕ) → k < 96 → get_or (header_sector group disk slot sectors) k 0 ≡ get_or (front7 group disk slot sectors) k 0
  unfolding header_sector
  at7 k lt = in_front (front7 group disk slot sectors) (zeros 416) 96 k len7 lt

  at6 : (k : ℕ) → k < 88 → get_or (header_sector group disk slot sectors) k 0 ≡ get_or (front6 group disk slot sectors) k 0
  at6 k lt = at7 k (omega arith) ∙ in_front (front6 group disk slot sectors) (eight_bytes 2048) 88 k len6 lt

  at5 : (k : ℕ) → k < 80 → get_or (header_sector group disk slot sectors) k 0 ≡ get_or (front5 group disk slot) k 0
  at5 k lt = at6 k (omega arith) ∙ in_front (front5 group disk slot) (eight_bytes sectors) 80 k len5 lt

  at4 : (k : ℕ) → k < 73 → get_or (header_sector group disk slot sectors) k 0 ≡ get_or (front4 group disk slot) k 0
  at4 k lt = at5 k (omega arith) ∙ in_front (front4 group disk slot) (zeros 7) 73 k len4 lt

  at3 : (k : ℕ) → k < 72 → get_or (header_sector group disk slot sectors) k 0 ≡ get_or (front3 group disk) k 0
  at3 k lt = at4 k (omega arith) ∙ in_front (front3 group disk) (slot ∷ []) 72 k len3 lt

  at2 : (k : ℕ) → k < 40 → get_or (header_sector group disk slot sectors) k 0 ≡ get_or (front2 group) k 0
  at2 k lt = at3 k (omega arith) ∙ in_front (front2 group) (name_field disk) 40 k len2 lt

  pub header_mark : (k : ℕ) → k < 8 → get_or (header_sector group disk slot sectors) k 0 ≡ get_or (codes "vxprv001") k 0
  header_mark k lt = at2 k (omega arith) ∙ in_front (codes "vxprv001") (name_field group) 8 k refl lt

  pub header_group : (k : ℕ) → 8 ≤ k → k < 40 → get_or (header_sector group disk slot sectors) k 0 ≡ get_or (name_field group) (k - 8) 0
  header_group k le lt = at2 k lt ∙ in_back (codes "vxprv001") (name_field group) 8 k refl le

  pub header_disk : (k : ℕ) → 40 ≤ k → k < 72 → get_or (header_sector group disk slot sectors) k 0 ≡ get_or (name_field disk) (k - 40) 0
  header_disk k le lt = at3 k lt ∙ in_back (front2 group) (name_field disk) 40 k len2 le

  pub header_slot : get_or (header_sector group disk slot sectors) 72 0 ≡ slot
  header_slot = at4 72 (omega arith) ∙ in_back (front3 group disk) (slot ∷ []) 72 72 len3 (omega arith)

  pub header_gap : (k : ℕ) → 73 ≤ k → k < 80 → get_or (header_sector group disk slot sectors) k 0 ≡ 0
  header_gap k le lt = at5 k lt ∙ in_back (front4 group disk slot) (zeros 7) 73 k len4 le ∙ get_or-zeros 7 (k - 73)

  pub header_sectors : (k : ℕ) → 80 ≤ k → k < 88 → get_or (header_sector group disk slot sectors) k 0 ≡ get_or (eight_bytes sectors) (k - 80) 0
  header_sectors k le lt = at6 k lt ∙ in_back (front5 group disk slot) (eight_bytes sectors) 80 k len5 le

  pub header_private : (k : ℕ) → 88 ≤ k → k < 96 → get_or (header_sector group disk slot sectors) k 0 ≡ get_or (eight_bytes 2048) (k - 88) 0
  header_private k le lt = at7 k lt ∙ in_back (front6 group disk slot sectors) (eight_bytes 2048) 88 k len6 le

  pub header_rest : (k : ℕ) → 96 ≤ k → get_or (header_sector group disk slot sectors) k 0 ≡ 0
  unfolding header_sector
  header_rest k le = in_back (front7 group disk slot sectors) (zeros 416) 96 k len7 le ∙ get_or-zeros 416 (k - 96)
