-- The first byte of a sector that does not fit: the first place at which nothing goes on with the same earlier bytes.
use Rattle.std.specs.Prelude.{◌≡◌, ℕ, ◌+◌, Bool, ◌||◌, ◌&&◌, ◌==◌, nat_le, if◌then◌else◌, IsTrue, List, take}

-- one of these sectors has the same first n bytes
abbrev pub GoesOn : (List ℕ → Type 0) → List ℕ → ℕ → Type 0
GoesOn IsOne sector n = (other : List ℕ) × IsOne other × (take n other ≡ take n sector)

-- The sector goes on as one of these up to this place, and as none of them to the end of what is read there at once.
pub record IsFirstBad (IsOne : List ℕ → Type 0) (is_place : ℕ → Bool) (end_of : ℕ → ℕ) (sector : List ℕ) (byte : ℕ) : Type 0 where
  pub place : IsTrue (is_place byte)
  pub before : GoesOn IsOne sector byte
  pub here : ¬ GoesOn IsOne sector (end_of byte)

-- In a header each byte is read alone, but for the two numbers of eight bytes.
abbrev pub is_header_place : ℕ → Bool
is_header_place byte = nat_le byte 80 || byte == 88 || nat_le 96 byte

abbrev pub header_end : ℕ → ℕ
header_end byte = if byte == 80 || byte == 88 then byte + 8 else byte + 1

-- In a toggle the mark and the three numbers are read as a whole.
abbrev pub is_toggle_place : ℕ → Bool
is_toggle_place byte = byte == 0 || byte == 8 || nat_le 16 byte && nat_le byte 20 || byte == 24 || nat_le 28 byte

abbrev pub toggle_end : ℕ → ℕ
toggle_end byte = if byte == 0 || byte == 8 then byte + 8 else (if byte == 20 || byte == 24 then byte + 4 else byte + 1)

-- the place at which a byte of a header is read
abbrev pub header_place : ℕ → ℕ
header_place byte = if nat_le 80 byte && nat_le byte 87 then 80 else (if nat_le 88 byte && nat_le byte 95 then 88 else byte)

-- the place at which a byte of a toggle is read
abbrev pub toggle_place : ℕ → ℕ
toggle_place byte =
    if nat_le byte 7 then 0
    else (if nat_le byte 15 then 8 else (if nat_le 20 byte && nat_le byte 23 then 20 else (if nat_le 24 byte && nat_le byte 27 then 24 else byte)))
