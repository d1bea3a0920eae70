-- The sectors of a header and of a toggle, from the first byte to the last.
use Rattle.std.specs.Prelude.{ℕ, ◌-◌, Bool, ◌&&◌, nat_le, List, [], ◌∷◌, ◌++◌, length, codes}
use Rattle.vx_names.specs.Form.{is_name}
use Rattle.vx_sector.specs.Fields.{zeros, eight_bytes, four_bytes}

-- a name of at most 24 characters
abbrev pub is_short_name : List ℕ → Bool
is_short_name name = is_name name && nat_le (length name) 24

-- a name, and zeros behind it up to 32 bytes
abbrev pub name_field : List ℕ → List ℕ
name_field name = name ++ zeros (32 - length name)

-- the mark, the names of group and disk, the slot, and behind seven zeros the sectors of the device and of its private region
unfoldable pub header_sector : List ℕ → List ℕ → ℕ → ℕ → List ℕ
header_sector group disk slot sectors =
    codes "vxprv001" ++ name_field group ++ name_field disk ++ slot ∷ [] ++ zeros 7 ++ eight_bytes sectors ++ eight_bytes 2048 ++ zeros 416

-- the mark, the sequence, the half, and behind three zeros the bytes of the text and the mask of good slots
unfoldable pub toggle_sector : ℕ → ℕ → ℕ → ℕ → List ℕ
toggle_sector sequence half text good =
    codes "vxtog001" ++ eight_bytes sequence ++ half ∷ [] ++ zeros 3 ++ four_bytes text ++ four_bytes good ++ zeros 484
