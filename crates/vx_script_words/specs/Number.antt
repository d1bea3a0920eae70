-- What the word of a number and that of a length say, where they are in a range.
use Rattle.std.specs.Prelude.{ℕ, ◌*◌, ◌^◌, ◌&&◌, nat_le, if◌then◌else◌, Option, Some, None, List, take, drop}
use Rattle.vx_names.specs.Length.{numeral_front, unit_sectors}
use Rattle.vx_names.specs.Number.{digits_value, is_number, is_numeral}

-- a number below 2^40
abbrev pub number_of : List ℕ → Option ℕ
number_of word = if is_number word then Some (digits_value word) else None

abbrev pub within : ℕ → ℕ → Option ℕ → Option ℕ
within low high None = None
within low high (Some n) = if nat_le low n && nat_le n high then Some n else None

-- a number of units, 1 to 2^40 sectors
abbrev pub units_of : List ℕ → List ℕ → Option ℕ
units_of number unit = if is_numeral number then within 1 (2 ^ 40) (Some (digits_value number * unit_sectors unit)) else None

-- the sectors of the number at the front and the unit behind it
abbrev pub length_of : List ℕ → Option ℕ
length_of word = units_of (take (numeral_front word) word) (drop (numeral_front word) word)
