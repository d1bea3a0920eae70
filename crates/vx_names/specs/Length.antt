-- A length is a number, then none or one of the letters of a unit; it is told in sectors.
use Rattle.std.specs.Prelude.{◌≡◌, ℕ, ◌+◌, ◌*◌, ◌^◌, ◌<◌, ◌≤◌, ◌==◌, nat_lt, IsTrue, if◌then◌else◌, List, [], ◌∷◌, ◌++◌, drop}
use Rattle.std.specs.List.{prefix_len}
use Rattle.vx_names.specs.Form.{begins_with}
use Rattle.vx_names.specs.Number.{is_digit, is_numeral, digits_value}
use Rattle.vx_names.specs.Place.{IsPlace}
use Rattle.vx_names.specs.declared.length.LengthFault.{LengthFault}
use Rattle.vx_names.specs.declared.length.LengthFault.TheVariants.{BadLength}

-- the sectors of one: of nothing and of `s` 1, of `k` 2, of `m` 2,048, of `g` 2,097,152; of no unit 0
abbrev pub unit_sectors : List ℕ → ℕ
unit_sectors [] = 1
unit_sectors (u ∷ []) = if u == 115 then 1 else (if u == 107 then 2 else (if u == 109 then 2048 else (if u == 103 then 2097152 else 0)))
unit_sectors (u ∷ v ∷ us) = 0

-- the digits and the unit of a word of the form
pub record IsLength (word ds us : List ℕ) : Type 0 where
  pub digits : IsTrue (is_numeral ds)
  pub unit : 0 < unit_sectors us
  pub spelled : word ≡ ds ++ us

abbrev pub IsLengthWord : List ℕ → Type 0
IsLengthWord word = (ds us : List ℕ) × IsLength word ds us

-- the word is a length of so many sectors, at least one and at most 2^40
pub record Measures (word : List ℕ) (sectors : ℕ) : Type 0 where
  pub digits : List ℕ
  pub unit : List ℕ
  pub form : IsLength word digits unit
  pub value : sectors ≡ digits_value digits * unit_sectors unit
  pub some : 0 < sectors
  pub most : sectors ≤ 2 ^ 40

abbrev pub IsBadLength : List ℕ → LengthFault → Type 0
IsBadLength word (BadLength place) = IsPlace IsLengthWord word place

-- the bytes of the longest number at the front
abbrev pub numeral_front : List ℕ → ℕ
numeral_front word = if begins_with 48 word then 1 else prefix_len is_digit word

-- whether the letter of a unit stands at the front
abbrev pub unit_front : List ℕ → ℕ
unit_front [] = 0
unit_front (u ∷ us) = if nat_lt 0 (unit_sectors (u ∷ [])) then 1 else 0

-- the end of the longest front of the word with which a length begins
abbrev pub length_place : List ℕ → ℕ
length_place word = if numeral_front word == 0 then 0 else numeral_front word + unit_front (drop (numeral_front word) word)
