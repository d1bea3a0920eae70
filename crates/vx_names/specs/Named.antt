-- A word that is no name, and its place.
use Rattle.std.specs.Prelude.{ℕ, min, if◌then◌else◌, IsTrue, List}
use Rattle.std.specs.List.{prefix_len}
use Rattle.vx_names.specs.Form.{is_name, begins_well, is_name_byte}
use Rattle.vx_names.specs.Place.{IsPlace}
use Rattle.vx_names.specs.declared.name.NameFault.{NameFault}
use Rattle.vx_names.specs.declared.name.NameFault.TheVariants.{BadName}

abbrev pub IsNameWord : List ℕ → Type 0
IsNameWord word = IsTrue (is_name word)

abbrev pub IsBadName : List ℕ → NameFault → Type 0
IsBadName word (BadName place) = IsPlace IsNameWord word place

-- the longest front of the word with which a name begins
abbrev pub name_front : List ℕ → ℕ
name_front word = if begins_well word then min 31 (prefix_len is_name_byte word) else 0
