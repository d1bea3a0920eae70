-- What a word says, where it is of a class.
use Rattle.std.specs.Prelude.{ℕ, Option, Some, None, List, [], ◌∷◌}
use Rattle.vx_script_words.specs.Hex.{byte_of}
use Rattle.vx_script_words.specs.Key.{text_of}
use Rattle.vx_script_words.specs.Number.{number_of, within, length_of}
use Rattle.vx_script_words.specs.Parts.{behind, name_of, pair_of, break_off_of}
use Rattle.vx_script_words.specs.declared.class.Class.{Class}
use Rattle.vx_script_words.specs.declared.class.Sort.{Sort}
use Rattle.vx_script_words.specs.declared.class.Sort.TheVariants as sort
use Rattle.vx_script_words.specs.declared.value.DiskAt.{DiskAt}
use Rattle.vx_script_words.specs.declared.value.Value.{Value}
use Rattle.vx_script_words.specs.declared.value.Value.TheVariants as value

abbrev pub as_name : Option (List ℕ) → Option Value
as_name None = None
as_name (Some name) = Some (value.Named name)

abbrev pub as_number : Option ℕ → Option Value
as_number None = None
as_number (Some n) = Some (value.Number n)

abbrev pub as_pair : Option DiskAt → Option Value
as_pair None = None
as_pair (Some pair) = Some (value.Pair pair)

abbrev pub as_word : List ℕ → Option Value
as_word [] = Some value.Word
as_word (b ∷ bs) = None

abbrev pub sort_value : Sort → List ℕ → Option Value
sort_value sort.Word word = as_word word
sort_value sort.Named word = as_name (name_of word)
sort_value (sort.Number low high) word = as_number (within low high (number_of word))
sort_value sort.Length word = as_number (length_of word)
sort_value sort.Byte word = as_number (byte_of word)
sort_value sort.Pair word = as_pair (pair_of word)
sort_value sort.BreakOff word = break_off_of word

abbrev pub value_behind : Sort → Option (List ℕ) → Option Value
value_behind s None = None
value_behind s (Some word) = sort_value s word

-- the value of a word, where it has the front and what follows is of the sort
unfoldable pub class_value : Class → List ℕ → Option Value
class_value class word = value_behind class.sort (behind (text_of class.front) word)
