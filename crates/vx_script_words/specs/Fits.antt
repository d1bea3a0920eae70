-- The values that the parts of a form may have.
use Rattle.std.specs.Prelude.{ℕ, ◌^◌, ◌%◌, ◌==◌, ◌&&◌, ◌++◌, nat_le, nat_lt, is_none, Bool, true, false, Option, Some, None, List, [], ◌∷◌, length, codes}
use Rattle.std.specs.List.{list_all}
use Rattle.vx_names.specs.Form.{is_name}
use Rattle.vx_script_words.specs.Parts.{cut_of}
use Rattle.vx_script_words.specs.declared.class.Item.{Item}
use Rattle.vx_script_words.specs.declared.class.Item.TheVariants as item
use Rattle.vx_script_words.specs.declared.class.Sort.{Sort}
use Rattle.vx_script_words.specs.declared.class.Sort.TheVariants as sort
use Rattle.vx_script_words.specs.declared.value.DiskAt.{DiskAt}
use Rattle.vx_script_words.specs.declared.value.Value.{Value}
use Rattle.vx_script_words.specs.declared.value.Value.TheVariants as value

abbrev pub is_between : ℕ → ℕ → ℕ → Bool
is_between low high n = nat_le low n && nat_le n high

abbrev pub is_byte : ℕ → Bool
is_byte b = nat_lt b 256

-- the bytes of 1 to 64 blocks
abbrev pub are_blocks : List ℕ → Bool
are_blocks bytes = length bytes % 512 == 0 && is_between 512 32768 (length bytes) && list_all is_byte bytes

-- there is no name, or it is one
abbrev pub maybe_name : Option (List ℕ) → Bool
maybe_name None = true
maybe_name (Some name) = is_name name

-- the word of a disk and its device
abbrev pub pair_word : DiskAt → List ℕ
pair_word pair = pair.disk ++ codes "=" ++ pair.device

-- a disk and its device, which are not together a word `cut=N`
abbrev pub is_pair : DiskAt → Bool
is_pair pair = is_name pair.disk && is_name pair.device && is_none (cut_of (pair_word pair))

-- a value of the sort
abbrev pub is_of : Sort → Value → Bool
is_of sort.Word value.Word = true
is_of sort.Named (value.Named name) = is_name name
is_of (sort.Number low high) (value.Number n) = is_between low high n
is_of sort.Length (value.Number n) = is_between 1 (2 ^ 40) n
is_of sort.Byte (value.Number n) = is_byte n
is_of sort.Pair (value.Pair pair) = is_pair pair
is_of sort.BreakOff (value.BreakOff vol snap plex) = is_name vol && is_name snap && maybe_name plex
is_of s v = false

-- there is none, or it is of the sort
abbrev pub maybe_of : Sort → Value → Bool
maybe_of s value.Nothing = true
maybe_of s v = is_of s v

-- a value of the part
abbrev pub of_item : Item → Value → Bool
of_item (item.One class) v = is_of class.sort v
of_item (item.Maybe class) v = maybe_of class.sort v
of_item item.Group v = maybe_of sort.Named v
of_item item.NoGroup value.Nothing = true
of_item item.Names (value.Names names) = list_all is_name names
of_item item.Pairs (value.Pairs pairs) = nat_lt 0 (length pairs) && list_all is_pair pairs
of_item item.Blocks (value.Blocks bytes) = are_blocks bytes
of_item i v = false

-- a value for each part
abbrev pub are_of : List Item → List Value → Bool
are_of [] [] = true
are_of (i ∷ is) (v ∷ vs) = of_item i v && are_of is vs
are_of is vs = false
