-- The printed text of commands: the words of each line by the table of forms, parted by one blank.
use Rattle.std.specs.Prelude.{ℕ, zero, suc, ◌/◌, ◌%◌, Option, Some, None, List, [], ◌∷◌, ◌++◌, length, map, take, drop, codes}
use Rattle.std.specs.List.{flat_map}
use Rattle.std.specs.Fmt.{decimal}
use Rattle.vx_block.specs.Word.{hex, block_word}
use Rattle.vx_script.specs.declared.command.Command.{Command}
use Rattle.vx_script_forms.specs.Table.{items_of}
use Rattle.vx_script_forms.specs.ValuesOf.{kind_of, values_of}
use Rattle.vx_script_forms.specs.declared.block.Line.{Line}
use Rattle.vx_script_forms.specs.declared.block.Line.TheVariants as line
use Rattle.vx_script_forms.specs.declared.form.Form.{Form}
use Rattle.vx_script_forms.specs.declared.form.Form.TheVariants as form
use Rattle.vx_script_words.specs.Fits.{pair_word}
use Rattle.vx_script_words.specs.Key.{text_of}
use Rattle.vx_script_words.specs.Spelling.{begun}
use Rattle.vx_script_words.specs.declared.class.Class.{Class}
use Rattle.vx_script_words.specs.declared.class.Item.{Item}
use Rattle.vx_script_words.specs.declared.class.Item.TheVariants as item
use Rattle.vx_script_words.specs.declared.class.Sort.{Sort}
use Rattle.vx_script_words.specs.declared.class.Sort.TheVariants as sort
use Rattle.vx_script_words.specs.declared.value.Value.{Value}
use Rattle.vx_script_words.specs.declared.value.Value.TheVariants as value

abbrev pub plex_text : Option (List ℕ) → List ℕ
plex_text None = codes "/nmirror=1"
plex_text (Some plex) = codes "/plex=" ++ plex

-- a number in decimal digits, and a byte in two hexadecimal ones
abbrev pub number_text : Sort → ℕ → List ℕ
number_text sort.Byte n = hex (n % 256)
number_text s n = decimal n

-- what a word says behind its front
abbrev pub value_text : Sort → Value → List ℕ
value_text s (value.Named name) = name
value_text s (value.Number n) = number_text s n
value_text s (value.Pair pair) = pair_word pair
value_text s (value.BreakOff vol snap plex) = vol ++ codes "/newvol=" ++ snap ++ plex_text plex
value_text s v = []

abbrev pub class_word : Class → Value → List ℕ
class_word class v = text_of class.front ++ value_text class.sort v

-- so many blocks, one by one
abbrev pub cut_blocks : ℕ → List ℕ → List (List ℕ)
cut_blocks zero bytes = []
cut_blocks (suc n) bytes = take 512 bytes ∷ cut_blocks n (drop 512 bytes)

-- the words of a part that says a value
abbrev pub words_of : Item → Value → List (List ℕ)
words_of (item.One class) v = class_word class v ∷ []
words_of (item.Maybe class) value.Nothing = []
words_of (item.Maybe class) v = class_word class v ∷ []
words_of item.Group (value.Named name) = codes "-g" ∷ name ∷ []
words_of item.Names (value.Names names) = names
words_of item.Pairs (value.Pairs pairs) = map pair_word pairs
words_of item.Blocks (value.Blocks bytes) = map block_word (cut_blocks (length bytes / 512) bytes)
words_of i v = []

-- those of a line, part by part
abbrev pub row_words : List Item → List Value → List (List ℕ)
row_words (i ∷ is) (v ∷ vs) = words_of i v ++ row_words is vs
row_words is vs = []

-- the words of a form, with the group
abbrev pub form_words : Option (List ℕ) → Form → List (List ℕ)
form_words group f = row_words (items_of (kind_of f)) (values_of group f)

abbrev pub cut_words : Option ℕ → List (List ℕ)
cut_words None = []
cut_words (Some n) = (codes "cut=" ++ decimal n) ∷ []

abbrev pub line_text : Line → List ℕ
line_text (line.Session session call) = begun (decimal session ∷ form_words None (form.Calling call)) ++ 10 ∷ []
line_text (line.Administer admin) = begun (codes "0" ∷ form_words admin.group (form.Acting admin.act)) ++ 10 ∷ []

-- the lines behind the first
abbrev pub body_text : Form → List ℕ
body_text (form.VxMake text) = text ++ codes "end" ++ 10 ∷ []
body_text (form.Sessions block) = flat_map line_text block.lines ++ codes "end" ++ 10 ∷ []
body_text f = []

abbrev pub command_text : Command → List ℕ
command_text c = begun (form_words c.group c.form ++ cut_words c.cut) ++ 10 ∷ [] ++ body_text c.form

abbrev pub script_text : List Command → List ℕ
script_text commands = flat_map command_text commands
