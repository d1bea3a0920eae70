-- Commands that keep the ranges of their words and the limits of blocks.
use Rattle.std.specs.Prelude.{ℕ, ◌^◌, ◌==◌, ◌&&◌, nat_le, nat_lt, not, is_none, Bool, true, Option, Some, None, List, [], ◌∷◌, map, sum, codes}
use Rattle.std.specs.List.{list_all}
use Rattle.std.specs.Str.{bytes_eq}
use Rattle.vx_script.specs.Lines.{lines_of, bad_word}
use Rattle.vx_script.specs.Steps.{line_calls, line_sectors}
use Rattle.vx_script.specs.declared.command.Command.{Command}
use Rattle.vx_script_forms.specs.Table.{items_of}
use Rattle.vx_script_forms.specs.ValuesOf.{kind_of, values_of}
use Rattle.vx_script_forms.specs.declared.block.Block.{Block}
use Rattle.vx_script_forms.specs.declared.block.Line.{Line}
use Rattle.vx_script_forms.specs.declared.block.Line.TheVariants.{Session, Administer}
use Rattle.vx_script_forms.specs.declared.form.Form.{Form}
use Rattle.vx_script_forms.specs.declared.form.Form.TheVariants as form
use Rattle.vx_script_words.specs.Fits.{is_between, are_of}

-- the values of the form's first line, with the group, are those of its parts: all are in their ranges
abbrev pub is_said : Option (List ℕ) → Form → Bool
is_said group f = are_of (items_of (kind_of f)) (values_of group f)

-- a line of a block of so many sessions
abbrev pub is_line : ℕ → Line → Bool
is_line sessions (Session session call) = is_between 1 sessions session && is_said None (form.Calling call)
is_line sessions (Administer admin) = is_said admin.group (form.Acting admin.act)

-- lines of so many calls and sectors
abbrev pub is_block : Block → Bool
is_block b = list_all (is_line b.sessions) b.lines && nat_le (sum (map line_calls b.lines)) 65536 && nat_le (sum (map line_sectors b.lines)) 262144

-- it is empty, or its last byte is a newline
abbrev pub ends_line : List ℕ → Bool
ends_line [] = true
ends_line (b ∷ []) = b == 10
ends_line (b ∷ c ∷ cs) = ends_line (c ∷ cs)

-- neither just `end`, nor with a byte outside the alphabet
abbrev pub is_record_line : List ℕ → Bool
is_record_line line = is_none (bad_word line) && not (bytes_eq line (codes "end"))

-- lines of a record text, each with its newline
abbrev pub is_made : List ℕ → Bool
is_made text = list_all is_record_line (lines_of text) && ends_line text

abbrev pub is_body : Form → Bool
is_body (form.Sessions block) = is_block block
is_body (form.VxMake text) = is_made text
is_body f = true

abbrev pub maybe_cut : Option ℕ → Bool
maybe_cut None = true
maybe_cut (Some n) = nat_lt n (2 ^ 40)

abbrev pub is_command : Command → Bool
is_command c = is_said c.group c.form && is_body c.form && maybe_cut c.cut

abbrev pub is_kept : List Command → Bool
is_kept commands = list_all is_command commands
