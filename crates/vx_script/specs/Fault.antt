-- What a fault of a script names: the first line that is refused, and in it the place; or where a script ends too early.
use Rattle.std.specs.Prelude.{◌≡◌, ◌⊎◌, ◌≢◌, ℕ, ◌+◌, ◌-◌, ◌==◌, ◌&&◌, nat_le, not, Bool, if◌then◌else◌, true, false, Some, None, Ok, List, [], ◌∷◌, ◌++◌, length, codes}
use Rattle.std.specs.Str.{bytes_eq}
use Rattle.vx_script.specs.Lines.{bad_word, is_passed_over, lines_of}
use Rattle.vx_script.specs.Place.{IsPlace}
use Rattle.vx_script.specs.Steps.{line_calls, line_sectors, session_line, step}
use Rattle.vx_script.specs.declared.fault.ScriptFault.{ScriptFault}
use Rattle.vx_script.specs.declared.fault.ScriptFault.TheVariants as fault
use Rattle.vx_script.specs.declared.reader.Open.{Open}
use Rattle.vx_script.specs.declared.reader.Open.TheVariants.{Closed, Making, Inside}
use Rattle.vx_script.specs.declared.reader.Reader.{Reader}
use Rattle.vx_script_forms.specs.Table.{commands, calls, acts}
use Rattle.vx_script_forms.specs.declared.block.Line.{Line}
use Rattle.vx_script_words.specs.Number.{number_of, within}
use Rattle.vx_script_words.specs.Words.{from_word, first_word, past_word}

-- the words behind the session are no act, or no call: so much is left from the place of the fault on
abbrev pub IsNoLine : ℕ → List ℕ → ℕ → Type 0
IsNoLine sessions text left = (session : ℕ) × (within 0 sessions (number_of (first_word text)) ≡ Some session) × IsPlace false (if session == 0 then acts else calls) (past_word text) left

-- the line would pass the calls or the sectors of a block
abbrev pub is_too_much : ℕ → ℕ → Line → Bool
is_too_much so_many so_long l = not (nat_le (so_many + line_calls l) 65536 && nat_le (so_long + line_sectors l) 262144)

-- why a line of a block that is no `end` is refused: its first word is no session, the words behind it do not fit, or it is too
-- much, which is a fault of the whole line
abbrev pub IsRefusedCall : ℕ → ℕ → ℕ → List ℕ → ℕ → Type 0
IsRefusedCall sessions so_many so_long line left =
    ((within 0 sessions (number_of (first_word (from_word line))) ≡ None) × (left ≡ length (from_word line)))
    ⊎ (IsNoLine sessions (from_word line) left
    ⊎ ((l : Line) × (session_line sessions (from_word line) ≡ Ok l) × (is_too_much so_many so_long l ≡ true) × (left ≡ length line)))

-- the line is `end` with words behind it
abbrev pub IsRefusedEnd : List ℕ → ℕ → Type 0
IsRefusedEnd line left = left ≡ length (from_word (past_word (from_word line)))

-- why a line of a block is refused: it is `end` with words behind it, or neither `end` nor a call
abbrev pub IsRefusedInside : ℕ → ℕ → ℕ → List ℕ → ℕ → Type 0
IsRefusedInside sessions so_many so_long line left =
    ((bytes_eq (first_word (from_word line)) (codes "end") ≡ true) × IsRefusedEnd line left)
    ⊎ ((bytes_eq (first_word (from_word line)) (codes "end") ≡ false) × IsRefusedCall sessions so_many so_long line left)

-- a comment or a line without words is refused where a word has a byte outside the alphabet, another line by its words
abbrev pub IsRefusedBy : List ℕ → ℕ → Type 0 → Type 0
IsRefusedBy line left Words = ((is_passed_over line ≡ true) × (bad_word line ≡ Some left)) ⊎ ((is_passed_over line ≡ false) × Words)

-- why a line is refused, and how much of it is left from its place on
abbrev pub IsRefused : Open → List ℕ → ℕ → Type 0
IsRefused Closed line left = IsRefusedBy line left (IsPlace true commands line left)
IsRefused (Making _ _ _) line left = bad_word line ≡ Some left
IsRefused (Inside _ sessions _ so_many so_long) line left = IsRefusedBy line left (IsRefusedInside sessions so_many so_long line left)

-- the lines lead from one state of the reader to another
abbrev pub Leads : Reader → List (List ℕ) → Reader → Type 0
Leads reader [] end = reader ≡ end
Leads reader (line ∷ lines) end = (next : Reader) × (step reader line ≡ Ok next) × Leads next lines end

-- a line of this number, which is refused with so much left of it from the column on
pub record IsRefusal (start : Reader) (lines : List (List ℕ)) (number column : ℕ) : Type 0 where
  pub before : List (List ℕ)
  pub line : List ℕ
  pub after : List (List ℕ)
  pub parts : lines ≡ before ++ line ∷ after
  pub reader : Reader
  pub leads : Leads start before reader
  pub left : ℕ
  pub refused : IsRefused reader.begun line left
  pub number_is : number ≡ length before + 1
  pub column_is : column ≡ length line - left + 1

-- a command that has lines of its own is not closed
pub record IsUnfinished (start : Reader) (lines : List (List ℕ)) (number column : ℕ) : Type 0 where
  pub reader : Reader
  pub leads : Leads start lines reader
  pub begun : reader.begun ≢ Closed
  pub number_is : number ≡ length lines + 1
  pub column_is : column ≡ 1

abbrev pub IsFault : List ℕ → ScriptFault → Type 0
IsFault text fault.OutOfMemory = Unit {0}
IsFault text (fault.Script line column) =
    IsRefusal (record { done = []; begun = Closed }) (lines_of text) line column ⊎ IsUnfinished (record { done = []; begun = Closed }) (lines_of text) line column
