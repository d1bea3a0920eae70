-- What each line of a script does: it adds a command, or goes on with one that has lines of its own.
use Rattle.std.specs.Prelude.{ℕ, ◌+◌, ◌/◌, ◌==◌, ◌&&◌, nat_le, true, false, if◌then◌else◌, Option, Some, None, Result, Ok, Err, List, [], ◌∷◌, ◌++◌, length, codes}
use Rattle.std.specs.Str.{bytes_eq}
use Rattle.vx_script.specs.Choice.{choose}
use Rattle.vx_script.specs.Lines.{is_passed_over, bad_word}
use Rattle.vx_script.specs.declared.command.Command.{Command}
use Rattle.vx_script.specs.declared.reader.Open.{Open}
use Rattle.vx_script.specs.declared.reader.Open.TheVariants.{Closed, Making, Inside}
use Rattle.vx_script.specs.declared.reader.Reader.{Reader}
use Rattle.vx_script_forms.specs.FormOf.{form_of}
use Rattle.vx_script_forms.specs.Table.{commands, calls, acts}
use Rattle.vx_script_forms.specs.Values.{group_of}
use Rattle.vx_script_forms.specs.declared.block.Line.{Line}
use Rattle.vx_script_forms.specs.declared.block.Line.TheVariants.{Session, Administer}
use Rattle.vx_script_forms.specs.declared.call.Call.{Call}
use Rattle.vx_script_forms.specs.declared.call.Call.TheVariants as call
use Rattle.vx_script_forms.specs.declared.form.Form.{Form}
use Rattle.vx_script_forms.specs.declared.form.Form.TheVariants as form
use Rattle.vx_script_words.specs.Number.{number_of, within}
use Rattle.vx_script_words.specs.Row.{and_then, ends}
use Rattle.vx_script_words.specs.Words.{from_word, first_word, past_word}

-- a command that is whole with its line is added; one that has lines of its own is open
abbrev pub opened : List Command → Option (List ℕ) → Form → Option ℕ → Reader
opened done group (form.VxMake text) cut = record { done = done; begun = Making group cut [] }
opened done group (form.Sessions block) cut = record { done = done; begun = Inside cut block.sessions [] 0 0 }
opened done group f cut = record { done = done ++ (record { group = group; form = f; cut = cut }) ∷ []; begun = Closed }

abbrev pub opened_by : List Command → Option (Option (List ℕ)) → Option Form → Option ℕ → Result Reader ℕ
opened_by done None f cut = Err 0
opened_by done (Some group) None cut = Err 0
opened_by done (Some group) (Some f) cut = Ok (opened done group f cut)

unfoldable pub command_step : List Command → List ℕ → Result Reader ℕ
command_step done line = and_then (choose true commands line) (λ c. opened_by done (group_of c.values) (form_of c.kind c.values) c.cut)

abbrev pub or_bad : Option ℕ → Reader → Result Reader ℕ
or_bad None reader = Ok reader
or_bad (Some left) reader = Err left

-- outside vxmake and blocks
abbrev pub closed_step : List Command → List ℕ → Result Reader ℕ
closed_step done line = if is_passed_over line then or_bad (bad_word line) (record { done = done; begun = Closed }) else command_step done line

-- the lines of vxmake are taken as they are, up to the line that is just `end`
abbrev pub making_step : List Command → Option (List ℕ) → Option ℕ → List ℕ → List ℕ → Result Reader ℕ
making_step done group cut text line = if bytes_eq line (codes "end") then Ok (record { done = done ++ (record { group = group; form = form.VxMake text; cut = cut }) ∷ []; begun = Closed }) else or_bad (bad_word line) (record { done = done; begun = Making group cut (text ++ line ++ 10 ∷ []) })

abbrev pub administered : Option (Option (List ℕ)) → Option Form → Result Line ℕ
administered None f = Err 0
administered (Some group) None = Err 0
administered (Some group) (Some (form.Acting act)) = Ok (Administer (record { group = group; act = act }))
administered (Some group) (Some f) = Err 0

abbrev pub called : ℕ → Option Form → Result Line ℕ
called session None = Err 0
called session (Some (form.Calling call)) = Ok (Session session call)
called session (Some f) = Err 0

-- session 0 has acts, the others have calls
unfoldable pub line_behind : ℕ → List ℕ → Result Line ℕ
line_behind session text = if session == 0 then and_then (choose false acts text) (λ c. administered (group_of c.values) (form_of c.kind c.values)) else and_then (choose false calls text) (λ c. called session (form_of c.kind c.values))

abbrev pub line_of_session : Option ℕ → List ℕ → Result Line ℕ
line_of_session None text = Err (length text)
line_of_session (Some session) text = line_behind session (past_word text)

-- a line of a block of so many sessions
unfoldable pub session_line : ℕ → List ℕ → Result Line ℕ
session_line sessions text = line_of_session (within 0 sessions (number_of (first_word text))) text

abbrev pub call_sectors : Call → ℕ
call_sectors (call.Read vol start count) = count
call_sectors (call.Fill vol start count byte) = count
call_sectors (call.Data vol start blocks) = length blocks / 512

abbrev pub line_calls : Line → ℕ
line_calls (Session session c) = 1
line_calls (Administer admin) = 0

abbrev pub line_sectors : Line → ℕ
line_sectors (Session session c) = call_sectors c
line_sectors (Administer admin) = 0

-- the line that would pass the calls or the sectors of a block does not fit at all
abbrev pub added : List Command → Option ℕ → ℕ → List Line → ℕ → ℕ → ℕ → Line → Result Reader ℕ
added done cut sessions lines calls sectors whole line = if nat_le (calls + line_calls line) 65536 && nat_le (sectors + line_sectors line) 262144 then Ok (record { done = done; begun = Inside cut sessions (lines ++ line ∷ []) (calls + line_calls line) (sectors + line_sectors line) }) else Err whole

abbrev pub ended : List Command → Option ℕ → ℕ → List Line → List ℕ → Result Reader ℕ
ended done cut sessions lines rest = ends (record { done = done ++ (record { group = None; form = form.Sessions (record { sessions = sessions; lines = lines }); cut = cut }) ∷ []; begun = Closed }) rest

-- in a block
abbrev pub inside_step : List Command → Option ℕ → ℕ → List Line → ℕ → ℕ → List ℕ → Result Reader ℕ
inside_step done cut sessions lines calls sectors line =
    if is_passed_over line then or_bad (bad_word line) (record { done = done; begun = Inside cut sessions lines calls sectors })
    else (if bytes_eq (first_word (from_word line)) (codes "end") then ended done cut sessions lines (past_word (from_word line))
    else and_then (session_line sessions (from_word line)) (added done cut sessions lines calls sectors (length line)))

abbrev pub open_step : Open → List Command → List ℕ → Result Reader ℕ
open_step Closed done line = closed_step done line
open_step (Making group cut text) done line = making_step done group cut text line
open_step (Inside cut sessions lines calls sectors) done line = inside_step done cut sessions lines calls sectors line

unfoldable pub step : Reader → List ℕ → Result Reader ℕ
step reader line = open_step reader.begun reader.done line
