-- The commands of a text, or the place of the first word that does not fit.
use Rattle.std.specs.Prelude.{◌≡◌, ℕ, ◌+◌, ◌-◌, Result, Ok, Err, List, [], ◌∷◌, length}
use Rattle.vx_script.specs.Lines.{lines_of}
use Rattle.vx_script.specs.Steps.{step}
use Rattle.vx_script.specs.declared.command.Command.{Command}
use Rattle.vx_script.specs.declared.fault.ScriptFault.{ScriptFault}
use Rattle.vx_script.specs.declared.fault.ScriptFault.TheVariants as fault
use Rattle.vx_script.specs.declared.reader.Open.{Open}
use Rattle.vx_script.specs.declared.reader.Open.TheVariants.{Closed, Making, Inside}
use Rattle.vx_script.specs.declared.reader.Reader.{Reader}

pub record Place : Type 0 where
  pub line : ℕ
  pub column : ℕ

-- behind the last line, of number n - 1
abbrev pub finished : Open → List Command → ℕ → Result (List Command) Place
finished Closed done n = Ok done
finished (Making group cut text) done n = Err (record { line = n; column = 1 })
finished (Inside cut sessions lines calls sectors) done n = Err (record { line = n; column = 1 })

abbrev pub stepped : Result Reader ℕ → (Reader → Result (List Command) Place) → ℕ → List ℕ → Result (List Command) Place
stepped (Ok reader) more n line = more reader
stepped (Err left) more n line = Err (record { line = n; column = length line - left + 1 })

-- from the line of number n on
abbrev pub commands_from : Reader → ℕ → List (List ℕ) → Result (List Command) Place
commands_from reader n [] = finished reader.begun reader.done n
commands_from reader n (line ∷ lines) = stepped (step reader line) (λ next. commands_from next (n + 1) lines) n line

unfoldable pub script_of : List ℕ → Result (List Command) Place
script_of text = commands_from (record { done = []; begun = Closed }) 1 (lines_of text)

abbrev pub Faults : ScriptFault → Result (List Command) Place → Type 0
Faults fault.OutOfMemory read = Unit {0}
Faults (fault.Script line column) read = read ≡ Err (record { line = line; column = column })
