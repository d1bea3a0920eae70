-- What is printed is read back.
use Rattle.std.specs.Prelude.{◌≡◌, ℕ, Ok, List}
use Rattle.std.specs.Bool.{IsTrue}
use Rattle.vx_script.specs.Kept.{is_kept}
use Rattle.vx_script.specs.Script.{script_of}
use Rattle.vx_script.specs.declared.command.Command.{Command}
use Rattle.vx_script_print.specs.Text.{script_text}

abbrev pub ReadBack : Type 0
ReadBack = (commands : List Command) → IsTrue (is_kept commands) → script_of (script_text commands) ≡ Ok commands

-- a text that was read and its printed text are one script
abbrev pub ReadAgain : Type 0
ReadAgain = (text : List ℕ) (commands : List Command) → script_of text ≡ Ok commands → script_of (script_text commands) ≡ Ok commands
