use Rattle.std.proofs.Common.{◌≡◌, ◌-◌, length, []}
use Rattle.vx_script_words.specs.Parts.{name_of}
use Rattle.vx_script_words.specs.Row.{gather, pushed}
use Rattle.vx_script_words.proofs.lists.some_names.Given as goal

abbrev pub invariant-loop-n : goal.invariant-loop-n
invariant-loop-n l = gather name_of pushed (length l.text - l.n) l.names l.rest ≡ gather name_of pushed (length l.text) [] l.text
