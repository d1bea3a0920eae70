use Rattle.std.proofs.Common.{◌≡◌, drop}
use Rattle.vx_script.specs.Lines.{bad_from, bad_word}
use Rattle.vx_script.proofs.lines.bad_word.Given as goal

abbrev pub invariant-loop-k : goal.invariant-loop-k
invariant-loop-k l = bad_from l.word (drop l.k l.line) ≡ bad_word l.line
