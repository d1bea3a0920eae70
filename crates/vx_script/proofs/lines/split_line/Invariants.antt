use Rattle.std.proofs.Common.{◌≡◌, take, drop}
use Rattle.vx_script.specs.Lines.{lines_from, lines_of}
use Rattle.vx_script.proofs.lines.split_line.Given as goal

abbrev pub invariant-loop-n : goal.invariant-loop-n
invariant-loop-n l = lines_from (take l.n l.text) (drop l.n l.text) ≡ lines_of l.text
