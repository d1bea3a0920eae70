use Rattle.std.proofs.Common.{◌≡◌, ◌+◌, ◌≤◌, length}
use Rattle.vx_script.specs.Lines.{lines_of}
use Rattle.vx_script.specs.Script.{commands_from, script_of}
use Rattle.vx_script.proofs.script.read.Given as goal

abbrev pub invariant-loop-rest : goal.invariant-loop-rest
invariant-loop-rest l = record {
  same : commands_from l.reader l.number (lines_of l.rest) ≡ script_of l.text;
  bound : l.number + length l.rest ≤ length l.text + 1;
}

abbrev pub decreases-loop-rest : goal.decreases-loop-rest
decreases-loop-rest l = length l.rest
