use Rattle.vx_script_print.proofs.Terms.{◌≡◌, ◌++◌, take, flat_map, line_text}
use Rattle.vx_script_print.proofs.script.put_lines.Given as goal

abbrev pub invariant-loop-line : goal.invariant-loop-line
invariant-loop-line l = l.out.items ≡ l.fn.out.items ++ flat_map line_text (take l.line-index l.lines)
