use Rattle.vx_script_print.proofs.Terms.{◌≡◌, ◌++◌, take, spelled}
use Rattle.vx_script_print.proofs.words.put_names.Given as goal

abbrev pub invariant-loop-name : goal.invariant-loop-name
invariant-loop-name l = l.out.items ≡ l.fn.out.items ++ spelled (take l.name-index l.names)
