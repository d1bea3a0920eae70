use Rattle.vx_script_print.proofs.Terms.{◌≡◌, ◌++◌, take, script_text}
use Rattle.vx_script_print.proofs.script.put_commands.Given as goal

abbrev pub invariant-loop-command : goal.invariant-loop-command
invariant-loop-command l = l.out.items ≡ l.fn.out.items ++ script_text (take l.command-index l.commands)
