use Rattle.vx_script_print.proofs.Terms.{◌≡◌, ◌++◌, take, row_words, spelled}
use Rattle.vx_script_print.proofs.words.put_row.Given as goal

abbrev pub invariant-loop-n : goal.invariant-loop-n
invariant-loop-n l = l.out.items ≡ l.fn.out.items ++ spelled (row_words (take l.n l.items) (take l.n l.values))
