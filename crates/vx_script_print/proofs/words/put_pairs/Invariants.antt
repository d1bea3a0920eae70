use Rattle.vx_script_print.proofs.Terms.{◌≡◌, ◌++◌, take, map, pair_word, spelled}
use Rattle.vx_script_print.proofs.words.put_pairs.Given as goal

abbrev pub invariant-loop-pair : goal.invariant-loop-pair
invariant-loop-pair l = l.out.items ≡ l.fn.out.items ++ spelled (map pair_word (take l.pair-index l.pairs))
