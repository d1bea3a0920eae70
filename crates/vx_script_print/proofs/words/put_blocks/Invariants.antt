use Rattle.vx_script_print.proofs.Terms.{◌≡◌, ◌++◌, ◌/◌, take, map, length, block_word, cut_blocks, spelled}
use Rattle.vx_script_print.proofs.words.put_blocks.Given as goal

abbrev pub invariant-loop-n : goal.invariant-loop-n
invariant-loop-n l = l.out.items ≡ l.fn.out.items ++ spelled (map block_word (take l.n (cut_blocks (length l.blocks / 512) l.blocks)))
