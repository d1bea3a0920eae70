use Rattle.std.proofs.Common.{◌≡◌, ◌++◌}
use Rattle.std.specs.List.{flat_map}
use Rattle.vx_answers.specs.Lines.{block_word_at, below}
use Rattle.vx_answers.proofs.line.put_blocks.Given as goal

abbrev pub invariant-loop-k : goal.invariant-loop-k
invariant-loop-k l = l.out.items ≡ l.fn.out.items ++ flat_map (block_word_at l.blocks) (below l.k)
