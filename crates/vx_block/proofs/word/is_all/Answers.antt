use Rattle.std.proofs.Common.{rules, ◌∙◌}
use Rattle.vx_block.proofs.WordLemmas.{all_folded}
use Rattle.vx_block.proofs.word.is_all.Goals as goal

-- src/word.rt:21:1
pub returns : goal.returns
returns c = c.are_all.ensures ∙ all_folded c.args.byte c.args.bytes.now
