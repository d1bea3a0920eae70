use Rattle.std.proofs.lemmas.Bool.{cond-false, false_from_ne_true}
use Rattle.vx_block.specs.Reading.{is_block_word}
use Rattle.vx_script_words.specs.Hex.{block_of}
use Rattle.vx_script_words.proofs.hex.block_of.Goals as goal

pub returns-in-Err-clause-found : goal.returns-in-Err-clause-found
unfolding block_of
returns-in-Err-clause-found c = cond-false _ _ _ (false_from_ne_true (is_block_word c.args.word.now) (λ t. let there = c.in-Err.ensures.form.1 t in cc))
