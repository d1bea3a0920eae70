use Rattle.std.proofs.Common.{rules, refl}
use Rattle.vx_block.proofs.WordLemmas.{read_again, is_word_again}
use Rattle.vx_block.proofs.reading.read_block.Goals as goal

pub returns-then-is_short_word-clause-printed : goal.returns-then-is_short_word-clause-printed
returns-then-is_short_word-clause-printed c block len h e = (refl, read_again _ block _ len h e (search rules))

pub returns-then-is_long_word-clause-printed : goal.returns-then-is_long_word-clause-printed
returns-then-is_long_word-clause-printed c block len h e = (refl, read_again _ block _ len h e (search rules))

pub returns-clause-printed : goal.returns-clause-printed
returns-clause-printed c block len h e = absurd (is_word_again _ block len h e (search rules))
