use Rattle.std.proofs.Common.{rules, arith}
use Rattle.vx_script_words.specs.Words.{is_blank}
use Rattle.vx_script_words.proofs.Places.{place_here, place_end}
use Rattle.vx_script_words.proofs.words.word_len.Goals as goal

pub returns-then-is_blank-clause-place : goal.returns-then-is_blank-clause-place
returns-then-is_blank-clause-place c = place_here is_blank c.args.text.now c.loop-n.n (omega arith) c.loop-n.invariant (search rules)

pub returns-clause-place : goal.returns-clause-place
returns-clause-place c = place_end is_blank _ c.loop-n.n (omega arith) (omega arith) c.loop-n.invariant
