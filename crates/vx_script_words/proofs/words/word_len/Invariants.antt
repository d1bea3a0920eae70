use Rattle.std.proofs.Common.{◌≡◌, ℕ, ◌<◌, false, get_or}
use Rattle.vx_script_words.specs.Words.{is_blank}
use Rattle.vx_script_words.proofs.words.word_len.Given as goal

abbrev pub invariant-loop-n : goal.invariant-loop-n
invariant-loop-n l = (k : ℕ) → k < l.n → is_blank (get_or l.text k 0) ≡ false
