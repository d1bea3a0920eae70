use Rattle.std.proofs.Common.{◌≡◌, ◌==◌, ℕ, ◌<◌, false, get_or}
use Rattle.vx_script_words.proofs.words.place_of.Given as goal

abbrev pub invariant-loop-n : goal.invariant-loop-n
invariant-loop-n l = (k : ℕ) → k < l.n → (get_or l.text k 0 == l.byte) ≡ false
