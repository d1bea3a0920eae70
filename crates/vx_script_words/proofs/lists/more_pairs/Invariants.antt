use Rattle.std.proofs.Common.{◌≡◌, ◌-◌, length}
use Rattle.vx_script_words.specs.Parts.{pair_of}
use Rattle.vx_script_words.specs.Row.{gather, pushed}
use Rattle.vx_script_words.proofs.lists.more_pairs.Given as goal

abbrev pub invariant-loop-n : goal.invariant-loop-n
invariant-loop-n l = gather pair_of pushed (length l.text - l.n) l.disks l.rest ≡ gather pair_of pushed (length l.text) l.fn.disks l.text
