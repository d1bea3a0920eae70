use Rattle.std.proofs.Common.{◌≡◌, ◌-◌}
use Rattle.vx_script_words.specs.Hex.{block_of}
use Rattle.vx_script_words.specs.Row.{gather, joined}
use Rattle.vx_script_words.proofs.lists.more_blocks.Given as goal

abbrev pub invariant-loop-n : goal.invariant-loop-n
invariant-loop-n l = gather block_of joined (63 - l.n) l.blocks l.rest ≡ gather block_of joined 63 l.fn.blocks l.text
