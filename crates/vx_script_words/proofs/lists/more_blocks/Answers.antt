use Rattle.std.proofs.Common.{rules, arith, ap₂, ◌≡◌, ◌∙◌, ◌+◌, ◌-◌, Some}
use Rattle.vx_script_words.specs.Blocks.{block_bytes}
use Rattle.vx_script_words.specs.Hex.{block_of}
use Rattle.vx_script_words.specs.Row.{gather, joined}
use Rattle.vx_script_words.specs.Words.{from_word, first_word, past_word}
use Rattle.vx_script_words.proofs.Lines.{gather_stop, gather_more, gather_end}
use Rattle.vx_script_words.proofs.lists.more_blocks.Goals as goal

pub returns-in_default : goal.returns-in_default
returns-in_default c = gather_stop block_of joined 63 c.loop-n.n c.loop-n.blocks c.loop-n.rest.now _ (omega arith) (search rules) c.loop-n.invariant

pub loop-n-preserved : goal.loop-n-preserved
loop-n-preserved c =
    let found = rw c.in-Some.is at c.in_ok-block.ensures.found in
    let word : c.first_word.result.now ≡ first_word (from_word c.loop-n.rest.now) = search rules in
    let says : block_of (first_word (from_word c.loop-n.rest.now)) ≡ Some (block_bytes c.in-Some.block) = rw (← word) found in
    let more = gather_more block_of joined 63 c.loop-n.n c.loop-n.blocks c.loop-n.rest.now (block_bytes c.in-Some.block) _ (omega arith) says c.loop-n.invariant in
    let behind : c.past_word-rest.result.now ≡ past_word (from_word c.loop-n.rest.now) = search rules in
    ap₂ (gather block_of joined (63 - (c.loop-n.n + 1))) c.in_ok-blocks.ensures behind ∙ more

pub returns : goal.returns
returns c = gather_end block_of joined 63 c.loop-n.n c.loop-n.blocks c.loop-n.rest.now _ (omega arith) c.loop-n.invariant
