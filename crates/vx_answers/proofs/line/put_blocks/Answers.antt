use Rattle.std.proofs.Common.{◌≡◌, ◌++◌, ◌+◌, ◌*◌, ◌-◌, [], ◌∷◌, add-one, arith, ◌∙◌, append_assoc, take, drop}
use Rattle.std.specs.List.{flat_map}
use Rattle.std.proofs.lemmas.List.{flat_map_more}
use Rattle.vx_block.specs.Word.{block_word}
use Rattle.vx_answers.specs.Lines.{block_word_at, below}
use Rattle.vx_answers.proofs.line.put_blocks.Goals as goal

pub loop-k-preserved : goal.loop-k-preserved
loop-k-preserved c =
    let size : 512 * c.loop-k.k + 512 - 512 * c.loop-k.k ≡ 512 = omega arith in
    let before = c.args.out.now.items ++ flat_map (block_word_at c.args.blocks.now) (below c.loop-k.k) in
    rw (add-one, c.in_ok-put_block.ensures.ok, c.in_ok-extend_from_slice.ensures.items, c.loop-k.invariant, size)
    (append_assoc before (32 ∷ []) (block_word (take 512 (drop (512 * c.loop-k.k) c.args.blocks.now))) ∙ flat_map_more (block_word_at c.args.blocks.now) c.args.out.now.items (below c.loop-k.k) c.loop-k.k)
