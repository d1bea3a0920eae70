use Rattle.std.proofs.Common.{◌≡◌, ◌+◌, ◌*◌, ◌++◌, ap, ◌∙◌, take, drop, arith}
use Rattle.std.proofs.Math.Seq.{take-add}
use Rattle.vx_started.proofs.bytes.bytes_of.Goals as goal

pub loop-index-preserved : goal.loop-index-preserved
loop-index-preserved c =
    let next : 512 * (c.loop-index.index + 1) ≡ 512 * c.loop-index.index + 512 = omega arith in
    let more : take (512 * (c.loop-index.index + 1)) c.args.blocks.now ≡ take (512 * c.loop-index.index) c.args.blocks.now ++ take 512 (drop (512 * c.loop-index.index) c.args.blocks.now) =
    ap (λ n. take n c.args.blocks.now) next ∙ take-add (512 * c.loop-index.index) 512 c.args.blocks.now in
    cc (more, c.loop-index.invariant, c.copy_block.ensures, c.in_ok-extend_from_slice.ensures.items)
