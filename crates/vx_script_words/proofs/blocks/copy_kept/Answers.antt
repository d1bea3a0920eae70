use Rattle.std.proofs.Common.{◌≡◌, ◌∙◌, ap, sym, arith, length}
use Rattle.std.proofs.lemmas.Bool.{eqb-true}
use Rattle.vx_script_words.specs.Blocks.{block_bytes}
use Rattle.vx_script_words.proofs.blocks.copy_kept.Goals as goal

pub copy_from_slice-requires-in-Whole : goal.copy_from_slice-requires-in-Whole
copy_from_slice-requires-in-Whole c =
    let size : length (block_bytes c.args.block.now) ≡ 512 = eqb-true (length (block_bytes c.args.block.now)) 512 c.requires.whole in
    let same : length c.as_slice.result.now ≡ length (block_bytes c.args.block.now) = ap length (c.as_slice.ensures ∙ c.deref.ensures) ∙ ap (λ b. length (block_bytes b)) (sym c.in-Whole.is) in
    omega (arith, size, same, c.requires.size)
