use Rattle.std.proofs.Common.{◌∙◌, ap, sym, arith, length, get_or}
use Rattle.vx_script_words.specs.Blocks.{block_bytes, block_at, is_whole}
use Rattle.vx_script_words.proofs.BlockLists.{block_there, whole_there, inside}
use Rattle.vx_script_words.proofs.blocks.Blocks.copy_block.Goals as goal

pub bounds-items-index : goal.bounds-items-index
bounds-items-index c = omega (arith, inside c.self.inside.items.items c.args.self.now c.args.index c.self.invariant c.self.view_is c.requires.inside, ap length c.as_slice-items.ensures.value)

pub offset_bounds-items-index : goal.offset_bounds-items-index
offset_bounds-items-index c =
    let some = inside c.self.inside.items.items c.args.self.now c.args.index c.self.invariant c.self.view_is c.requires.inside in
    let same = ap length c.as_slice-items.ensures.value in
    let small = c.as_slice-items.type_inv.1 in
    omega (arith, some, same, small)

pub copy_kept-requires-clause-whole : goal.copy_kept-requires-clause-whole
copy_kept-requires-clause-whole c =
    let there = whole_there c.self.inside.items.items c.args.index c.index-items-index.result c.self.invariant (inside c.self.inside.items.items c.args.self.now c.args.index c.self.invariant c.self.view_is c.requires.inside) in
    ap is_whole (c.index-items-index.is ∙ ap (λ bs. get_or bs c.args.index c.index-items-index.result) c.as_slice-items.ensures.value) ∙ there

pub returns : goal.returns
returns c =
    let there = block_there c.self.inside.items.items c.args.index c.index-items-index.result c.self.invariant (inside c.self.inside.items.items c.args.self.now c.args.index c.self.invariant c.self.view_is c.requires.inside) in
    c.copy_kept.ensures ∙ ap block_bytes (c.index-items-index.is ∙ ap (λ bs. get_or bs c.args.index c.index-items-index.result) c.as_slice-items.ensures.value) ∙ sym there ∙ ap (block_at c.args.index) c.self.view_is
