use Rattle.std.proofs.Common.{◌≡◌, ap, arith, length}
use Rattle.vx_script_words.proofs.BlockLists.{whole_length}
use Rattle.vx_script_words.proofs.blocks.Blocks.count.Goals as goal

pub returns : goal.returns
returns c =
    let size = whole_length c.self.inside.items.items c.self.invariant in
    let same : length c.as_slice.result.now ≡ length c.self.inside.items.items = ap length c.as_slice.ensures.value in
    omega (arith, size, same, ap length c.self.view_is)
