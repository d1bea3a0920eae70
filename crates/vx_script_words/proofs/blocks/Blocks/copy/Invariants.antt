use Rattle.std.proofs.Common.{◌≡◌, take, true}
use Rattle.std.specs.List.{list_all, flat_map}
use Rattle.vx_script_words.specs.Blocks.{block_bytes, is_whole}
use Rattle.vx_script_words.proofs.blocks.Blocks.copy.Given as goal

abbrev pub invariant-loop-block : goal.invariant-loop-block
invariant-loop-block l = record {
  same : flat_map block_bytes l.items.items ≡ flat_map block_bytes (take l.block-index l.block-items);
  whole : list_all is_whole l.items.items ≡ true;
}
