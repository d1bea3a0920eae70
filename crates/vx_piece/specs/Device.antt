-- What is seen of a whole device in memory that no call has met.
use Rattle.std.specs.Prelude.{ℕ, false, List, Some, None}
use Rattle.vx_base.specs.Blocks.{block_at, blocks_in}
use Rattle.vx_piece.specs.Seen.{Seen}

abbrev pub new_device : ℕ → List ℕ → Seen
new_device number bytes = record {
  device = number;
  start = 0;
  sectors = blocks_in bytes;
  told = Some (block_at bytes);
  faults = 0;
  writes = 0;
  reads = 0;
  cut = false;
  stop = None;
}
